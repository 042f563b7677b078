-- What the contracts of single steps speak of. A reader of the promises may skip it.
--     FreePlace      the lowest free place, or nothing where none is free
--     ChainFits      the table has room for a chain in a place, and its numbers fit
-- Assumes nothing.
use Rattle.std.specs.Prelude.{List, ℕ, Option, ◌+◌, ◌*◌, ◌≤◌, ◌<◌, length, MatchOption}
use Rattle.units.specs.Limits.{most_chain}
use Rattle.plan.specs.Plan.{Each}
use Rattle.book_keeping.specs.Keeping.{IsLowestFree, AllOpen}

abbrev pub FreePlace : List ℕ → Option ℕ → Type 0
FreePlace t found = MatchOption found (AllOpen t) (IsLowestFree t)

-- contact numbers are kept in 16 bits
pub record ChainFits (u : List ℕ) (k : ℕ) (chain : List ℕ) : Type 0 where
  pub there : k * most_chain + length chain ≤ length u
  pub small : Each (λ n. n < 65_536) chain
