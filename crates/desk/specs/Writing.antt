-- What the functions inside `write_answer` say. A reader of the promises may skip it.
--     WritesLine      bytes are written into lent bytes
-- Assumes nothing.
use Rattle.std.specs.Prelude.{List, ◌++◌, ℕ, ◌≤◌, ◌<◌, length, drop, Result, Ok, Err}
use Rattle.units.specs.declared.Refusal.{Refusal}
use Rattle.units.specs.declared.Refusal.TheVariants.{ShortOutput}

-- 10 with their length where the output is shorter, and no lent byte changes; else their length: the first bytes of the output are then these, and
-- only they change
pub data WritesLine (bytes out : List ℕ) : Result ℕ Refusal → List ℕ → Type 0 where
  too_short : length out < length bytes → WritesLine bytes out (Err (ShortOutput (length bytes))) out
  written : length bytes ≤ length out → WritesLine bytes out (Ok (length bytes)) (bytes ++ drop (length bytes) out)
