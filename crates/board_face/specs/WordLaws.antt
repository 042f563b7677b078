-- What each kind of success must prove of its words. A reader of the promises may skip it.
-- Assumes nothing.
use Rattle.std.specs.Prelude.{List, ◌≡◌, ℕ, ◌+◌, ◌≤◌, length}

pub record WordLaws {T : Type 0} (words_of : T → List ℕ) (room : ℕ) : Type 0 where
  -- no two are told alike
  pub told_apart : (x y : T) → words_of x ≡ words_of y → x ≡ y
  -- there is room for two words more than its own, and for a refusal's two
  pub fits : (x : T) → 2 + length (words_of x) ≤ room
  pub least : 2 ≤ room
