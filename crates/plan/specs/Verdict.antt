-- What the answer of a test says of a statement: true where it holds, and false where it does not.
-- Assumes nothing.
use Rattle.std.specs.Prelude.{Bool, true, false}

pub data Verdict (A : Type 0) : Bool → Type 0 where
  holds : A → Verdict A true
  fails : (A → ⊥) → Verdict A false
