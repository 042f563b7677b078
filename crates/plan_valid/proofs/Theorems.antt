-- What the other crates cite of validity.
--     is_plan_determined      two answers that meet the promise of `is_plan` are equal
-- Assumes nothing.
use mathlib.Core.Bool.{Bool}
use mathlib.Core.List.{List}
use mathlib.Core.Path.{◌≡◌}
use Prim.Native.Nat.{ℕ}
use Rattle.plan.specs.Tables.{IsPlan}
use Rattle.plan.specs.Verdict.{Verdict}
use Rattle.plan.proofs.Verdicts.{answers_agree}

pub is_plan_determined : {contacts : List ℕ} {m : ℕ} {ranges : List ℕ} {n : ℕ} {a b : Bool} → Verdict (IsPlan contacts m ranges n) a
    → Verdict (IsPlan contacts m ranges n) b → a ≡ b
is_plan_determined one other = answers_agree one other
