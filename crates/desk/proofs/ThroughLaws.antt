-- What the promise of `answer_lines` means. What its steps print one after the other is told by the laws of `desk_lines`.
--     says_one                     a line has one answer, as `desk_lines` asks
--     answers_from_determined      no two results meet it
--     from_lines                   an input that is taken is gone through
-- Assumes nothing.
use mathlib.Core.List.{List}
use mathlib.Core.Logic.{◌⊎◌, inl, inr}
use mathlib.Core.Path.{◌≡◌, refl, ap, ap₂, ◌∙◌}
use Prim.Native.Nat.{ℕ, ◌≤◌, ◌<◌}
use native.Mathlib.Omega.{arith}
use lib.ListN.{length}
use Rattle.std.specs.Prelude.{Result}
use Rattle.units.specs.declared.Refusal.{Refusal}
use Rattle.units.specs.Limits.{most_text}
use Rattle.text.specs.Lines.{Line}
use Rattle.search.specs.declared.answer.Best.{Best}
use Rattle.desk_lines.specs.Through.{AnswersLines}
use Rattle.desk_lines.proofs.PrintLaws.{HasOneAnswer}
use Rattle.desk_lines.proofs.ThroughLaws.{lines_determined}
use Rattle.desk.specs.Answers.{answer_bytes}
use Rattle.desk.specs.Through.{longest, Says, says, AnswersFrom, not_taken, taken}
use Rattle.desk.specs.declared.through.Reached.{Reached}
use Rattle.desk.proofs.DeskLaws.{replies_determined}

same_reached : {r s : Reached} → r.at ≡ s.at → r.number ≡ s.number → r.used ≡ s.used → r ≡ s
same_reached {r} {s} a b c =
    ap (λ (i : ℕ). record { at = i; number = r.number; used = r.used }) a
    ∙ ap (λ (i : ℕ). record { at = s.at; number = i; used = r.used }) b
    ∙ ap (λ (i : ℕ). record { at = s.at; number = s.number; used = i }) c

over : {a b : ℕ} → (most_text < a) ⊎ (most_text < b) → a ≤ most_text → b ≤ most_text → ⊥
over (inl h) f g = omega arith
over (inr h) f g = omega arith

module _ (contacts : List ℕ) (m : ℕ) (ranges : List ℕ) (k : ℕ) where
  pub says_one : HasOneAnswer (Says contacts m ranges k)
  says_one = record { same = one }
    where
      one : {s t u : Unit {0}} {l : Line} {n : ℕ} {a b : List ℕ} → Says contacts m ranges k s l n a t → Says contacts m ranges k s l n b u
          → (a ≡ b) × (t ≡ u)
      one (says x) (says y) =
          let both = replies_determined x y in
          (ap₂ (λ (answer : Result Best Refusal) (chain : List ℕ). answer_bytes answer chain) both.0 both.1, refl)

module _ {contacts : List ℕ} {m : ℕ} {ranges : List ℕ} {k : ℕ} {input : List ℕ} {at n : ℕ} {out : List ℕ} where
  pub answers_from_determined : {r s : Reached} {out₁ out₂ : List ℕ} → AnswersFrom contacts m ranges k input at n out r out₁
      → AnswersFrom contacts m ranges k input at n out s out₂ → (r ≡ s) × (out₁ ≡ out₂)
  answers_from_determined (not_taken h) (not_taken g) = (refl, refl)
  answers_from_determined (not_taken h) (taken few low y) = absurd (over h few low)
  answers_from_determined (taken few low x) (not_taken h) = absurd (over h few low)
  answers_from_determined (taken few low x) (taken f l y) =
      let same = lines_determined (says_one contacts m ranges k) x y in
      (same_reached same.0 same.1 same.2, same.3)

  pub from_lines : {r : Reached} {out' : List ℕ} → AnswersFrom contacts m ranges k input at n out r out' → length input ≤ most_text → n ≤ most_text
      → AnswersLines (Says contacts m ranges k) longest input tt at n out tt r.at r.number r.used out'
  from_lines (not_taken h) few low = absurd (over h few low)
  from_lines (taken f l x) few low = x
