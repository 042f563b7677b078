-- What the code that refuses knows.
--     refused_within      the bytes written are some of the output's
--     refused_line        they are the refusal's line
--     refused_fits        305 bytes have room for it
-- Assumes nothing.
use Rattle.std.proofs.Common.{◌≡◌, ℕ, ◌^◌, ◌≤◌, ◌<◌, List, [], length, take, Result, Ok, Err, sym, ◌∙◌, arith}
use native.Mathlib.Nat.{le_trans}
use Rattle.units.specs.Refusals.{place_of}
use Rattle.units.specs.declared.Refusal.{Refusal}
use Rattle.desk.specs.Answers.{answer_bytes, of_refusal, WritesAnswer}
use Rattle.desk.proofs.AnswerLaws.{writes_answer_fits, refused_line_short, has_room}
use Rattle.desk.proofs.ProgramLaws.{wrote_line}

module _ {why : Refusal} {out : List ℕ} {r : Result ℕ Refusal} {out' : List ℕ} (w : WritesAnswer (Err why) [] out r out') where
  pub refused_within : (used : ℕ) → r ≡ Ok used → used ≤ length out
  refused_within used e = writes_answer_fits (rw e at w)

  pub refused_line : (used : ℕ) → r ≡ Ok used → take used out' ≡ answer_bytes (Err why) []
  refused_line used e = wrote_line (rw e at w)

  pub refused_fits : place_of why < 2 ^ 64 → 305 ≤ length out → (other : Refusal) → r ≡ Err other → ⊥
  refused_fits few room other e =
      let short = refused_line_short why [] (omega arith) in
      let told = sym (has_room of_refusal (le_trans short (omega arith)) w) ∙ e in
      cc
