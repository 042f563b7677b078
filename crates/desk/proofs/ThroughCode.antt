-- What the code of `answer_lines` knows.
--     answered_into      where `answer_line` writes, it is the line's answer
--     never_refused      with room for the longest answer it does write
-- Assumes nothing.
use mathlib.Core.List.{List, [], ◌++◌, append-nil}
use mathlib.Core.Path.{◌≡◌, refl, sym, ap, ◌∙◌}
use Prim.Native.Nat.{ℕ, ◌+◌, ◌-◌, ◌^◌, ◌≤◌, ◌<◌}
use native.Mathlib.Omega.{arith}
use borrow.Author.Rules.{part_to_end}
use lib.ListN.{length, take, drop, length-drop, drop_of_length-le}
use Rattle.std.specs.Prelude.{Result, Ok, Err}
use Rattle.units.specs.declared.Refusal.{Refusal}
use Rattle.text.specs.Lines.{Line}
use Rattle.search.specs.declared.answer.Best.{Best}
use Rattle.desk_lines.specs.Turn.{AnswersInto}
use Rattle.desk.specs.Answers.{answer_bytes, WritesAnswer, no_chain, too_short, written}
use Rattle.desk.specs.Desk.{Answers}
use Rattle.desk.specs.Through.{longest, Says, says}
use Rattle.desk.proofs.DeskLaws.{answers_has_room}

-- ---- a line answered

-- what is written, where something is
record Wrote (bytes out : List ℕ) (b : ℕ) (out' : List ℕ) : Type 0 where
  long : b ≡ length bytes
  fits : b ≤ length out
  puts : out' ≡ bytes ++ drop (length bytes) out

wrote : {answer : Result Best Refusal} {chain out : List ℕ} {r : Result ℕ Refusal} {out' : List ℕ} (b : ℕ) → WritesAnswer answer chain out r out' → r ≡ Ok b
    → Wrote (answer_bytes answer chain) out b out'
wrote b (no_chain f) e = absurd (cc)
wrote b (too_short has h) e = absurd (cc)
wrote {answer} {chain} b (written has h) e =
    let long : b ≡ length (answer_bytes answer chain) = cc in
    record { long = long; fits = omega arith; puts = refl }

module _ {contacts : List ℕ} {m : ℕ} {ranges : List ℕ} {k : ℕ} {l : Line} {n : ℕ} where
  pub answered_into : (out : List ℕ) (used : ℕ) (out'' : List ℕ) {r : Result ℕ Refusal} (b : ℕ) → used ≤ length out
      → Answers contacts m ranges k l n (take (length out - used) (drop used out)) r out'' → r ≡ Ok b
      → AnswersInto (Says contacts m ranges k) tt l n out used tt (used + b) (take used out ++ (out'' ++ drop (length out - used) (drop used out)))
  answered_into out used out'' b inside x e =
      let one : List ℕ = answer_bytes x.answer x.chain in
      let whole : take (length out - used) (drop used out) ≡ drop used out = part_to_end out used in
      let w = wrote b x.writes e in
      let all : length (drop used out) ≤ length out - used = omega (arith, length-drop used out) in
      let after : drop (length out - used) (drop used out) ≡ [] = drop_of_length-le (drop used out) all in
      record {
        one = one;
        says = says x.replies;
        ends = ap (λ (i : ℕ). used + i) w.long;
        fits = omega (arith, w.fits, ap length whole, length-drop used out);
        puts =
            ap (λ (bs : List ℕ). take used out ++ bs)
            (ap (λ (bs : List ℕ). out'' ++ bs) after ∙ append-nil out'' ∙ w.puts ∙ ap (λ (bs : List ℕ). one ++ drop (length one) bs) whole);
      }

  pub never_refused : (out : List ℕ) (used : ℕ) (out'' : List ℕ) {r : Result ℕ Refusal} (why : Refusal) → n < 2 ^ 64 → used + longest ≤ length out
      → Answers contacts m ranges k l n (take (length out - used) (drop used out)) r out'' → r ≡ Err why → ⊥
  never_refused out used out'' why few room a e =
      let roomy : 305 ≤ length (take (length out - used) (drop used out)) = omega (arith, ap length (part_to_end out used), length-drop used out) in
      let h = answers_has_room (omega arith) roomy a in
      let both : ◌≡◌ {A = Result ℕ Refusal} (Ok h.0) (Err why) = sym h.1 ∙ e in
      cc
