-- What the program `route` prints.
--     printed_determined      for a plan text and an input there is one output at the most
--     runs_print              the calls that the program makes, one after the other, print it
--     part_prints             so do parts of the answers, joined from the first byte and the number 1 up to the input's end
--     wrote_line              the bytes that `write_answer` says it wrote are the answer's line
-- Assumes nothing.
use mathlib.Core.List.{List, []}
use mathlib.Core.Path.{◌≡◌, refl, sym, ap, subst, subst₂}
use Prim.Native.Nat.{ℕ, ◌≤◌}
use native.Mathlib.Omega.{arith}
use lib.ListN.{length, take, drop}
use lib.Seq.{take_at}
use Rattle.std.specs.Prelude.{Result, Ok, Err}
use Rattle.units.specs.Limits.{most_text}
use Rattle.units.specs.declared.Refusal.{Refusal}
use Rattle.text.specs.Calls.{counts, Reads}
use Rattle.text.specs.declared.answer.Counts.{Counts}
use Rattle.text.specs.Lines.{lines_of}
use Rattle.text.proofs.Calls.{reads_determined}
use Rattle.search.specs.declared.answer.Best.{Best}
use Rattle.desk_lines.specs.Through.{Prints, AnswersPart}
use Rattle.desk_lines.proofs.PrintLaws.{prints_determined}
use Rattle.desk_lines.proofs.ThroughLaws.{part_whole, all_printed}
use Rattle.desk.specs.Answers.{answer_bytes, WritesAnswer, written}
use Rattle.desk.specs.Program.{blank_table, Printed, plan_refused, input_refused, answered, Runs, stops_at_plan, stops_at_input, goes_through}
use Rattle.desk.specs.Through.{Says}
use Rattle.desk.proofs.ThroughLaws.{says_one}

pub wrote_line : {answer : Result Best Refusal} {chain out : List ℕ} {used : ℕ} {out' : List ℕ} → WritesAnswer answer chain out (Ok used) out'
    → take used out' ≡ answer_bytes answer chain
wrote_line {answer} {chain} {out} (written has h) =
    let bytes : List ℕ = answer_bytes answer chain in
    take_at bytes (drop (length bytes) out) (length bytes) refl

same_refusal : {x y : Refusal} → ◌≡◌ {A = Result Counts Refusal} (Err x) (Err y) → x ≡ y
same_refusal e = cc

same_counts : {m n j k : ℕ} → ◌≡◌ {A = Result Counts Refusal} (Ok (counts m n)) (Ok (counts j k)) → (m ≡ j) × (n ≡ k)
same_counts {m} {n} {j} {k} e =
    let same : counts m n ≡ counts j k = cc in
    (ap (λ (c : Counts). c.contacts) same, ap (λ (c : Counts). c.ranges) same)

module _ {text : List ℕ} where
  plan_or_not : {why : Refusal} {m n : ℕ} {a b c d : List ℕ} → Reads text blank_table blank_table (Err why) a b
      → Reads text blank_table blank_table (Ok (counts m n)) c d → ⊥
  plan_or_not x y = let e = (reads_determined x y).0 in cc

  module _ {input : List ℕ} where
    pub printed_determined : {a b : List ℕ} → Printed text input a → Printed text input b → a ≡ b
    printed_determined (plan_refused x) (plan_refused y) = ap (λ (why : Refusal). answer_bytes (Err why) []) (same_refusal (reads_determined x y).0)
    printed_determined (plan_refused x) (input_refused y g) = absurd (plan_or_not x y)
    printed_determined (plan_refused x) (answered y g q) = absurd (plan_or_not x y)
    printed_determined (input_refused x h) (plan_refused y) = absurd (plan_or_not y x)
    printed_determined (input_refused x h) (input_refused y g) = refl
    printed_determined (input_refused x h) (answered y g q) = absurd (omega arith)
    printed_determined (answered x h p) (plan_refused y) = absurd (plan_or_not y x)
    printed_determined (answered x h p) (input_refused y g) = absurd (omega arith)
    printed_determined {b} (answered {m} {n} {contacts} {ranges} x h p) (answered y g q) =
        (prints_determined (says_one contacts m ranges n) p (move (reads_determined x y) q)).0
      where
        move : {j k : ℕ} {cs rs : List ℕ} → (◌≡◌ {A = Result Counts Refusal} (Ok (counts m n)) (Ok (counts j k))) × (contacts ≡ cs) × (ranges ≡ rs)
            → Prints (Says cs j rs k) tt 1 (lines_of input) b tt → Prints (Says contacts m ranges n) tt 1 (lines_of input) b tt
        move {j} {cs} (e, same_contacts, same_ranges) r =
            let counts = same_counts e in
            subst₂ (λ (i : ℕ) (xs : List ℕ). Prints (Says xs i ranges n) tt 1 (lines_of input) b tt) (sym counts.0) (sym same_contacts)
            (subst₂ (λ (i : ℕ) (xs : List ℕ). Prints (Says cs j xs i) tt 1 (lines_of input) b tt) (sym counts.1) (sym same_ranges) r)

    pub runs_print : {bytes : List ℕ} → Runs text input bytes → Printed text input bytes
    runs_print (stops_at_plan x w) = subst (Printed text input) (sym (wrote_line w)) (plan_refused x)
    runs_print (stops_at_input x h w) = subst (Printed text input) (sym (wrote_line w)) (input_refused x h)
    runs_print (goes_through x h c) = answered x h (all_printed c)

    pub part_prints : {m n : ℕ} {contacts ranges : List ℕ} {to n' : ℕ} {bytes : List ℕ} → Reads text blank_table blank_table (Ok (counts m n)) contacts ranges
        → length input ≤ most_text → AnswersPart (Says contacts m ranges n) input tt 0 1 tt to n' bytes → length input ≤ to → Printed text input bytes
    part_prints x few p over = answered x few (part_whole p over)
