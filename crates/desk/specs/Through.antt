-- What answering the lines of an input promises, a buffer at a time: the definitions of `desk_lines` with the answers of `answer_line`
-- (proofs/ThroughLaws.antt: no two results meet it).
--     longest          the bytes of the longest answer
--     Says             the answer of a line, as bytes
--     AnswersFrom      the lines of an input from a place on are answered
-- Assumes nothing.
use Rattle.std.specs.Prelude.{List, ◌⊎◌, ℕ, ◌≤◌, ◌<◌, length, Result}
use Rattle.units.specs.Limits.{most_text}
use Rattle.text.specs.Lines.{Line}
use Rattle.units.specs.declared.Refusal.{Refusal}
use Rattle.search.specs.declared.answer.Best.{Best}
use Rattle.desk_lines.specs.Through.{AnswersLines}
use Rattle.desk.specs.Answers.{answer_bytes}
use Rattle.desk.specs.Desk.{Replies}
use Rattle.desk.specs.declared.through.Reached.{Reached}

abbrev pub longest : ℕ
longest = 305

module _ (contacts : List ℕ) (m : ℕ) (ranges : List ℕ) (k : ℕ) where
  -- the bytes of its answer; nothing is kept from line to line
  pub data Says (s : Unit {0}) (l : Line) (n : ℕ) : List ℕ → Unit {0} → Type 0 where
    says : {answer : Result Best Refusal} {chain : List ℕ} → Replies contacts m ranges k l n answer chain → Says s l n (answer_bytes answer chain) s

  -- an input over 65,536 bytes is not gone through, nor one from a line number above that, which no shorter input has: the place stays, and no byte
  -- changes. Else the lines from byte `at` on are, the first of which has the place n in the input
  pub data AnswersFrom (input : List ℕ) (at n : ℕ) (out : List ℕ) : Reached → List ℕ → Type 0 where
    not_taken : (most_text < length input) ⊎ (most_text < n) → AnswersFrom input at n out (record { at = at; number = n; used = 0 }) out
    taken : {r : Reached} {out' : List ℕ} → length input ≤ most_text → n ≤ most_text
        → AnswersLines Says longest input tt at n out tt r.at r.number r.used out' → AnswersFrom input at n out r out'
