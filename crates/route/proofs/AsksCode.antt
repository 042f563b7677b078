-- What the code that answers an input knows of the place and the line that are printed.
--     none_yet          where nothing is printed
--     joined            the parts printed so far, and one more
--     line_most         the line there is one of the input's
--     used_within, part_from      the bytes used are the answers of the lines from there on
--     further_from      the place and the line that are printed then
-- Assumes nothing.
use mathlib.Core.List.{List, [], ◌++◌}
use mathlib.Core.Path.{◌≡◌, refl, sym, subst₂}
use Prim.Native.Nat.{ℕ, ◌≤◌, ◌<◌}
use native.Mathlib.Omega.{arith}
use lib.ListN.{length, take}
use Rattle.units.specs.Limits.{most_text}
use Rattle.text.specs.Lines.{glue}
use Rattle.desk_lines.specs.Through.{none, AnswersPart}
use Rattle.desk_lines.proofs.LineLaws.{lines_few, some_line}
use Rattle.desk_lines.proofs.ThroughLaws.{part_left, parts_join, lines_part, lines_length, lines_go_on}
use Rattle.desk.specs.Through.{longest, Says, AnswersFrom}
use Rattle.desk.specs.declared.through.Reached.{Reached}
use Rattle.desk.proofs.ThroughLaws.{from_lines}
use Rattle.route.specs.Receipts.{Further}
use Rattle.route.specs.declared.output.PrintedAnswers.{PrintedAnswers}

module _ (contacts : List ℕ) (m : ℕ) (ranges : List ℕ) (k : ℕ) (input : List ℕ) where
  -- the answers from the first byte and the number 1 to the receipt's place
  pub record SoFar (r : PrintedAnswers) : Type 0 where
    pub bytes : List ℕ
    pub part : AnswersPart (Says contacts m ranges k) input tt 0 1 tt r.at r.line bytes

  pub none_yet : {r : PrintedAnswers} → r.at ≡ 0 → r.line ≡ 1 → SoFar r
  unfolding glue
  none_yet {r} ea en = record {
    bytes = [];
    part =
        subst₂ (λ (a b : ℕ). AnswersPart (Says contacts m ranges k) input tt 0 1 tt a b []) (sym ea) (sym en)
        (record { lines = []; cut = refl; behind = omega arith; counted = omega arith; prints = none });
  }

  pub joined : {r s : PrintedAnswers} → SoFar r → Further contacts m ranges k input r s → SoFar s
  joined f on = record { bytes = f.bytes ++ on.bytes; part = parts_join f.part on.part }

  pub line_most : {r : PrintedAnswers} → SoFar r → r.at < length input → r.line ≤ length input
  line_most {r} f inside = omega (arith, part_left f.part, some_line input r.at inside, lines_few input)

module _ (before : PrintedAnswers) {contacts : List ℕ} {m : ℕ} {ranges : List ℕ} {k : ℕ} {input : List ℕ} {at n : ℕ} {out : List ℕ} {r : Reached} {out' : List ℕ}
    (x : AnswersFrom contacts m ranges k input at n out r out') (ea : at ≡ before.at) (en : n ≡ before.line) (few : length input ≤ most_text)
    (low : before.line ≤ most_text) where
  pub used_within : r.used ≤ length out'
  used_within = let y = from_lines x few (omega arith) in omega (arith, y.fits, lines_length y)

  pub part_from : AnswersPart (Says contacts m ranges k) input tt before.at before.line tt r.at r.number (take r.used out')
  part_from =
      let y = from_lines x few (omega arith) in
      subst₂ (λ (a b : ℕ). AnswersPart (Says contacts m ranges k) input tt a b tt r.at r.number (take r.used out')) ea en (lines_part y)

  pub further_from : (after : PrintedAnswers) → before.at < length input → longest ≤ length out → after.at ≡ r.at → after.line ≡ r.number
      → (before.at < after.at) × Further contacts m ranges k input before after
  further_from after inside room fa fn =
      let y = from_lines x few (omega arith) in
      let on = lines_go_on y (omega arith) room in
      let part =
      subst₂ (λ (a b : ℕ). AnswersPart (Says contacts m ranges k) input tt before.at before.line tt a b (take r.used out')) (sym fa) (sym fn) part_from
      in
      (omega (arith, on), record { bytes = take r.used out'; part = part })
