-- What the receipts of the program say, which only its module `output` gives: that a refusal was printed, or the answers up to a byte of the input.
--     Told           a refusal was printed
--     Further        a part was printed: the answers from one receipt's place to the other's
--     ToItsEnd       an input was gone through to its end
--     InputDone      so it was, or it was refused
--     ReadDone       so it was with what was read
--     PlanDone       a plan text was refused, or what was read gone through over its plan
-- Assumes nothing.
use Rattle.std.specs.Prelude.{List, ◌≡◌, ℕ, ◌≤◌, ◌<◌, length, Result, Ok, Err}
use Rattle.units.specs.Limits.{most_text}
use Rattle.units.specs.declared.Refusal.{Refusal}
use Rattle.units.specs.declared.Refusal.TheVariants.{LongText}
use Rattle.text.specs.Calls.{counts, Reads}
use Rattle.desk_lines.specs.Through.{AnswersPart}
use Rattle.desk.specs.Through.{Says}
use Rattle.route.specs.declared.output.PrintedAnswers.{PrintedAnswers}
use Rattle.route.specs.declared.output.PrintedRefusal.{PrintedRefusal}

-- the receipt is that of this refusal's line
pub record Told (why : Refusal) (r : PrintedRefusal) : Type 0 where
  pub refusal : r.why ≡ why

-- what a program's run ends with
abbrev pub Receipt : Type 0
Receipt = Result PrintedAnswers PrintedRefusal

module _ (contacts : List ℕ) (m : ℕ) (ranges : List ℕ) (n : ℕ) where
  pub record Further (input : List ℕ) (before after : PrintedAnswers) : Type 0 where
    pub bytes : List ℕ
    pub part : AnswersPart (Says contacts m ranges n) input tt before.at before.line tt after.at after.line bytes

  -- the answers of the lines from the first byte and the number 1 on, up to the input's end
  pub record ToItsEnd (input : List ℕ) (r : PrintedAnswers) : Type 0 where
    pub bytes : List ℕ
    pub part : AnswersPart (Says contacts m ranges n) input tt 0 1 tt r.at r.line bytes
    pub ends : length input ≤ r.at

  -- over 65,536 bytes: refusal 1; else no refusal, and the answers up to the input's end
  pub data InputDone (input : List ℕ) : Receipt → Type 0 where
    too_long : {r : PrintedRefusal} → most_text < length input → Told LongText r → InputDone input (Err r)
    to_its_end : {r : PrintedAnswers} → length input ≤ most_text → ToItsEnd input r → InputDone input (Ok r)

  pub record ReadDone (r : Receipt) : Type 0 where
    pub input : List ℕ
    pub done : InputDone input r

-- the plan's refusal; else the input
pub data PlanDone (text contacts ranges contacts' ranges' : List ℕ) : Receipt → Type 0 where
  no_plan : {why : Refusal} {r : PrintedRefusal} → Reads text contacts ranges (Err why) contacts' ranges' → Told why r
      → PlanDone text contacts ranges contacts' ranges' (Err r)
  over_plan : {m n : ℕ} {r : Receipt} → Reads text contacts ranges (Ok (counts m n)) contacts' ranges' → ReadDone contacts' m ranges' n r
      → PlanDone text contacts ranges contacts' ranges' r
