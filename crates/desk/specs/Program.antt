-- What the program `route` prints in all, for the text of its plan file and its input (proofs/ProgramLaws.antt: one output at the most, and the calls that
-- the program makes print it).
--     Printed      what it prints
--     Runs         what its calls print, one after the other
-- Assumes nothing.
use Rattle.std.specs.Prelude.{List, [], ℕ, ◌≤◌, ◌<◌, length, take, replicate, Ok, Err}
use Rattle.units.specs.Limits.{most_text}
use Rattle.units.specs.declared.Refusal.{Refusal}
use Rattle.units.specs.declared.Refusal.TheVariants.{LongText}
use Rattle.text.specs.Calls.{counts, Reads}
use Rattle.text.specs.Lines.{lines_of}
use Rattle.desk_lines.specs.Through.{Prints, Calls}
use Rattle.desk.specs.Answers.{answer_bytes, WritesAnswer}
use Rattle.desk.specs.Through.{longest, Says}

-- the tables that the program lends: 512 rows
unfoldable pub blank_table : List ℕ
blank_table = replicate 2_560 0

module _ (text input : List ℕ) where
  -- the line of the plan's refusal, whatever the input; else that of refusal 1 where the input has over 65,536 bytes; else the answers of all its lines, in
  -- order, the first of which has the place 1
  pub data Printed : List ℕ → Type 0 where
    plan_refused : {why : Refusal} {contacts ranges : List ℕ} → Reads text blank_table blank_table (Err why) contacts ranges
        → Printed (answer_bytes (Err why) [])
    input_refused : {m n : ℕ} {contacts ranges : List ℕ} → Reads text blank_table blank_table (Ok (counts m n)) contacts ranges → most_text < length input
        → Printed (answer_bytes (Err LongText) [])
    answered : {m n : ℕ} {contacts ranges bytes : List ℕ} → Reads text blank_table blank_table (Ok (counts m n)) contacts ranges → length input ≤ most_text
        → Prints (Says contacts m ranges n) tt 1 (lines_of input) bytes tt → Printed bytes

  -- `read`; then `write_answer` of its refusal, or of refusal 1, and the bytes written; or else `answer_lines` from the first byte on, as often as it takes
  -- to reach the input's end, and the bytes used by each
  pub data Runs : List ℕ → Type 0 where
    stops_at_plan : {why : Refusal} {contacts ranges out : List ℕ} {used : ℕ} {out' : List ℕ} → Reads text blank_table blank_table (Err why) contacts ranges
        → WritesAnswer (Err why) [] out (Ok used) out' → Runs (take used out')
    stops_at_input : {m n : ℕ} {contacts ranges out : List ℕ} {used : ℕ} {out' : List ℕ} → Reads text blank_table blank_table (Ok (counts m n)) contacts ranges
        → most_text < length input → WritesAnswer (Err LongText) [] out (Ok used) out' → Runs (take used out')
    goes_through : {m n : ℕ} {contacts ranges bytes : List ℕ} → Reads text blank_table blank_table (Ok (counts m n)) contacts ranges → length input ≤ most_text
        → Calls (Says contacts m ranges n) longest input tt 0 1 bytes tt → Runs bytes
