-- The promises of the exported functions: the number returned, and all lent memory when the function returns (proofs/Theorems.antt: no two results
-- meet one of them). Each is the promise of the library's call, with its answer laid out in words. Where the lent answer is too short, 10 is returned
-- and nothing changes, whatever else is lent.
--     BoardReads       a text is read into two lent tables, as `Reads` says
--     BoardWrites      the text of the plan that two tables hold is written, as `Writes` says
--     BoardWalks       a given chain is timed, as `Walks` says
--     BoardRoutes      the best chain is found, as `Routes` says
-- Assumes nothing.
use Rattle.std.specs.Prelude.{List, ℕ, ◌≤◌, ◌<◌, length, Result}
use Rattle.units.specs.declared.Ask.{Ask}
use Rattle.text.specs.declared.answer.Counts.{Counts}
use Rattle.text.specs.Calls.{Reads, Writes}
use Rattle.units.specs.declared.Refusal.{Refusal}
use Rattle.walk.specs.declared.figures.Figures.{Figures}
use Rattle.walk.specs.Walk.{Walks}
use Rattle.search.specs.declared.answer.Best.{Best}
use Rattle.search.specs.Route.{Routes}
use Rattle.board_face.specs.Layout.{answer_words, no_room_number, read_words, written_words, walked_words, routed_words, Answered}

pub data BoardReads (text contacts ranges answer : List ℕ) : ℕ → List ℕ → List ℕ → List ℕ → Type 0 where
  no_room : length answer < answer_words → BoardReads text contacts ranges answer no_room_number contacts ranges answer
  called : {r : Result Counts Refusal} {contacts' ranges' : List ℕ} {number : ℕ} {answer' : List ℕ} → answer_words ≤ length answer
      → Reads text contacts ranges r contacts' ranges' → Answered (read_words r) answer number answer'
      → BoardReads text contacts ranges answer number contacts' ranges' answer'

pub data BoardWrites (contacts : List ℕ) (m : ℕ) (ranges : List ℕ) (n : ℕ) (out answer : List ℕ) : ℕ → List ℕ → List ℕ → Type 0 where
  no_room : length answer < answer_words → BoardWrites contacts m ranges n out answer no_room_number out answer
  called : {r : Result ℕ Refusal} {out' : List ℕ} {number : ℕ} {answer' : List ℕ} → answer_words ≤ length answer → Writes contacts m ranges n out r out'
      → Answered (written_words r) answer number answer' → BoardWrites contacts m ranges n out answer number out' answer'

pub data BoardWalks (contacts : List ℕ) (m : ℕ) (ranges : List ℕ) (n : ℕ) (ask : Ask) (chain answer : List ℕ) : ℕ → List ℕ → Type 0 where
  no_room : length answer < answer_words → BoardWalks contacts m ranges n ask chain answer no_room_number answer
  called : {r : Result Figures Refusal} {number : ℕ} {answer' : List ℕ} → answer_words ≤ length answer → Walks contacts m ranges n ask chain r
      → Answered (walked_words r) answer number answer' → BoardWalks contacts m ranges n ask chain answer number answer'

pub data BoardRoutes (contacts : List ℕ) (m : ℕ) (ranges : List ℕ) (n : ℕ) (ask : Ask) (chain answer : List ℕ) : ℕ → List ℕ → List ℕ → Type 0 where
  no_room : length answer < answer_words → BoardRoutes contacts m ranges n ask chain answer no_room_number chain answer
  called : {r : Result Best Refusal} {chain' : List ℕ} {number : ℕ} {answer' : List ℕ} → answer_words ≤ length answer
      → Routes contacts m ranges n ask chain r chain' → Answered (routed_words r) answer number answer'
      → BoardRoutes contacts m ranges n ask chain answer number chain' answer'
