-- What answering an ask line promises: 9 of the lent tables first, then the line is read, the route worked out over the tables, and its answer written
-- (proofs/DeskLaws.antt: no two results meet it, and 305 bytes are always room enough).
--     Replies      the answer of an ask line; `n` is the line's place in the input
--     Answers      an ask line is answered
-- Assumes nothing.
use Rattle.std.specs.Prelude.{List, [], ℕ, replicate, Result, Ok, Err}
use Rattle.units.specs.declared.Ask.{Ask}
use Rattle.units.specs.declared.Refusal.{Refusal}
use Rattle.units.specs.declared.Refusal.TheVariants.{NoPlan}
use Rattle.plan.specs.Tables.{IsPlan}
use Rattle.text.specs.Lines.{Line}
use Rattle.search.specs.Route.{Routes}
use Rattle.search.specs.declared.answer.Best.{Best}
use Rattle.desk.specs.Answers.{WritesAnswer}
use Rattle.desk.specs.Asks.{ReadsAsk}

-- the chain that `route` is lent: 63 places
unfoldable pub places : List ℕ
places = replicate 63 0

module _ (contacts : List ℕ) (m : ℕ) (ranges : List ℕ) (k : ℕ) (l : Line) (n : ℕ) where
  -- 9 where the lent tables are no plan; else the line's own refusal; else what `route` says of its ask, with its chain
  pub data Replies : Result Best Refusal → List ℕ → Type 0 where
    no_plan : (IsPlan contacts m ranges k → ⊥) → Replies (Err NoPlan) []
    not_asked : {why : Refusal} → IsPlan contacts m ranges k → ReadsAsk l n (Err why) → Replies (Err why) []
    asked : {ask : Ask} {answer : Result Best Refusal} {chain : List ℕ} → IsPlan contacts m ranges k → ReadsAsk l n (Ok ask)
        → Routes contacts m ranges k ask places answer chain → Replies answer chain

  -- that answer is written
  pub record Answers (out : List ℕ) (r : Result ℕ Refusal) (out' : List ℕ) : Type 0 where
    pub answer : Result Best Refusal
    pub chain : List ℕ
    pub replies : Replies answer chain
    pub writes : WritesAnswer answer chain out r out'
