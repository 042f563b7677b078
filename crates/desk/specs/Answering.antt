-- What the functions inside `answer_line` say. A reader of the promises may skip it.
--     AnswersAsk          what `route` says of an ask is written
--     AnswersRefusal      the refusal of a line is written, or 9 in its place
-- Assumes nothing.
use Rattle.std.specs.Prelude.{List, [], ℕ, Result, Err}
use Rattle.units.specs.declared.Ask.{Ask}
use Rattle.units.specs.declared.Refusal.{Refusal}
use Rattle.units.specs.declared.Refusal.TheVariants.{NoPlan}
use Rattle.plan.specs.Tables.{IsPlan}
use Rattle.search.specs.Route.{Routes}
use Rattle.search.specs.declared.answer.Best.{Best}
use Rattle.desk.specs.Answers.{WritesAnswer}
use Rattle.desk.specs.Desk.{places}

module _ (contacts : List ℕ) (m : ℕ) (ranges : List ℕ) (k : ℕ) where
  pub record AnswersAsk (ask : Ask) (out : List ℕ) (r : Result ℕ Refusal) (out' : List ℕ) : Type 0 where
    pub answer : Result Best Refusal
    pub chain : List ℕ
    pub routes : Routes contacts m ranges k ask places answer chain
    pub writes : WritesAnswer answer chain out r out'

  pub data AnswersRefusal (why : Refusal) (out : List ℕ) (r : Result ℕ Refusal) (out' : List ℕ) : Type 0 where
    over_plan : IsPlan contacts m ranges k → WritesAnswer (Err why) [] out r out' → AnswersRefusal why out r out'
    over_none : (IsPlan contacts m ranges k → ⊥) → WritesAnswer (Err NoPlan) [] out r out' → AnswersRefusal why out r out'
