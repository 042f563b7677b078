-- What the code of `answer_line` knows.
--     asked_answers        the line's ask is answered: where the tables are no plan, `route` says so
--     refused_answers      the line's refusal is answered, or that the tables are no plan
-- Assumes nothing.
use mathlib.Core.List.{List, []}
use Prim.Native.Nat.{ℕ}
use native.Mathlib.Omega.{arith}
use Rattle.std.specs.Prelude.{Result, Ok, Err}
use Rattle.units.specs.Limits.{most_chain}
use Rattle.units.specs.declared.Ask.{Ask}
use Rattle.units.specs.declared.Refusal.{Refusal}
use Rattle.text.specs.Lines.{Line}
use Rattle.search.specs.Route.{Routes, short_chain, no_plan as no-plan-routed, bad_ask, same_node, routed}
use Rattle.search.specs.declared.answer.Best.{Best}
use Rattle.desk.specs.Answering.{AnswersAsk, AnswersRefusal, over_plan, over_none}
use Rattle.desk.specs.Answers.{answer_line, answer_bytes, of_refusal, WritesAnswer, no_chain, too_short, written}
use Rattle.desk.specs.Asks.{ReadsAsk}
use Rattle.desk.specs.Desk.{places, no_plan, not_asked, asked, Answers}

-- a refusal is written alike, whatever the chain
refused_any : {why : Refusal} {chain out : List ℕ} {r : Result ℕ Refusal} {out' : List ℕ} → WritesAnswer (Err why) chain out r out'
    → WritesAnswer (Err why) [] out r out'
unfolding answer_bytes answer_line
refused_any (no_chain f) = absurd (f of_refusal)
refused_any (too_short has h) = too_short of_refusal h
refused_any (written has h) = written of_refusal h

module _ {contacts : List ℕ} {m : ℕ} {ranges : List ℕ} {k : ℕ} {l : Line} {n : ℕ} {out : List ℕ} {r : Result ℕ Refusal} {out' : List ℕ} where
  pub asked_answers : {ask : Ask} → ReadsAsk l n (Ok ask) → AnswersAsk contacts m ranges k ask out r out' → Answers contacts m ranges k l n out r out'
  unfolding places most_chain
  asked_answers {ask} a w = go w.routes w.writes
    where
      go : {answer : Result Best Refusal} {chain : List ℕ} → Routes contacts m ranges k ask places answer chain → WritesAnswer answer chain out r out'
          → Answers contacts m ranges k l n out r out'
      go (short_chain h) v = absurd (omega arith)
      go (no-plan-routed h f) v = record { answer = _; chain = []; replies = no_plan f; writes = refused_any v }
      go (bad_ask h p f) v = record { answer = _; chain = _; replies = asked p a (bad_ask h p f); writes = v }
      go (same_node h p g e) v = record { answer = _; chain = _; replies = asked p a (same_node h p g e); writes = v }
      go (routed h p g d x) v = record { answer = _; chain = _; replies = asked p a (routed h p g d x); writes = v }

  pub refused_answers : {why : Refusal} → ReadsAsk l n (Err why) → AnswersRefusal contacts m ranges k why out r out'
      → Answers contacts m ranges k l n out r out'
  refused_answers a (over_plan p w) = record { answer = _; chain = []; replies = not_asked p a; writes = w }
  refused_answers a (over_none f w) = record { answer = _; chain = []; replies = no_plan f; writes = w }
