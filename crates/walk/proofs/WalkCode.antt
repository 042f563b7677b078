-- What the code of `walk` knows of the model and of the promise.
--     good_ask_tells       the test of an ask's values
--     walk_carries         the answer where the chain delivers in time
--     walks_checked        the promise, where the plan and the ask were checked and the nodes differ
-- Assumes nothing.
use mathlib.Core.List.{List}
use mathlib.Core.Path.{◌≡◌, sym, ap, subst}
use Prim.Native.Nat.{ℕ, ◌<◌}
use borrow.Author.Tests.{lt-ltb}
use Rattle.units.specs.Limits.{last_time, most_size}
use Rattle.units.specs.declared.Ask.{Ask}
use Rattle.units.specs.declared.Millis.{Millis}
use Rattle.units.specs.declared.Refusal.{Refusal}
use Rattle.plan.specs.Verdict.{Verdict}
use Rattle.plan.proofs.Tests.{is_node_tells}
use Rattle.plan.proofs.Verdicts.{tells_le, both, restated}
use Rattle.std.specs.Prelude.{Some, Result, Ok}
use Rattle.walk.specs.declared.figures.Figures.{Figures}
use Rattle.service.specs.Service.{Service, service_of, unused}
use Rattle.units.specs.Model.{good_ask}
use Rattle.walk.specs.Model.{figures_of, walk_model}
use Rattle.walk.specs.Walk.{WalksPlan, Walks, walked}
use Rattle.walk.proofs.Theorems.{walk_model_walks}
use Rattle.units.specs.declared.asks.CheckedAsk.{CheckedAsk}
use Rattle.plan.specs.declared.tables.PlanTables.{PlanTables}
use Rattle.plan.specs.Lent.{plan_in}
use Rattle.plan_valid.specs.declared.checked.CheckedPlan.{CheckedPlan}
use Rattle.service.proofs.ServiceLaws.{service_sound}
use Rattle.timing.specs.Model.{delivery_of}
use Rattle.units.specs.Asks.{GoodAsk}

pub good_ask_tells : (ask : Ask) → Verdict (GoodAsk ask) (good_ask ask)
good_ask_tells ask =
    restated
    (λ p. record {
      source_node = p.0.0.0.0.0;
      destination_node = p.0.0.0.0.1;
      time_most = p.0.0.0.1;
      size_least = p.0.0.1;
      size_most = p.0.1;
      deadline_most = p.1;
    })
    (λ g. (((((g.source_node, g.destination_node), g.time_most), g.size_least), g.size_most), g.deadline_most))
    (both
    (both
    (both (both (both (is_node_tells ask.source) (is_node_tells ask.destination)) (tells_le ask.time.0 last_time)) (tells_le 1 ask.size))
    (tells_le ask.size most_size))
    (tells_le ask.deadline.0 last_time))

module _ (p : Service) (ask : Ask) (chain : List ℕ) where
  pub walk_carries : (r : Millis) (f : Figures) → delivery_of p ask chain ≡ Some r → r.0 < ask.deadline.0 → f ≡ figures_of p ask chain r.0
      → Ok f ≡ walk_model p ask chain
  unfolding walk_model
  walk_carries r f e h ef = rw (e, lt-ltb r.0 ask.deadline.0 h, ef)

-- the promise, where the plan and the ask were checked and the nodes differ
abbrev WalksTables : PlanTables → Ask → List ℕ → Result Figures Refusal → Type 0
WalksTables t ask chain w = Walks t.contacts.now t.contact_count t.ranges.now t.range_count ask chain w

pub walks_checked : (tables : PlanTables) (ask : Ask) (chain : List ℕ) (plan : CheckedPlan) → plan.tables ≡ tables → (asked : CheckedAsk) → asked.asked ≡ ask
    → (ask.source.0 ≡ ask.destination.0 → ⊥) → (w : Result Figures Refusal) → w ≡ walk_model (service_of (plan_in plan.tables) unused) asked.asked chain
    → WalksTables tables ask chain w
walks_checked tables ask chain plan same asked same' differ w e =
    let apart = subst (λ (a : Ask). a.source.0 ≡ a.destination.0 → ⊥) (sym same') differ in
    let answer = walk_model_walks _ asked.asked chain (service_sound _ plan.valid.valid unused) asked.good apart in
    subst (λ (t : PlanTables). WalksTables t ask chain w) same
    (subst (λ (a : Ask). WalksTables plan.tables a chain w) same'
    (walked plan.valid asked.good apart (subst (WalksPlan _ asked.asked chain) (sym e) answer)))
