-- Cases A to I of the request and the empty plan: one table, of which one statement says that each row is what `route` promises.
--     Row, Met         a row of the table, and that it is the promise itself, whatever the lent chain holds before
--     case_table        the rows
--     cases_hold       each is met
-- Assumes nothing.
use mathlib.Core.Bool.{Bool, true, false, ◌&&◌}
use mathlib.Core.List.{List, [], ◌∷◌, ◌++◌}
use mathlib.Core.Path.{◌≡◌, refl, subst₂}
use Prim.Native.Nat.{ℕ, ◌*◌, ◌≤◌}
use borrow.Author.Tests.{eqb-false}
use lib.Dec.{leb, eqb}
use lib.ListN.{length, drop}
use Rattle.units.specs.Limits.{most_nodes, last_time, most_size, most_rate, most_light, most_contacts, most_ranges, most_chain}
use Rattle.units.specs.declared.Ask.{Ask}
use Rattle.units.specs.declared.Refusal.{Refusal}
use Rattle.units.specs.declared.Refusal.TheVariants.{SameNode, NoChain, TooLate}
use Rattle.plan.specs.Light.{shared_by, shared_time, largest_light, light_of}
use Rattle.plan.specs.Model.{is_valid}
use Rattle.plan.specs.Plan.{Plan}
use Rattle.plan.specs.Tables.{words, plan_of, IsPlan}
use Rattle.plan.specs.Verdict.{Verdict}
use Rattle.plan.proofs.Tests.{valid_tells}
use Rattle.plan.proofs.Verdicts.{tells_le, both, restated, true_holds}
use Rattle.service.specs.Service.{Service, volume, lefts_from, service_of, unused}
use Rattle.service.proofs.ServiceLaws.{service_sound}
use Rattle.timing.specs.Hop.{is_barred}
use Rattle.units.specs.Model.{good_ask}
use Rattle.walk.specs.Model.{limit_before, room_of, figures_of}
use Rattle.timing.specs.Model.{step_over}
use Rattle.walk.proofs.WalkCode.{good_ask_tells}
use Rattle.network.specs.Model.{delivery, chosen}
use Rattle.search_layers.specs.Bridge.{network_of}
use Rattle.search.specs.Model.{route_model, route_after}
use Rattle.search.specs.Route.{Routes, RoutesPlan, same_node, routed}
use Rattle.std.specs.Prelude.{Result, Ok, Err}
use Rattle.search.specs.declared.answer.Best.{Best}
use Rattle.search.proofs.Theorems.{route_model_routes}

-- lent tables with their counts
pub record Tables : Type 0 where
  pub contacts : List ℕ
  pub contact_count : ℕ
  pub ranges : List ℕ
  pub range_count : ℕ

-- the tables, an ask, the answer, and the chain that is written
pub record Row : Type 0 where
  pub tables : Tables
  pub ask : Ask
  pub answer : Result Best Refusal
  pub chain : List ℕ

-- the row is what `route` promises, for every lent chain that is long enough: the chain stands in its first places, and the rest is as it was
pub record Met (row : Row) : Type 0 where
  pub routes : (before : List ℕ) → most_chain ≤ length before
      → Routes row.tables.contacts row.tables.contact_count row.tables.ranges row.tables.range_count row.ask before row.answer
      (row.chain ++ drop (length row.chain) before)

pub data AllMet : List Row → Type 0 where
  none : AllMet []
  more : {row : Row} {rows : List Row} → Met row → AllMet rows → AllMet (row ∷ rows)

-- an ask, its numbers in the order of an ask line
abbrev pub asked : ℕ → ℕ → ℕ → ℕ → ℕ → ℕ → Ask
asked source destination time size deadline excluded = record {
  source = record { 0 = source };
  destination = record { 0 = destination };
  time = record { 0 = time };
  size = size;
  deadline = record { 0 = deadline };
  excluded = excluded;
}

-- an answer with a chain, its numbers in the order of a printed line
abbrev pub found : ℕ → ℕ → ℕ → ℕ → ℕ → Result Best Refusal
found delivery opens last room count =
    Ok
    (record {
      figures = record { delivery = record { 0 = delivery }; opens = record { 0 = opens }; last_call = record { 0 = last }; room = room };
      count = count;
    })

-- the plan of cases A to G
abbrev pub plan_AG : Tables
plan_AG = record {
  contacts =
      0 ∷ 10000 ∷ 1 ∷ 2 ∷ 1000
      ∷ 4000 ∷ 9000 ∷ 2 ∷ 3 ∷ 500
      ∷ 8000 ∷ 20000 ∷ 1 ∷ 3 ∷ 100
      ∷ 12000 ∷ 30000 ∷ 2 ∷ 3 ∷ 1000
      ∷ 2000 ∷ 6000 ∷ 1 ∷ 4 ∷ 2000
      ∷ 3000 ∷ 15000 ∷ 4 ∷ 3 ∷ 1000
      ∷ [];
  contact_count = 6;
  ranges =
      0 ∷ 30000 ∷ 1 ∷ 2 ∷ 10
      ∷ 0 ∷ 30000 ∷ 2 ∷ 3 ∷ 20
      ∷ 0 ∷ 30000 ∷ 1 ∷ 3 ∷ 1300
      ∷ 0 ∷ 30000 ∷ 1 ∷ 4 ∷ 5
      ∷ [];
  range_count = 4;
}

abbrev pub plan_H : Tables
plan_H = record {
  contacts =
      0 ∷ 1000 ∷ 1 ∷ 2 ∷ 1000000
      ∷ 0 ∷ 1000 ∷ 2 ∷ 3 ∷ 1000000
      ∷ 500 ∷ 2000 ∷ 1 ∷ 3 ∷ 1000000
      ∷ 5000 ∷ 9000 ∷ 3 ∷ 4 ∷ 1000000
      ∷ [];
  contact_count = 4;
  ranges =
      0 ∷ 9000 ∷ 1 ∷ 2 ∷ 0
      ∷ 0 ∷ 9000 ∷ 2 ∷ 3 ∷ 0
      ∷ 0 ∷ 9000 ∷ 1 ∷ 3 ∷ 0
      ∷ 0 ∷ 9000 ∷ 3 ∷ 4 ∷ 0
      ∷ [];
  range_count = 4;
}

abbrev pub plan_I : Tables
plan_I = record {
  contacts =
      0 ∷ 1000 ∷ 1 ∷ 2 ∷ 1000000
      ∷ 0 ∷ 1000 ∷ 1 ∷ 3 ∷ 1000000
      ∷ 0 ∷ 1000 ∷ 3 ∷ 4 ∷ 1000000
      ∷ 0 ∷ 1000 ∷ 2 ∷ 4 ∷ 1000000
      ∷ [];
  contact_count = 4;
  ranges =
      0 ∷ 1000 ∷ 1 ∷ 2 ∷ 0
      ∷ 0 ∷ 1000 ∷ 1 ∷ 3 ∷ 0
      ∷ 0 ∷ 1000 ∷ 3 ∷ 4 ∷ 0
      ∷ 0 ∷ 1000 ∷ 2 ∷ 4 ∷ 0
      ∷ [];
  range_count = 4;
}

abbrev pub plan_empty : Tables
plan_empty = record { contacts = []; contact_count = 0; ranges = []; range_count = 0 }

-- A to I in their order, then ask A on the empty plan
unfoldable pub case_table : List Row
case_table =
    record { tables = plan_AG; ask = asked 1 3 0 1000 30000 0; answer = found 6080 0 5900 2427 2; chain = 1 ∷ 2 ∷ [] }
    ∷ record { tables = plan_AG; ask = asked 1 3 0 1000 30000 2; answer = found 19600 8000 9700 1165 1; chain = 3 ∷ [] }
    ∷ record { tables = plan_AG; ask = asked 1 3 0 1000 6081 0; answer = found 6080 0 2960 1000 2; chain = 1 ∷ 2 ∷ [] }
    ∷ record { tables = plan_AG; ask = asked 1 3 0 1000 6080 0; answer = Err TooLate; chain = [] }
    ∷ record { tables = plan_AG; ask = asked 1 3 9000 1000 30000 0; answer = found 20600 9000 9700 1067 1; chain = 3 ∷ [] }
    ∷ record { tables = plan_AG; ask = asked 3 1 0 1000 30000 0; answer = Err NoChain; chain = [] }
    ∷ record { tables = plan_AG; ask = asked 1 1 0 1000 30000 0; answer = Err SameNode; chain = [] }
    ∷ record { tables = plan_H; ask = asked 1 4 0 1000 20000 0; answer = found 5002 500 1998 1456310 2; chain = 3 ∷ 4 ∷ [] }
    ∷ record { tables = plan_I; ask = asked 1 4 0 1000 20000 0; answer = found 4 0 996 485436 2; chain = 2 ∷ 3 ∷ [] }
    ∷ record { tables = plan_empty; ask = asked 1 3 0 1000 30000 0; answer = Err NoChain; chain = [] }
    ∷ []

abbrev plan_in : Tables → Plan
plan_in t = plan_of t.contacts t.contact_count t.ranges t.range_count

-- as it serves an ask
abbrev service_in : Tables → Service
service_in t = service_of (plan_in t) unused

-- the test of lent tables, as a function that computes
abbrev good_tables : Tables → Bool
good_tables t = leb (t.contact_count * words) (length t.contacts) && leb (t.range_count * words) (length t.ranges) && is_valid (plan_in t)

good_tables_tells : (t : Tables) → Verdict (IsPlan t.contacts t.contact_count t.ranges t.range_count) (good_tables t)
good_tables_tells t =
    restated (λ p. record { contacts_lent = p.0.0; ranges_lent = p.0.1; valid = p.1 }) (λ p. ((p.contacts_lent, p.ranges_lent), p.valid))
    (both (both (tells_le (t.contact_count * words) (length t.contacts)) (tells_le (t.range_count * words) (length t.ranges))) (valid_tells (plan_in t)))

-- a row that the model answers
by_model : (tables : Tables) (ask : Ask) (answer : Result Best Refusal) (chain : List ℕ) → good_tables tables ≡ true → good_ask ask ≡ true
    → eqb ask.source.0 ask.destination.0 ≡ false
    → route_model (service_in tables) ask ≡ answer
    → ((before : List ℕ) → route_after (service_in tables) ask before ≡ chain ++ drop (length chain) before)
    → Met (record { tables = tables; ask = ask; answer = answer; chain = chain })
by_model tables ask answer chain t a apart e after = record {
  routes = λ before long.
      let plan = true_holds (good_tables_tells tables) t in
      let good = true_holds (good_ask_tells ask) a in
      let differ = eqb-false ask.source.0 ask.destination.0 apart in
      routed long plan good differ
      (subst₂ (RoutesPlan (service_in tables) ask before) e (after before)
      (route_model_routes (service_in tables) ask before (service_sound (plan_in tables) plan.valid unused) good differ));
}

pub cases_hold : AllMet case_table
unfolding case_table plan_of service_of lefts_from volume is_valid route_model route_after network_of delivery chosen figures_of limit_before room_of step_over is_barred shared_by shared_time largest_light light_of most_nodes most_size most_rate most_light most_contacts most_ranges last_time
cases_hold =
    more (by_model plan_AG _ _ _ refl refl refl refl (λ before. refl))
    (more (by_model plan_AG _ _ _ refl refl refl refl (λ before. refl))
    (more (by_model plan_AG _ _ _ refl refl refl refl (λ before. refl))
    (more (by_model plan_AG _ _ _ refl refl refl refl (λ before. refl))
    (more (by_model plan_AG _ _ _ refl refl refl refl (λ before. refl))
    (more (by_model plan_AG _ _ _ refl refl refl refl (λ before. refl))
    (more (record { routes = λ before long. same_node long (true_holds (good_tables_tells plan_AG) refl) (true_holds (good_ask_tells _) refl) refl })
    (more (by_model plan_H _ _ _ refl refl refl refl (λ before. refl))
    (more (by_model plan_I _ _ _ refl refl refl refl (λ before. refl))
    (more (by_model plan_empty _ _ _ refl refl refl refl (λ before. refl)) none)))))))))
