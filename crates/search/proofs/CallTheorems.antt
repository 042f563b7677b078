-- Where a route is refused with 13 or 14: first of the answer over a plan as it serves the ask, then of the call, for tables that hold a plan, a good
-- ask between two nodes and a lent chain with its 63 places.
--     refused_late_exactly         refused with 13 or 14 exactly where no allowed chain of any length is in time
--     routes_at_deadline           a best chain that delivers at the deadline is refused with 14
--     routes_13_exactly            the call is refused with 13 exactly where no chain of any length is allowed
--     routes_14_exactly            with 14 exactly where one is allowed and none is in time
--     routes_late_exactly          with one of the two exactly where none is in time
-- Assumes nothing.
use mathlib.Core.List.{List}
use mathlib.Core.Logic.{◌⊎◌, inl, inr, ⊎_elim, ◌↔◌}
use mathlib.Core.Path.{◌≡◌, refl}
use Prim.Native.Nat.{ℕ, ◌≤◌}
use native.Mathlib.Omega.{arith}
use lib.ListN.{length}
use Rattle.units.specs.Limits.{most_chain}
use Rattle.units.specs.declared.Ask.{Ask}
use Rattle.units.specs.declared.Refusal.{Refusal}
use Rattle.units.specs.declared.Refusal.TheVariants.{NoChain, TooLate}
use Rattle.plan.specs.Tables.{IsPlan, plan_of}
use Rattle.service.specs.Service.{Service, service_of, unused}
use Rattle.timing.specs.Chain.{Allowed}
use Rattle.units.specs.Asks.{GoodAsk}
use Rattle.walk.specs.declared.figures.Figures.{Figures}
use Rattle.search.specs.Route.{IsBest, RoutesPlan, no_chain, too_late, best, Routes, short_chain, no_plan, bad_ask, same_node, routed}
use Rattle.std.specs.Prelude.{Result, Ok, Err}
use Rattle.search.specs.declared.answer.Best.{Best}
use Rattle.search.proofs.Theorems.{refused_13_exactly, refused_14_exactly}

-- some chain is allowed; every allowed chain comes too late
abbrev pub SomeAllowed : Service → Ask → Type 0
SomeAllowed p ask = (chain : List ℕ) × (s : ℕ) × Allowed p ask chain s

abbrev pub NoneAllowed : Service → Ask → Type 0
NoneAllowed p ask = (chain : List ℕ) (s : ℕ) → Allowed p ask chain s → ⊥

abbrev pub NoneInTime : Service → Ask → Type 0
NoneInTime p ask = (chain : List ℕ) (s : ℕ) → Allowed p ask chain s → ask.deadline.0 ≤ s

-- the figures of a chain are no refusal
best_refused : {A : Type 0} {f : Figures} {n : ℕ} {why : Refusal} → ◌≡◌ {A = Result Best Refusal} (Ok (record { figures = f; count = n })) (Err why) → A
best_refused e = let z : ◌≡◌ {A = ℕ} 0 1 = cc in absurd (omega arith)

module _ {p : Service} {ask : Ask} {before : List ℕ} where
  pub refused_late_exactly : {r : Result Best Refusal} {after : List ℕ} → RoutesPlan p ask before r after
      → ((r ≡ Err NoChain) ⊎ (r ≡ Err TooLate)) ↔ NoneInTime p ask
  refused_late_exactly (no_chain n) = (λ e chain s a. absurd (n chain s a), λ h. inl refl)
  refused_late_exactly (too_late a l) = (λ e. l, λ h. inr refl)
  refused_late_exactly (best b f) =
      (λ e. ⊎_elim best_refused best_refused e, λ h. absurd (omega (arith, h _ _ b.allowed, f.in_time)))

  pub routes_at_deadline : {r : Result Best Refusal} {after chain : List ℕ} → RoutesPlan p ask before r after → IsBest p ask chain ask.deadline.0 → r ≡ Err TooLate
  routes_at_deadline (no_chain n) b = absurd (n _ _ b.allowed)
  routes_at_deadline (too_late a l) b = refl
  routes_at_deadline (best c f) b = absurd (omega (arith, b.none_earlier _ _ c.allowed, f.in_time))

module _ {contacts : List ℕ} {m : ℕ} {ranges : List ℕ} {n : ℕ} {ask : Ask} {before : List ℕ} (room : most_chain ≤ length before)
    (plan : IsPlan contacts m ranges n) (good : GoodAsk ask) (differ : ask.source.0 ≡ ask.destination.0 → ⊥) where
  -- the call answers what the plan as it serves the ask gives
  routes_served : {r : Result Best Refusal} {after : List ℕ} → Routes contacts m ranges n ask before r after
      → RoutesPlan (service_of (plan_of contacts m ranges n) unused) ask before r after
  routes_served (short_chain h) = absurd (omega arith)
  routes_served (no_plan l f) = absurd (f plan)
  routes_served (bad_ask l p f) = absurd (f good)
  routes_served (same_node l p g e) = absurd (differ e)
  routes_served (routed l p g d h) = h

  pub routes_13_exactly : {r : Result Best Refusal} {after : List ℕ} → Routes contacts m ranges n ask before r after
      → (r ≡ Err NoChain) ↔ NoneAllowed (service_of (plan_of contacts m ranges n) unused) ask
  routes_13_exactly h = refused_13_exactly (routes_served h)

  pub routes_14_exactly : {r : Result Best Refusal} {after : List ℕ} → Routes contacts m ranges n ask before r after
      → (r ≡ Err TooLate)
      ↔ (SomeAllowed (service_of (plan_of contacts m ranges n) unused) ask × NoneInTime (service_of (plan_of contacts m ranges n) unused) ask)
  routes_14_exactly h = refused_14_exactly (routes_served h)

  pub routes_late_exactly : {r : Result Best Refusal} {after : List ℕ} → Routes contacts m ranges n ask before r after
      → ((r ≡ Err NoChain) ⊎ (r ≡ Err TooLate)) ↔ NoneInTime (service_of (plan_of contacts m ranges n) unused) ask
  routes_late_exactly h = refused_late_exactly (routes_served h)
