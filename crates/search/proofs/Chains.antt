-- A chain is allowed exactly where the network runs it.
--     carries_runs, runs_carries            from any node and time to any node and time
--     carries_reaches, reaches_carries      from the ask's source and time to its destination
--     allowed_reaches                       so an allowed chain between two different nodes is one that reaches the goal
-- Assumes nothing.
use Rattle.std.specs.Prelude.{cond, Option, Some, None}
use mathlib.Core.Bool.{Bool, true, false}
use mathlib.Core.List.{List}
use mathlib.Core.Logic.{◌↔◌}
use mathlib.Core.Path.{◌≡◌, refl, sym, ap, ◌∙◌}
use Prim.Native.Nat.{ℕ, ◌-◌, ◌≤◌}
use native.Mathlib.Omega.{arith}
use Rattle.units.specs.declared.Ask.{Ask}
use Rattle.service.specs.Service.{Service, Sound, contact_of}
use Rattle.units.specs.declared.Millis.{Millis}
use Rattle.timing.specs.Chain.{Carries, stays, hops, Allowed}
use Rattle.timing.specs.Model.{delivery_of}
use Rattle.units.specs.Asks.{GoodAsk}
use Rattle.service.proofs.Bounded.{contact_good}
use Rattle.timing.proofs.ChainLaws.{carry_complete, allowed_delivery}
use Rattle.network.specs.Best.{Reaches}
use Rattle.network.specs.Network.{at, Runs}
use Rattle.network.specs.Network as Net
use Rattle.search_layers.specs.Bridge.{when_of, network_of, goal}
use Rattle.search_layers.proofs.NetworkLaws.{contact_in_plan, in_plan_contact, barred_hop, step_is}

-- a step that is made: the contact is not barred, and the hop over it is made
free_hop : (bar : Bool) (a : Option Millis) (s : ℕ) → when_of (cond bar None a) ≡ at s → (bar ≡ false) × (a ≡ Some (record { 0 = s }))
free_hop true a s e = let z : ◌≡◌ {A = ℕ} 0 1 = cc in absurd (omega arith)
free_hop false (Some x) s e = let q : x.0 ≡ s = cc in (refl, λ i. Some (record { 0 = q i }))
free_hop false None s e = let z : ◌≡◌ {A = ℕ} 0 1 = cc in absurd (omega arith)

pub carries_runs : {p : Service} {ask : Ask} {u t : ℕ} {chain : List ℕ} {v r : ℕ} → Carries p ask u t chain v r → Runs (network_of p ask) (u - 1) t chain (v - 1) r
unfolding barred_hop network_of
carries_runs stays = Net.stays
carries_runs {p} {ask} (hops {t} {s} {c} i from free hop run) =
    Net.hops {s = s} (in_plan_contact ask i) (ap (λ n. n - 1) from) (step_is p ask c t i ∙ rw (free, hop)) (carries_runs run)

-- nodes are numbered from 1, so that a number less one loses nothing
pub runs_carries : {p : Service} (ask : Ask) → Sound p → {x t : ℕ} {chain : List ℕ} {y r : ℕ} → Runs (network_of p ask) x t chain y r
    → (u v : ℕ) → 1 ≤ u → 1 ≤ v → u - 1 ≡ x → v - 1 ≡ y → Carries p ask u t chain v r
unfolding barred_hop network_of
runs_carries ask valid Net.stays u v hu hv eu ev = let same : u ≡ v = omega arith in rw same stays
runs_carries {p} ask valid (Net.hops {t} {s} {c} i from step run) u v hu hv eu ev =
    let named = contact_in_plan ask i in
    let good = contact_good p valid c named in
    let free = free_hop _ _ s (sym (step_is p ask c t named) ∙ step) in
    hops {u = u} named (omega (arith, good.from_node.least)) free.0 free.1
    (runs_carries ask valid run (contact_of p c).to.0 v good.to_node.least hv refl ev)

pub carries_reaches : {p : Service} {ask : Ask} {chain : List ℕ} {r : ℕ} → Carries p ask ask.source.0 ask.time.0 chain ask.destination.0 r
    → Reaches (network_of p ask) chain (goal ask) r
unfolding network_of
carries_reaches run = carries_runs run

module _ (p : Service) (valid : Sound p) (ask : Ask) (good : GoodAsk ask) where
  pub reaches_carries : {chain : List ℕ} {r : ℕ} → Reaches (network_of p ask) chain (goal ask) r
      → Carries p ask ask.source.0 ask.time.0 chain ask.destination.0 r
  unfolding network_of
  reaches_carries run =
      runs_carries ask valid run ask.source.0 ask.destination.0 good.source_node.least good.destination_node.least refl refl

  pub allowed_reaches : (ask.source.0 ≡ ask.destination.0 → ⊥) → (chain : List ℕ) (r : ℕ)
      → Allowed p ask chain r ↔ Reaches (network_of p ask) chain (goal ask) r
  unfolding delivery_of
  allowed_reaches differ chain r = (
    λ a. carries_reaches a.carried,
    λ run. (allowed_delivery p ask differ chain (record { 0 = r })).0 (carry_complete p ask (reaches_carries run)),
  )
