-- Hops and chains over a valid plan of which some volume is used, in the request's words alone: the contact's row of the plan, its light time by the
-- ranges that cover it, and what is left of its volume with its sign.
--     served_exactly            a contact of the plan as it serves an ask is good for the file exactly where it is so
--     allowed_served_exactly    a chain is allowed exactly where each of its contacts is, from the source to the destination
-- Assumes nothing.
use mathlib.Core.List.{List}
use mathlib.Core.Logic.{◌↔◌}
use mathlib.Core.Path.{◌≡◌, subst}
use Prim.Native.Nat.{ℕ, suc, ◌+◌, ◌-◌, ◌≤◌, ◌<◌}
use native.Mathlib.Omega.{arith}
use lib.IntN.{pos}
use lib.ListN.{length, get_or}
use lib.Signed.{◌≤ℤ◌}
use Rattle.units.specs.declared.Ask.{Ask}
use Rattle.units.specs.declared.Millis.{Millis}
use Rattle.plan.specs.declared.rows.Contact.{Contact}
use Rattle.std.specs.Prelude.{Option, Some}
use Rattle.plan.specs.Light.{HasLight}
use Rattle.plan.specs.Plan.{Plan, Valid}
use Rattle.plan.proofs.Ranging.{has_light_determined}
use Rattle.service.specs.Service.{blank, left_on, service_of, InPlan}
use Rattle.service.proofs.LeftLaws.{left_serves}
use Rattle.service.proofs.ServiceLaws.{service_has_light}
use Rattle.timing.specs.Chain.{Allowed}
use Rattle.timing.specs.Hop.{consumed, sent}
use Rattle.timing.proofs.AllowedLaws.{IsLater, GoodHop, node_at, Along, allowed_exactly}
use Rattle.timing.proofs.Barred.{ToExcluded}
use Rattle.timing.proofs.Rounding.{consumed_form}

-- the row of contact c: contacts are numbered from 1 in the order of their lines
abbrev pub row_of : Plan → ℕ → Contact
row_of p c = get_or p.contacts (c - 1) blank

-- contact c is one of the plan's and is from node u, not from the source to an excluded neighbour; the ranges of its pair cover it, with that light time;
-- the file, ready before it at t, starts at the later of ready and the contact's start, is sent by the contact's end, takes no more than what is left,
-- and is ready behind it at s
pub record Serves (p : Plan) (used : ℕ → ℕ) (ask : Ask) (u t c s : ℕ) : Type 0 where
  pub least : 1 ≤ c
  pub most : c ≤ length p.contacts
  pub joined : (row_of p c).from.0 ≡ u
  pub unexcluded : ToExcluded ask (row_of p c) → ⊥
  pub light : Millis
  pub has_light : HasLight p.ranges (row_of p c) (Some light)
  pub start : ℕ
  pub starts : IsLater t (row_of p c).start.0 start
  pub by_end : start + sent ask.size (row_of p c).rate ≤ (row_of p c).end.0
  pub by_volume : pos (consumed ask.size) ≤ℤ left_on p used c
  pub ready : s ≡ start + sent ask.size (row_of p c).rate + light.0

module _ (p : Plan) (valid : Valid p) (used : ℕ → ℕ) (ask : Ask) (some_bytes : 1 ≤ ask.size) (u t c s : ℕ) where
  takes_some : 1 ≤ consumed ask.size
  takes_some = omega (arith, consumed_form ask.size)

  pub served_exactly : GoodHop (service_of p used) ask u t c s ↔ Serves p used ask u t c s
  unfolding service_of
  served_exactly = (
    λ g. record {
      least = g.in_plan.least;
      most = g.in_plan.most;
      joined = g.joined;
      unexcluded = g.unexcluded;
      light = g.over.light_time;
      has_light =
          subst (λ (l : Option Millis). HasLight p.ranges (row_of p c) l) g.over.ranged (service_has_light p valid used c g.in_plan);
      start = g.over.start;
      starts = g.over.starts;
      by_end = g.over.by_end;
      by_volume = (left_serves p used c g.in_plan (consumed ask.size) takes_some).0 g.over.by_volume;
      ready = g.over.ready;
    },
    λ g.
        let there : InPlan (service_of p used) c = record { least = g.least; most = g.most } in
        record {
          in_plan = there;
          joined = g.joined;
          unexcluded = g.unexcluded;
          over = record {
            light_time = g.light;
            ranged = has_light_determined (service_has_light p valid used c there) g.has_light;
            start = g.start;
            starts = g.starts;
            by_end = g.by_end;
            by_volume = (left_serves p used c there (consumed ask.size) takes_some).1 g.by_volume;
            ready = g.ready;
          };
        },
  )

-- at least one contact; the file is ready at the source at the ask's time, each contact is good from where the one before it leads, and behind the last
-- the file is ready at the destination at r. `ready k` is when it is ready before the contact at place k, counted from 0
pub record ServedChain (p : Plan) (used : ℕ → ℕ) (ask : Ask) (chain : List ℕ) (r : ℕ) : Type 0 where
  pub some_contact : 1 ≤ length chain
  pub ready : ℕ → ℕ
  pub begins : ready 0 ≡ ask.time.0
  pub every : (k : ℕ) → k < length chain
      → Serves p used ask (node_at (service_of p used) ask.source.0 chain k) (ready k) (get_or chain k 0) (ready (suc k))
  pub leads : node_at (service_of p used) ask.source.0 chain (length chain) ≡ ask.destination.0
  pub ends : ready (length chain) ≡ r

module _ (p : Plan) (valid : Valid p) (used : ℕ → ℕ) (ask : Ask) (some_bytes : 1 ≤ ask.size) (chain : List ℕ) (r : ℕ) where
  pub allowed_served_exactly : Allowed (service_of p used) ask chain r ↔ ServedChain p used ask chain r
  allowed_served_exactly = (
    λ a.
        let (some_contact, timed) = (allowed_exactly (service_of p used) ask chain r).0 a in
        let (ready, along) = timed in
        record {
          some_contact = some_contact;
          ready = ready;
          begins = along.begins;
          every = λ k h. (served_exactly p valid used ask some_bytes _ _ _ _).0 (along.every k h);
          leads = along.leads;
          ends = along.ends;
        },
    λ s.
        let along : Along (service_of p used) ask ask.source.0 ask.time.0 chain s.ready ask.destination.0 r = record {
          begins = s.begins;
          every = λ k h. (served_exactly p valid used ask some_bytes _ _ _ _).1 (s.every k h);
          leads = s.leads;
          ends = s.ends;
        } in
        (allowed_exactly (service_of p used) ask chain r).1 (s.some_contact, (s.ready, along)),
  )
