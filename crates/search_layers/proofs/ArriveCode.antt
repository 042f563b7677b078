-- What `arrive` and `try_contact` know of the network: the answer by the way that the code took.
--     arrive_barred, arrive_over, arrive_good      when the file is ready behind a contact, and that it is a time that a file can be ready at
--     late_by      it comes no earlier than at a time, by each of three tests
-- Assumes nothing.
use mathlib.Core.Bool.{Bool, true, false}
use mathlib.Core.Logic.{inl, inr}
use mathlib.Core.Path.{◌≡◌, sym, ap, ◌∙◌}
use Prim.Native.Nat.{ℕ, ◌+◌, ◌≤◌, ◌<◌}
use native.Mathlib.Omega.{arith}
use Rattle.units.specs.declared.Ask.{Ask}
use Rattle.units.specs.declared.Millis.{Millis}
use Rattle.units.specs.Limits.{last_time, most_light}
use Rattle.plan.specs.declared.rows.Contact.{Contact}
use Rattle.service.specs.Service.{Service, Sound, contact_of, light_in, left_in, InPlan}
use Rattle.std.specs.Prelude.{Option, Some, None}
use Rattle.timing.specs.Hop.{is_barred}
use Rattle.timing.specs.Model.{over_contact}
use Rattle.service.proofs.Bounded.{contact_good, light_good}
use Rattle.timing.proofs.HopLaws.{hop_bounded}
use Rattle.units.specs.Asks.{GoodAsk}
use Rattle.network.specs.Model.{behind}
use Rattle.network.specs.Network.{at, never, NotLater, both, last}
use Rattle.network.proofs.Layers.{behind_after}
use Rattle.network.proofs.Whens.{not_later_trans}
use Rattle.search_layers.specs.Bridge.{when_of, network_of}
use Rattle.search_layers.specs.Words.{when_word, TimeGood, LateBy}
use Rattle.search_layers.proofs.NetworkLaws.{in_plan_contact, barred_hop, step_is, behind_start, behind_ended, network_laws}
use Rattle.search_layers.proofs.ReadCode.{Read}
use Rattle.search_layers.proofs.RowLaws.{when_time, time_below, when_not_later}

-- the file is ready before contact c at t
module _ (p : Service) (ask : Ask) (c t : ℕ) (named : InPlan p c) where
  -- what comes behind it, by whether it is barred
  hops : (bar : Bool) → is_barred ask (contact_of p c) ≡ bar
      → behind (network_of p ask) c (at t) ≡ barred_hop bar (light_in p c) (left_in p c) (contact_of p c) ask.size t
  unfolding behind
  hops bar e = step_is p ask c t named ∙ ap (λ (b : Bool). barred_hop b (light_in p c) (left_in p c) (contact_of p c) ask.size t) e

  pub arrive_barred : is_barred ask (contact_of p c) ≡ true → never ≡ behind (network_of p ask) c (at t)
  unfolding barred_hop
  arrive_barred e = sym (hops true e)

  module _ (a : Option Millis) (ea : a ≡ over_contact p ask c t) where
    pub arrive_over : is_barred ask (contact_of p c) ≡ false → when_of a ≡ behind (network_of p ask) c (at t)
    unfolding barred_hop over_contact
    arrive_over e = ap when_of ea ∙ sym (hops false e)

  pub arrive_good : Sound p → (a : Option Millis) → a ≡ over_contact p ask c t → TimeGood a
  unfolding over_contact
  arrive_good sound (Some s) ea =
      omega (
        arith,
        (contact_good p sound c named).ends,
        hop_bounded (light_in p c) (left_in p c) (contact_of p c) (light_good p sound c named) ask.size t s (sym ea),
      )
  arrive_good sound None ea = tt

-- the file is at the contact's last node at `there` already
module _ (p : Service) (ask : Ask) (c ready there : ℕ) (named : InPlan p c) (time : ready ≤ last_time + most_light) where
  abbrev Late : Type 0
  Late = NotLater (when_word there) (behind (network_of p ask) c (at ready))

  late_ready : Sound p → GoodAsk ask → there ≤ ready → Late
  late_ready sound good h =
      let before : NotLater (when_word there) (at ready) = rw (when_time ready time) at (when_not_later there ready h (time_below ready time)) in
      not_later_trans before (behind_after _ (network_laws p sound ask good) c (in_plan_contact ask named) (at ready))

  module _ (x : Contact) (read : Read p c x) where
    late_ended : x.end.0 < ready → Late
    late_ended h = rw (behind_ended p ask c named (at ready) (rw (sym read.is) (both h))) last

    late_start : there ≤ x.start.0 → Late
    late_start h =
        let from_start : NotLater (at x.start.0) (behind (network_of p ask) c (at ready)) = rw (sym read.is) at (behind_start p ask c named (at ready)) in
        let says : when_word there ≡ at there = when_time there (omega (arith, read.good.starts, read.good.ends)) in
        not_later_trans (rw says (both h)) from_start

    pub late_by : Sound p → GoodAsk ask → LateBy x ready there → Late
    late_by sound good (inl h) = late_ready sound good h
    late_by sound good (inr (inl h)) = late_ended h
    late_by sound good (inr (inr h)) = late_start h
