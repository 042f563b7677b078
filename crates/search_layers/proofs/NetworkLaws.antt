-- A valid plan with a good ask is a network that obeys the laws.
--     contact_in_plan, in_plan_contact      the contacts of the network are those of the plan
--     step_is            the network's step over a contact of the plan is the hop, or never where the contact is barred
--     behind_start, behind_ended      nothing comes over a contact before it starts, nor where it is ready after its end
--     node_below         a node of the plan is one of the network
--     goal_node, goal_apart      the destination is a node of it, and not its source
--     network_laws       the laws hold
-- Assumes nothing.
use mathlib.Core.Bool.{Bool, true, false, not, cond}
use mathlib.Core.Path.{◌≡◌, refl, ap, ◌∙◌}
use Prim.Native.Nat.{ℕ, suc, ◌-◌, ◌≤◌, ◌<◌}
use native.Mathlib.Omega.{arith}
use borrow.Author.Tests.{le-leb, eq-eqb}
use lib.ListN.{length}
use Rattle.units.specs.Limits.{most_nodes, IsNode}
use Rattle.units.specs.declared.Ask.{Ask}
use Rattle.units.specs.declared.Millis.{Millis}
use Rattle.units.specs.declared.NodeNo.{NodeNo}
use Rattle.std.specs.Prelude.{Option, Some, None}
use Rattle.plan.specs.declared.rows.Contact.{Contact}
use Rattle.service.specs.Service.{Service, Sound, contact_of, light_in, left_in, InPlan}
use Rattle.timing.specs.Hop.{hopped, is_barred}
use Rattle.timing.specs.Model.{goes_on, over_contact, step_over, back_over}
use Rattle.units.specs.Asks.{GoodAsk}
use Rattle.service.proofs.Bounded.{contact_good}
use Rattle.timing.proofs.HopLaws.{Hops, over, hop_told, hop_sent, hop_after, hop_sooner, back_enough, back_needed}
use Rattle.network.specs.Model.{behind}
use Rattle.network.specs.Network.{When, at, never, NotLater, both, last, Within, within, IsContact, Laws}
use Rattle.search_layers.specs.Bridge.{when_of, back_step, network_of, goal}

pub contact_in_plan : {p : Service} (ask : Ask) {c : ℕ} → IsContact (network_of p ask) c → InPlan p c
unfolding network_of
contact_in_plan ask i = record { least = i.least; most = i.most }

pub in_plan_contact : {p : Service} (ask : Ask) {c : ℕ} → InPlan p c → IsContact (network_of p ask) c
unfolding network_of
in_plan_contact ask i = record { least = i.least; most = i.most }

-- a hop over a contact that may be barred, and the limit before it
unfoldable pub barred_hop : Bool → Option Millis → ℕ → Contact → ℕ → ℕ → When
barred_hop bar light left x size t = when_of (cond bar None (hopped light left x size t))

barred_back : Bool → Option Millis → ℕ → Contact → ℕ → ℕ → ℕ
barred_back bar light left x size limit = cond bar 0 (back_over light left x size limit)

-- a file that is ready wherever another is, and no later
arrival_not_later : (a b : Option Millis) → ((y : Millis) → b ≡ Some y → (x : Millis) × (a ≡ Some x) × (x.0 ≤ y.0)) → NotLater (when_of a) (when_of b)
arrival_not_later a (Some y) h = let (x, e, l) = h y refl in rw e (both l)
arrival_not_later a None h = last

within_arrival : (a : Option Millis) {limit : ℕ} → Within (when_of a) limit → (x : Millis) × (a ≡ Some x) × (x.0 < limit)
within_arrival (Some x) (within h) = (x, refl, h)
within_arrival None {limit = limit} x' = elim x' [ ]

-- the laws of one hop
module _ (light : Option Millis) (left : ℕ) (x : Contact) (size : ℕ) where
  sooner_barred : (bar : Bool) {s t : ℕ} → s ≤ t → NotLater (barred_hop bar light left x size s) (barred_hop bar light left x size t)
  unfolding barred_hop
  sooner_barred true h = last
  sooner_barred false {s} {t} h = arrival_not_later (hopped light left x size s) (hopped light left x size t) (hop_sooner light left x size h)

  after_barred : (bar : Bool) (t : ℕ) → NotLater (at t) (barred_hop bar light left x size t)
  unfolding barred_hop
  after_barred true t = last
  after_barred false t =
      arrival_not_later (Some (record { 0 = t })) (hopped light left x size t) (λ y e. (record { 0 = t }, refl, hop_after light left x size t y e))

  start_barred : (bar : Bool) (t : ℕ) → NotLater (at x.start.0) (barred_hop bar light left x size t)
  unfolding barred_hop
  start_barred true t = last
  start_barred false t =
      arrival_not_later (Some x.start) (hopped light left x size t) (λ y e. (x.start, refl, omega (arith, hop_sent light left x size t y e)))

  ended_barred : (bar : Bool) (t : ℕ) → x.end.0 < t → barred_hop bar light left x size t ≡ never
  unfolding barred_hop
  ended_barred true t h = refl
  ended_barred false t h = go (hopped light left x size t) (λ y e. ended_unfit y (hop_told light left x size t y e))
    where
      ended_unfit : {l : Option Millis} (y : Millis) → Hops left x size t l y.0 → ⊥
      ended_unfit y (over fits _ _) = omega arith

      go : (a : Option Millis) → ((y : Millis) → a ≡ Some y → ⊥) → when_of a ≡ never
      go (Some y) none = absurd (none y refl)
      go None none = refl

  enough_barred : (bar : Bool) (t limit : ℕ) → t < barred_back bar light left x size limit → Within (barred_hop bar light left x size t) limit
  unfolding barred_hop barred_back
  enough_barred true t limit h = absurd (omega arith)
  enough_barred false t limit h = let (y, e, l) = back_enough light left x size limit t h in rw e (within l)

  needed_barred : (bar : Bool) (t limit : ℕ) → Within (barred_hop bar light left x size t) limit → t < barred_back bar light left x size limit
  unfolding barred_hop barred_back
  needed_barred true t limit h = elim h [ ]
  needed_barred false t limit h = let (y, e, l) = within_arrival (hopped light left x size t) h in back_needed light left x size limit t y e l

pub step_is : (p : Service) (ask : Ask) (c t : ℕ) → InPlan p c
    → (network_of p ask).step c t ≡ barred_hop (is_barred ask (contact_of p c)) (light_in p c) (left_in p c) (contact_of p c) ask.size t
unfolding barred_hop network_of step_over goes_on over_contact
step_is p ask c t i =
    let x : Contact = contact_of p c in
    rw (le-leb 1 c i.least, le-leb c (length p.contacts) i.most, eq-eqb x.from.0 x.from.0 refl)
    (ap when_of (turned (is_barred ask x) (hopped (light_in p c) (left_in p c) x ask.size t)))
  where
    turned : (b : Bool) (a : Option Millis) → cond (not b) a None ≡ cond b None a
    turned true a = refl
    turned false a = refl

-- a file that is ready before a contact of the plan as `w` says
module _ (p : Service) (ask : Ask) (c : ℕ) (named : InPlan p c) where
  pub behind_start : (w : When) → NotLater (at (contact_of p c).start.0) (behind (network_of p ask) c w)
  unfolding behind
  behind_start (at t) = rw (step_is p ask c t named) (start_barred _ _ _ _ _ t)
  behind_start never = last

  pub behind_ended : (w : When) → NotLater (at (suc (contact_of p c).end.0)) w → behind (network_of p ask) c w ≡ never
  unfolding behind
  behind_ended (at t) (both h) = step_is p ask c t named ∙ ended_barred _ _ _ _ _ t h
  behind_ended never h = refl

back_is : (p : Service) (ask : Ask) (c limit : ℕ)
    → (network_of p ask).back c limit ≡ barred_back (is_barred ask (contact_of p c)) (light_in p c) (left_in p c) (contact_of p c) ask.size limit
unfolding barred_back network_of back_step
back_is p ask c limit = refl

-- a node of the plan is one of the network
pub node_below : (n : NodeNo) → IsNode n → n.0 - 1 < most_nodes
node_below n h = omega (arith, h.least, h.most)

pub goal_node : (p : Service) (ask : Ask) → GoodAsk ask → goal ask < (network_of p ask).nodes
unfolding network_of
goal_node p ask good = node_below ask.destination good.destination_node

pub goal_apart : (p : Service) (ask : Ask) → GoodAsk ask → (ask.source.0 ≡ ask.destination.0 → ⊥) → goal ask ≡ (network_of p ask).source → ⊥
unfolding network_of
goal_apart p ask good differ e = differ (omega (arith, good.source_node.least, good.destination_node.least))

pub network_laws : (p : Service) → Sound p → (ask : Ask) → GoodAsk ask → Laws (network_of p ask)
network_laws p valid ask good = record {
  source_node = unfold network_of in node_below ask.source good.source_node;
  from_node = λ c i. unfold network_of in node_below (contact_of p c).from (contact_good p valid c (contact_in_plan ask i)).from_node;
  to_node = λ c i. unfold network_of in node_below (contact_of p c).to (contact_good p valid c (contact_in_plan ask i)).to_node;
  sooner = λ c s t i h. rw (hop c s i, hop c t i) (sooner_barred _ _ _ _ _ h);
  after = λ c t i. rw (hop c t i) (after_barred _ _ _ _ _ t);
  back_enough = λ c t limit i h. rw (hop c t i) (enough_barred _ _ _ _ _ t limit (rw (back_is p ask c limit) at h));
  back_needed = λ c t limit i h. rw (back_is p ask c limit) (needed_barred _ _ _ _ _ t limit (rw (hop c t i) at h));
}
  where
    hop : (c t : ℕ) → IsContact (network_of p ask) c
        → (network_of p ask).step c t ≡ barred_hop (is_barred ask (contact_of p c)) (light_in p c) (left_in p c) (contact_of p c) ask.size t
    hop c t i = step_is p ask c t (contact_in_plan ask i)
