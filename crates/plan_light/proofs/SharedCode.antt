-- What one range shares with a contact, by its nodes and its times.
--     pair_is, pair_nodes                  a contact's pair, by the lesser and the greater node; both are nodes
--     joins_pair                           a good range that names the contact's nodes is of its pair
--     joining_joins, apart_shares          a range that is of the pair names the contact's nodes, and one that is not shares nothing
--     none_left                            an end that is no later than the start leaves nothing
--     shared_is, shared_none               what is shared by a range that names the contact's nodes, and by one that does not
--     shared_early, shared_late            nothing is shared by a range that ends by the contact's start, or that starts no earlier than it ends
--     never_true                           what is said of the answer true holds of the answer false
-- Assumes nothing.
use mathlib.Core.Bool.{Bool, true, false, ◌&&◌, cond}
use mathlib.Core.Logic.{inl, inr, ⊎_elim}
use mathlib.Core.Path.{◌≡◌, refl, sym, subst}
use Prim.Native.Nat.{ℕ, ◌-◌, ◌≤◌, min, max}
use native.Mathlib.Decide.{dec_lt}
use native.Mathlib.Omega.{arith}
use lib.Dec.{T, eqb}
use Rattle.plan.specs.declared.rows.Contact.{Contact}
use Rattle.plan.specs.declared.rows.Range.{Range}
use Rattle.plan.specs.declared.rows.Span.{Span}
use Rattle.plan.specs.Light.{Joins, joins, shared_by}
use Rattle.plan.specs.Plan.{GoodContact, GoodRange}
use Rattle.plan.specs.Verdict.{Verdict, fails}
use Rattle.plan.proofs.Sharing.{joins_tells}
use Rattle.plan.proofs.Verdicts.{tells_eq, both, true_holds, false_fails, holds_true, answers_agree}
use Rattle.plan_lists.specs.Model.{IsPair}
use Rattle.plan_light.specs.Model.{pair_of}

pub pair_is : (c : Contact) (low high : ℕ) → low ≡ min c.from.0 c.to.0 → high ≡ max c.from.0 c.to.0
    → record { start = c.start; end = c.end; one = record { 0 = low }; other = record { 0 = high } } ≡ pair_of c
pair_is c low high el eh = rw (el, eh)

pub pair_nodes : (c : Contact) → GoodContact c → IsPair (pair_of c)
pair_nodes c g = record {
  one_node = record { least = omega (arith, g.from_node.least, g.to_node.least); most = omega (arith, g.from_node.most) };
  other_node = record { least = omega (arith, g.from_node.least); most = omega (arith, g.from_node.most, g.to_node.most) };
}

-- an end that is no later than the start leaves nothing between them
pub none_left : (start end : ℕ) → end ≤ start → 0 ≡ end - start
none_left start end h = omega arith

module _ (r : Range) (c : Contact) where
  -- ---- by its times

  pub shared_is : Joins r c → (start end : ℕ) → start ≡ max r.start.0 c.start.0 → end ≡ min r.end.0 c.end.0
      → end - start ≡ shared_by r c
  unfolding shared_by
  shared_is j start end es ee = rw (holds_true (joins_tells r c) j, es, ee)

  pub shared_none : (Joins r c → ⊥) → shared_by r c ≡ 0
  unfolding shared_by
  shared_none n = rw (answers_agree (joins_tells r c) (fails n))

  pub shared_early : r.end.0 ≤ c.start.0 → shared_by r c ≡ 0
  unfolding shared_by
  shared_early h = go (joins r c)
    where
      go : (b : Bool) → cond b (min r.end.0 c.end.0 - max r.start.0 c.start.0) 0 ≡ 0
      go true = omega arith
      go false = refl

  pub shared_late : c.end.0 ≤ r.start.0 → shared_by r c ≡ 0
  unfolding shared_by
  shared_late h = go (joins r c)
    where
      go : (b : Bool) → cond b (min r.end.0 c.end.0 - max r.start.0 c.start.0) 0 ≡ 0
      go true = omega arith
      go false = refl

  -- ---- by its nodes

  -- the range is of the contact's pair
  abbrev OfPair : Type 0
  OfPair = (r.a.0 ≡ min c.from.0 c.to.0) × (r.b.0 ≡ max c.from.0 c.to.0)

  pair_joins : OfPair → Joins r c
  pair_joins p = elim (dec_lt c.from.0 c.to.0) [
    | yes l ↦ inl (omega (arith, p.0), omega (arith, p.1))
    | no l ↦ inr (omega (arith, p.0), omega (arith, p.1))
  ]

  pub joins_pair : GoodRange r → Joins r c → OfPair
  joins_pair good j =
      ⊎_elim (λ x. (omega (arith, x.0, x.1, good.order), omega (arith, x.0, x.1, good.order)))
      (λ x. (omega (arith, x.0, x.1, good.order), omega (arith, x.0, x.1, good.order))) j

  -- t answers whether it is
  module _ (pair : Span) (ep : pair ≡ pair_of c) (t : Bool) (et : t ≡ (eqb r.a.0 pair.one.0 && eqb r.b.0 pair.other.0)) where
    tells : Verdict OfPair t
    tells = rw (et, ep) (both (tells_eq r.a.0 (min c.from.0 c.to.0)) (tells_eq r.b.0 (max c.from.0 c.to.0)))

    pub joining_joins : t ≡ true → Joins r c
    joining_joins e = pair_joins (true_holds tells e)

    pub apart_shares : t ≡ false → GoodRange r → 0 ≡ shared_by r c
    apart_shares e good = sym (shared_none (λ j. false_fails tells e (joins_pair good j)))

pub never_true : {A : Type 0} → false ≡ true → A
never_true e = absurd (subst T (sym e) tt)
