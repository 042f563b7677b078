-- The tests that the code makes tell what the statements of specs/Plan.antt say.
--     each_tells, no_two_tells      a test of each element, and of each two
--     is_node_tells, good_contact_tells, good_range_tells, overlap_tells
--     overlap_either               either span may stand first
--     valid_tells                  the test of a whole plan
-- Assumes nothing.
use mathlib.Core.Bool.{Bool, not}
use mathlib.Core.List.{List, [], ◌∷◌, map}
use mathlib.Core.Path.{◌≡◌, sym, subst}
use Prim.Native.Nat.{ℕ, zero, suc, ◌<◌, suc-le-suc, zero-le}
use native.Mathlib.Nat.{not-suc-le-zero, le_of_suc-le-suc}
use lib.ListN.{length, get_or, length-map, get_or-map}
use Rattle.units.specs.declared.NodeNo.{NodeNo}
use Rattle.units.specs.Limits.{IsNode, last_time, most_rate, most_light, most_nodes, most_contacts, most_ranges}
use Rattle.units.specs.Model.{is_node}
use Rattle.plan.specs.declared.rows.Contact.{Contact}
use Rattle.plan.specs.declared.rows.Range.{Range}
use Rattle.plan.specs.declared.rows.Span.{Span}
use Rattle.plan.specs.Plan.{Plan, GoodContact, GoodRange, Overlap, Each, NoTwo, Valid, contact_span, range_span}
use Rattle.plan.specs.Model.{good_contact, good_range, overlap, each, no_two, is_valid}
use Rattle.plan.specs.Verdict.{Verdict, holds}
use Rattle.plan.proofs.Verdicts.{tells_le, tells_lt, tells_eq, both, denied, restated, answers_agree}

module _ {A : Type 0} where
  pub each_cons : (P : A → Type 0) (x : A) (xs : List A) → P x → Each P xs → Each P (x ∷ xs)
  unfolding Each
  each_cons P x xs p ps blank zero h = p
  each_cons P x xs p ps blank (suc k) h = ps blank k (le_of_suc-le-suc h)

  pub each_head : (P : A → Type 0) (x : A) (xs : List A) → Each P (x ∷ xs) → P x
  unfolding Each
  each_head P x xs ps = ps x zero (suc-le-suc zero-le)

  pub each_tail : (P : A → Type 0) (x : A) (xs : List A) → Each P (x ∷ xs) → Each P xs
  unfolding Each
  each_tail P x xs ps blank k h = ps blank (suc k) (suc-le-suc h)

  -- what holds of each of the mapped elements holds of one, mapped
  pub each_at : {B : Type 0} (P : A → Type 0) (f : B → A) (xs : List B) → Each P (map f xs) → (blank : B) (k : ℕ) → k < length xs → P (f (get_or xs k blank))
  unfolding Each
  each_at P f xs ps blank k h =
      subst P (get_or-map f xs k blank) (ps (f blank) k (subst (λ (n : ℕ). k < n) (sym (length-map xs f)) h))

  pub each_tells : (P : A → Type 0) (test : A → Bool) → ((x : A) → Verdict (P x) (test x)) → (xs : List A) → Verdict (Each P xs) (each test xs)
  unfolding each Each
  each_tells P test tells [] = holds (λ blank k h. absurd (not-suc-le-zero h))
  each_tells P test tells (x ∷ xs) =
      restated (λ p. each_cons P x xs p.0 p.1) (λ ps. (each_head P x xs ps, each_tail P x xs ps)) (both (tells x) (each_tells P test tells xs))

  no_two_cons : (R : A → A → Type 0) (x : A) (xs : List A) → Each (λ y. R x y → ⊥) xs → NoTwo R xs → NoTwo R (x ∷ xs)
  unfolding Each NoTwo
  no_two_cons R x xs ps qs blank j zero l h r = not-suc-le-zero l
  no_two_cons R x xs ps qs blank zero (suc k) l h r = ps blank k (le_of_suc-le-suc h) r
  no_two_cons R x xs ps qs blank (suc j) (suc k) l h r = qs blank j k (le_of_suc-le-suc l) (le_of_suc-le-suc h) r

  pub no_two_head : (R : A → A → Type 0) (x : A) (xs : List A) → NoTwo R (x ∷ xs) → Each (λ y. R x y → ⊥) xs
  unfolding Each NoTwo
  no_two_head R x xs qs blank k h r = qs blank zero (suc k) (suc-le-suc zero-le) (suc-le-suc h) r

  pub no_two_tail : (R : A → A → Type 0) (x : A) (xs : List A) → NoTwo R (x ∷ xs) → NoTwo R xs
  unfolding NoTwo
  no_two_tail R x xs qs blank j k l h r = qs blank (suc j) (suc k) (suc-le-suc l) (suc-le-suc h) r

  -- what holds of no two of the mapped elements holds of no two, mapped
  pub no_two_at : {B : Type 0} (R : A → A → Type 0) (f : B → A) (xs : List B) → NoTwo R (map f xs) → (blank : B) (j k : ℕ) → j < k → k < length xs
      → R (f (get_or xs j blank)) (f (get_or xs k blank)) → ⊥
  unfolding NoTwo
  no_two_at R f xs qs blank j k l h r =
      qs (f blank) j k l (rw (length-map xs f) h) (rw (get_or-map f xs j blank, get_or-map f xs k blank) r)

  pub no_two_tells : (R : A → A → Type 0) (test : A → A → Bool) → ((x y : A) → Verdict (R x y) (test x y)) → (xs : List A) → Verdict (NoTwo R xs) (no_two test xs)
  unfolding no_two NoTwo
  no_two_tells R test tells [] = holds (λ blank j k l h r. not-suc-le-zero h)
  no_two_tells R test tells (x ∷ xs) =
      restated (λ p. no_two_cons R x xs p.0 p.1) (λ qs. (no_two_head R x xs qs, no_two_tail R x xs qs))
      (both (each_tells (λ y. R x y → ⊥) (λ y. not (test x y)) (λ y. denied (tells x y)) xs) (no_two_tells R test tells xs))

pub is_node_tells : (n : NodeNo) → Verdict (IsNode n) (is_node n)
is_node_tells n =
    restated (λ p. record { least = p.0; most = p.1 }) (λ g. (g.least, g.most)) (both (tells_le 1 n.0) (tells_le n.0 most_nodes))

pub good_contact_tells : (c : Contact) → Verdict (GoodContact c) (good_contact c)
good_contact_tells c =
    restated
    (λ p. record {
      starts = p.0.0.0.0.0.0;
      ends = p.0.0.0.0.0.1;
      from_node = p.0.0.0.0.1;
      to_node = p.0.0.0.1;
      differ = p.0.0.1;
      rate_least = p.0.1;
      rate_most = p.1;
    })
    (λ g. ((((((g.starts, g.ends), g.from_node), g.to_node), g.differ), g.rate_least), g.rate_most))
    (both
    (both
    (both
    (both (both (both (tells_lt c.start.0 c.end.0) (tells_le c.end.0 last_time)) (is_node_tells c.from)) (is_node_tells c.to))
    (denied (tells_eq c.from.0 c.to.0)))
    (tells_le 1 c.rate))
    (tells_le c.rate most_rate))

pub good_range_tells : (r : Range) → Verdict (GoodRange r) (good_range r)
good_range_tells r =
    restated
    (λ p. record {
      starts = p.0.0.0.0.0;
      ends = p.0.0.0.0.1;
      a_node = p.0.0.0.1;
      b_node = p.0.0.1;
      order = p.0.1;
      light_most = p.1;
    })
    (λ g. (((((g.starts, g.ends), g.a_node), g.b_node), g.order), g.light_most))
    (both
    (both
    (both (both (both (tells_lt r.start.0 r.end.0) (tells_le r.end.0 last_time)) (is_node_tells r.a)) (is_node_tells r.b))
    (tells_lt r.a.0 r.b.0))
    (tells_le r.light.0 most_light))

pub overlap_tells : (x y : Span) → Verdict (Overlap x y) (overlap x y)
overlap_tells x y =
    restated (λ p. record { one_same = p.0.0.0; other_same = p.0.0.1; x_before = p.0.1; y_before = p.1 })
    (λ g. (((g.one_same, g.other_same), g.x_before), g.y_before))
    (both
    (both (both (tells_eq x.one.0 y.one.0) (tells_eq x.other.0 y.other.0)) (tells_lt x.start.0 y.end.0))
    (tells_lt y.start.0 x.end.0))

pub overlap_either : (x y : Span) → overlap x y ≡ overlap y x
overlap_either x y = answers_agree (overlap_tells x y) (restated (turned y x) (turned x y) (overlap_tells y x))
  where
    turned : (x y : Span) → Overlap x y → Overlap y x
    turned x y o = record { one_same = sym o.one_same; other_same = sym o.other_same; x_before = o.y_before; y_before = o.x_before }

pub valid_tells : (p : Plan) → Verdict (Valid p) (is_valid p)
unfolding is_valid
valid_tells p =
    restated
    (λ q. record {
      contacts_most = q.0.0.0.0.0;
      ranges_most = q.0.0.0.0.1;
      contacts_good = q.0.0.0.1;
      ranges_good = q.0.0.1;
      contacts_apart = q.0.1;
      ranges_apart = q.1;
    })
    (λ v. (((((v.contacts_most, v.ranges_most), v.contacts_good), v.ranges_good), v.contacts_apart), v.ranges_apart))
    (both
    (both
    (both
    (both (both (tells_le (length p.contacts) most_contacts) (tells_le (length p.ranges) most_ranges)) (each_tells GoodContact good_contact good_contact_tells p.contacts))
    (each_tells GoodRange good_range good_range_tells p.ranges))
    (no_two_tells Overlap overlap overlap_tells (map contact_span p.contacts)))
    (no_two_tells Overlap overlap overlap_tells (map range_span p.ranges)))
