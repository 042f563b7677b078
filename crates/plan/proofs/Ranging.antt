-- The light time that the code finds is the one that a contact has, in a valid plan.
--     largest_most              the largest light time is at most what each is
--     largest_each              it is no less than that of any range that shares time with the contact
--     largest_some              and where time is shared, that of one of them
--     light_has                 the light time found is the contact's
--     has_light_determined      a contact has one light time, or none
--     light_most                it is in its range
-- Assumes nothing.
use mathlib.Core.Bool.{Bool, true, false, cond}
use mathlib.Core.List.{List, [], ◌∷◌}
use mathlib.Core.Logic.{◌⊎◌, inl, inr, ⊎_elim}
use mathlib.Core.Path.{◌≡◌, refl, ap, subst}
use Prim.Native.Nat.{ℕ, zero, suc, ◌-◌, ◌≤◌, ◌<◌, max}
use native.Mathlib.Nat.{not-suc-le-zero, le_of_suc-le-suc, le_antisymm}
use native.Mathlib.Decide.{dec_le}
use native.Mathlib.Omega.{arith}
use lib.Dec.{leb, eqb}
use lib.ListN.{get_or}
use borrow.Author.Tests.{le-leb}
use Rattle.units.specs.declared.Millis.{Millis}
use Rattle.units.specs.Limits.{most_light}
use Rattle.plan.specs.declared.rows.Contact.{Contact}
use Rattle.plan.specs.declared.rows.Range.{Range}
use Rattle.std.specs.Prelude.{Option, Some, None}
use Rattle.plan.specs.Light.{Shares, CoversAt, Ranged, IsLargest, HasLight, ranged, not_ranged, shared_by, shared_time, largest_light, light_of}
use Rattle.plan.specs.Plan.{Plan, GoodRange, Each, SomeOf, Valid}
use Rattle.plan.specs.Verdict.{Verdict, holds, fails}
use Rattle.plan.proofs.Sharing.{shares_shared, shares_tells, some_here, some_later, some_mapped, some_gives, ranged_tells}
use Rattle.plan.proofs.Tests.{each_cons, each_head, each_tail}

-- ---- the largest light time

module _ (c : Contact) where
  pub largest_most : (most : ℕ) (rs : List Range) → Each (λ r. r.light.0 ≤ most) rs → largest_light rs c ≤ most
  unfolding largest_light
  largest_most most [] e = omega arith
  largest_most most (r ∷ rs) e =
      at_most (leb 1 (shared_by r c)) (each_head (λ x. x.light.0 ≤ most) r rs e) (largest_most most rs (each_tail (λ x. x.light.0 ≤ most) r rs e))
    where
      at_most : (b : Bool) → r.light.0 ≤ most → largest_light rs c ≤ most → cond b (max r.light.0 (largest_light rs c)) (largest_light rs c) ≤ most
      at_most true h l = omega arith
      at_most false h l = l

  pub largest_each : (rs : List Range) → Each GoodRange rs → c.start.0 < c.end.0 → Each (λ r. Shares r c → r.light.0 ≤ largest_light rs c) rs
  unfolding largest_light Each
  largest_each [] good h blank k l s = absurd (not-suc-le-zero l)
  largest_each (r ∷ rs) good h blank zero l s =
      rw (le-leb 1 (shared_by r c) (shares_shared r c (each_head GoodRange r rs good).starts h s)) (omega arith)
  largest_each (r ∷ rs) good h blank (suc k) l s =
      at_least (leb 1 (shared_by r c)) (largest_each rs (each_tail GoodRange r rs good) h blank k (le_of_suc-le-suc l) s)
    where
      at_least : (b : Bool) → (get_or rs k blank).light.0 ≤ largest_light rs c
          → (get_or rs k blank).light.0 ≤ cond b (max r.light.0 (largest_light rs c)) (largest_light rs c)
      at_least true g = omega arith
      at_least false g = g

-- a range that shares time with the contact and has that light time
abbrev SharesWith : Contact → ℕ → Range → Type 0
SharesWith c l r = Shares r c × (r.light ≡ record { 0 = l })

-- the larger of the first range's light time, where that shares time, and of the largest of the others
module _ (c : Contact) (r : Range) (rs : List Range) where
  module _ (s : Shares r c) where
    first_largest : (others : ℕ) → others ≤ r.light.0 → SomeOf (SharesWith c (max r.light.0 others)) (r ∷ rs)
    first_largest others l =
        let e : r.light.0 ≡ max r.light.0 others = omega arith in
        some_here (SharesWith c (max r.light.0 others)) r rs (s, ap (λ (n : ℕ). record { 0 = n }) e)

    largest_with : (others : ℕ) → SomeOf (SharesWith c others) rs ⊎ (others ≡ 0) → SomeOf (SharesWith c (max r.light.0 others)) (r ∷ rs)
    largest_with others (inr z) = first_largest others (omega arith)
    largest_with others (inl x) = elim (dec_le others r.light.0) [
      | yes l ↦ first_largest others l
      | no l ↦
          let e : others ≡ max r.light.0 others = omega arith in
          some_later (SharesWith c (max r.light.0 others)) r rs (subst (λ (n : ℕ). SomeOf (SharesWith c n) rs) e x)
    ]

module _ (c : Contact) (h : c.start.0 < c.end.0) where
  -- one of the ranges has it, or none shares time with the contact
  largest_found : (rs : List Range) → Each GoodRange rs → SomeOf (SharesWith c (largest_light rs c)) rs ⊎ (Each (λ r. Shares r c → ⊥) rs × (largest_light rs c ≡ 0))
  unfolding largest_light Each
  largest_found [] good = inr (λ blank k l s. not-suc-le-zero l, refl)
  largest_found (r ∷ rs) good =
      go (leb 1 (shared_by r c)) (shares_tells r c (each_head GoodRange r rs good).starts h) (largest_found rs (each_tail GoodRange r rs good))
    where
      others : ℕ
      others = largest_light rs c

      go : (b : Bool) → Verdict (Shares r c) b → SomeOf (SharesWith c others) rs ⊎ (Each (λ x. Shares x c → ⊥) rs × (others ≡ 0))
          → SomeOf (SharesWith c (cond b (max r.light.0 others) others)) (r ∷ rs)
          ⊎ (Each (λ x. Shares x c → ⊥) (r ∷ rs) × (cond b (max r.light.0 others) others ≡ 0))
      go _ (holds s) found = inl (largest_with c r rs s others (⊎_elim inl (λ n. inr n.1) found))
      go _ (fails n) (inl x) = inl (some_later (SharesWith c others) r rs x)
      go _ (fails n) (inr x) = inr (each_cons (λ y. Shares y c → ⊥) r rs n x.0, x.1)

  pub largest_some : (rs : List Range) → Each GoodRange rs → SomeOf (λ r. Shares r c) rs → SomeOf (SharesWith c (largest_light rs c)) rs
  largest_some rs good some =
      ⊎_elim (λ x. x) (λ n. absurd (some_gives (λ r. Shares r c) (λ r. Shares r c → ⊥) rs some n.0 (λ r x no. no x))) (largest_found rs good)

-- ---- the light time

-- a range that has the first millisecond of the contact shares time with it
module _ (c : Contact) (h : c.start.0 < c.end.0) where
  start_shares : (r : Range) → CoversAt c c.start.0 r → Shares r c
  start_shares r x = record { names = x.names; range_before = omega (arith, x.begun); contact_before = x.lasting }

  ranged_some : (rs : List Range) → Ranged rs c → SomeOf (λ r. Shares r c) rs
  unfolding Ranged
  ranged_some rs told = some_mapped (CoversAt c c.start.0) (λ r. Shares r c) rs (told c.start.0 (omega arith) h) start_shares

pub light_has : (p : Plan) → Valid p → (c : Contact) → c.start.0 < c.end.0 → HasLight p.ranges c (light_of p.ranges c)
unfolding light_of
light_has p v c h =
    go (eqb (shared_time rs c) (c.end.0 - c.start.0)) (ranged_tells c rs v.ranges_good v.ranges_apart (omega arith))
  where
    rs : List Range
    rs = p.ranges

    go : (b : Bool) → Verdict (Ranged rs c) b → HasLight rs c (cond b (Some (record { 0 = largest_light rs c })) None)
    go _ (holds told) =
        ranged told
        (record {
          is_one = largest_some c h rs v.ranges_good (ranged_some c h rs told);
          largest = largest_each c rs v.ranges_good h;
        })
    go _ (fails n) = not_ranged n

-- one largest light time is no more than another
largest_below : {rs : List Range} {c : Contact} {l m : Millis} → IsLargest rs c l → IsLargest rs c m → l.0 ≤ m.0
largest_below {rs} {c} {l} {m} x y =
    some_gives (λ r. Shares r c × (r.light ≡ l)) (λ r. Shares r c → r.light.0 ≤ m.0) rs x.is_one y.largest
    (λ r s most. subst (λ (n : Millis). n.0 ≤ m.0) s.1 (most s.0))

pub has_light_determined : {rs : List Range} {c : Contact} {a b : Option Millis} → HasLight rs c a → HasLight rs c b → a ≡ b
has_light_determined (ranged told x) (ranged told' y) = ap (λ (n : ℕ). Some (record { 0 = n })) (le_antisymm (largest_below x y) (largest_below y x))
has_light_determined (ranged told x) (not_ranged n) = absurd (n told)
has_light_determined (not_ranged n) (ranged told x) = absurd (n told)
has_light_determined (not_ranged n) (not_ranged n') = refl

-- the light time found is in its range
pub light_most : (p : Plan) → Valid p → (c : Contact) (l : Millis) → light_of p.ranges c ≡ Some l → l.0 ≤ most_light
unfolding light_of Each
light_most p v c l e = go (eqb (shared_time p.ranges c) (c.end.0 - c.start.0)) e
  where
    most : largest_light p.ranges c ≤ most_light
    most = largest_most c most_light p.ranges (λ blank k h. (v.ranges_good blank k h).light_most)

    go : (b : Bool) → cond b (Some (record { 0 = largest_light p.ranges c })) None ≡ Some l → l.0 ≤ most_light
    go true x = let same : largest_light p.ranges c ≡ l.0 = cc in subst (λ (n : ℕ). n ≤ most_light) same most
    go false x = let z : ◌≡◌ {A = ℕ} 0 1 = cc in absurd (omega arith)
