-- The light time by the rule that stood before ranges could change during a pass (specs/Single.antt).
--     covers_tells        the test of one range
--     covers_ranged       a contact that a single range covers is ranged
--     single_has          the light time by that rule is the contact's, where a single range covers it or all together do not
--     light_as_before     and there it is the one found now
-- Assumes nothing.
use Rattle.std.specs.Prelude.{cond, Option, Some, None}
use mathlib.Core.Bool.{Bool}
use mathlib.Core.List.{List, [], ◌∷◌, map}
use mathlib.Core.Logic.{◌⊎◌, inl, inr}
use mathlib.Core.Path.{◌≡◌, refl, subst}
use Prim.Native.Nat.{ℕ, ◌≤◌, ◌<◌, max}
use native.Mathlib.Nat.{not-suc-le-zero}
use native.Mathlib.Decide.{dec_lt}
use native.Mathlib.Omega.{arith}
use lib.ListN.{length, get_or}
use Rattle.units.specs.declared.Millis.{Millis}
use Rattle.plan.specs.declared.rows.Contact.{Contact}
use Rattle.plan.specs.declared.rows.Range.{Range}
use Rattle.plan.specs.Light.{Shares, CoversAt, Ranged, IsLargest, HasLight, ranged, not_ranged, light_of}
use Rattle.plan.specs.Plan.{Plan, GoodRange, Overlap, Each, SomeOf, NoTwo, Valid, range_span}
use Rattle.plan.specs.Single.{Covers, covers, single_light}
use Rattle.plan.specs.Verdict.{Verdict, holds, fails}
use Rattle.plan.proofs.Ranging.{light_has, has_light_determined}
use Rattle.plan.proofs.Sharing.{joins_tells, at_overlap, some_here, some_later, some_mapped, some_gives}
use Rattle.plan.proofs.Tests.{each_cons, no_two_at}
use Rattle.plan.proofs.Verdicts.{tells_le, both, restated}

pub covers_tells : (r : Range) (c : Contact) → Verdict (Covers r c) (covers r c)
covers_tells r c =
    restated (λ p. record { names = p.0.0; starts = p.0.1; ends = p.1 }) (λ g. ((g.names, g.starts), g.ends))
    (both (both (joins_tells r c) (tells_le r.start.0 c.start.0)) (tells_le c.end.0 r.end.0))

-- what the rule makes of the ranges
data Single (rs : List Range) (c : Contact) : Option Millis → Type 0 where
  covered : {l : Millis} → SomeOf (λ r. Covers r c × (r.light ≡ l)) rs → Single rs c (Some l)
  uncovered : Each (λ r. Covers r c → ⊥) rs → Single rs c None

single_tells : (rs : List Range) (c : Contact) → Single rs c (single_light rs c)
unfolding single_light Each
single_tells [] c = uncovered (λ blank k h x. not-suc-le-zero h)
single_tells (r ∷ rs) c = first (covers r c) (covers_tells r c) (single_tells rs c)
  where
    later : {light : Option Millis} → (Covers r c → ⊥) → Single rs c light → Single (r ∷ rs) c light
    later n (covered {l} s) = covered (some_later (λ x. Covers x c × (x.light ≡ l)) r rs s)
    later n (uncovered e) = uncovered (each_cons (λ x. Covers x c → ⊥) r rs n e)

    first : (b : Bool) → Verdict (Covers r c) b → Single rs c (single_light rs c) → Single (r ∷ rs) c (cond b (Some r.light) (single_light rs c))
    first _ (holds x) rest = covered (some_here (λ y. Covers y c × (y.light ≡ r.light)) r rs (x, refl))
    first _ (fails n) rest = later n rest

-- a range that covers the contact has each of its milliseconds
covers_at : (r : Range) (c : Contact) (t : ℕ) → c.start.0 ≤ t → t < c.end.0 → Covers r c → CoversAt c t r
covers_at r c t from until x = record { names = x.names; begun = omega (arith, x.starts); lasting = omega (arith, x.ends) }

pub covers_ranged : (rs : List Range) (c : Contact) → SomeOf (λ r. Covers r c) rs → Ranged rs c
unfolding Ranged
covers_ranged rs c s t from until = some_mapped (λ r. Covers r c) (CoversAt c t) rs s (λ r x. covers_at r c t from until x)

module _ (c : Contact) (h : c.start.0 < c.end.0) where
  covers_shares : (r : Range) → Covers r c → Shares r c
  covers_shares r x = record { names = x.names; range_before = omega (arith, x.starts); contact_before = omega (arith, x.ends) }

  -- a range that covers the contact overlaps each one that shares time with it
  meets : (r s : Range) → GoodRange r → GoodRange s → Covers r c → Shares s c → Overlap (range_span r) (range_span s) × Overlap (range_span s) (range_span r)
  meets r s gr gs x y =
      let t : ℕ = max s.start.0 c.start.0 in
      let at_r : CoversAt c t r = covers_at r c t (omega arith) (omega (arith, y.range_before)) x in
      let at_s : CoversAt c t s = record { names = y.names; begun = omega arith; lasting = omega (arith, gs.starts, y.contact_before) } in
      (at_overlap r s c t gr gs at_r at_s, at_overlap s r c t gs gr at_s at_r)

  module _ (rs : List Range) (good : Each GoodRange rs) (apart : NoTwo Overlap (map range_span rs)) where
    -- so that there is no other
    same_place : (blank : Range) (j k : ℕ) → j < length rs → k < length rs → Covers (get_or rs j blank) c → Shares (get_or rs k blank) c → j ≡ k
    unfolding Each
    same_place blank j k hj hk x y = elim (dec_lt j k) [
      | yes l ↦ absurd (no_two_at Overlap range_span rs apart blank j k l hk overlaps.0)
      | no l ↦ elim (dec_lt k j) [ yes m ↦ absurd (no_two_at Overlap range_span rs apart blank k j m hj overlaps.1) | no m ↦ omega arith ]
    ]
      where
        overlaps : Overlap (range_span (get_or rs j blank)) (range_span (get_or rs k blank)) × Overlap (range_span (get_or rs k blank)) (range_span (get_or rs j blank))
        overlaps = meets (get_or rs j blank) (get_or rs k blank) (good blank j hj) (good blank k hk) x y

    covered_largest : (l : Millis) → SomeOf (λ r. Covers r c × (r.light ≡ l)) rs → IsLargest rs c l
    unfolding Each
    covered_largest l s = record {
      is_one = some_mapped (λ r. Covers r c × (r.light ≡ l)) (λ r. Shares r c × (r.light ≡ l)) rs s (λ r x. (covers_shares r x.0, x.1));
      largest = λ blank k below y.
          let there = s.holds_there blank in
          let same : s.place ≡ k = same_place blank s.place k s.in_list below there.0 y in
          let e : (get_or rs k blank).light ≡ l = subst (λ (i : ℕ). (get_or rs i blank).light ≡ l) same there.1 in
          rw e (omega arith);
    }

    pub single_has : SomeOf (λ r. Covers r c) rs ⊎ (Ranged rs c → ⊥) → HasLight rs c (single_light rs c)
    single_has told = go (single_tells rs c) told
      where
        go : {light : Option Millis} → Single rs c light → SomeOf (λ r. Covers r c) rs ⊎ (Ranged rs c → ⊥) → HasLight rs c light
        go (covered {l} s) t =
            ranged (covers_ranged rs c (some_mapped (λ r. Covers r c × (r.light ≡ l)) (λ r. Covers r c) rs s (λ r x. x.0))) (covered_largest l s)
        go (uncovered e) (inl s) = absurd (some_gives (λ r. Covers r c) (λ r. Covers r c → ⊥) rs s e (λ r x n. n x))
        go (uncovered e) (inr n) = not_ranged n

pub light_as_before : (p : Plan) → Valid p → (c : Contact) → c.start.0 < c.end.0 → SomeOf (λ r. Covers r c) p.ranges ⊎ (Ranged p.ranges c → ⊥)
    → light_of p.ranges c ≡ single_light p.ranges c
light_as_before p v c h told = has_light_determined (light_has p v c h) (single_has c h p.ranges v.ranges_good v.ranges_apart told)
