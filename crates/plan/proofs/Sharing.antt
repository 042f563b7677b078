-- How much of a contact the ranges of its pair cover: all of it exactly where the time that they share with it adds up to its length.
--     joins_tells, shares_tells      the tests of one range
--     shared_most                    a range shares no more than the contact's length
--     at_overlap                     two ranges of one pair that have a millisecond in common overlap
--     some_here, some_later          a list has such an element: its first one, or one of the others
--     some_mapped, some_gives        what follows of that element, and from it
--     some_shares, shares_some       some range shares time exactly where the time shared is not 0
--     within, moment                 a part of a contact, and one millisecond of it
--     shared_split                   what ranges share with a contact is what they share with its parts
--     shared_within                  ranges that do not overlap share no more than the contact's length
--     ranged_tells                   the test of all ranges, which do not overlap
-- Assumes nothing.
use mathlib.Core.Bool.{Bool, true, false, cond}
use mathlib.Core.List.{List, [], ◌∷◌, map}
use mathlib.Core.Logic.{⊎_elim}
use mathlib.Core.Path.{◌≡◌, refl, sym, ◌∙◌, subst}
use Prim.Native.Nat.{ℕ, zero, suc, ◌+◌, ◌-◌, ◌≤◌, ◌<◌, min, max, suc-le-suc, zero-le}
use native.Mathlib.Nat.{not-suc-le-zero, le_of_suc-le-suc, eq-or-lt_of_le, le_antisymm}
use native.Mathlib.Decide.{dec_le}
use native.Mathlib.Omega.{arith}
use lib.Dec.{leb, eqb}
use lib.ListN.{get_or}
use Rattle.plan.specs.declared.rows.Contact.{Contact}
use Rattle.plan.specs.declared.rows.Range.{Range}
use Rattle.plan.specs.Light.{Joins, Shares, CoversAt, Ranged, joins, shared_by, shared_time}
use Rattle.plan.specs.Plan.{GoodRange, Overlap, Each, SomeOf, NoTwo, range_span}
use Rattle.plan.specs.Verdict.{Verdict, holds, fails}
use Rattle.plan.proofs.Tests.{each_head, each_tail, each_at, no_two_head, no_two_tail}
use Rattle.plan.proofs.Verdicts.{tells_le, tells_eq, both, either, restated, holds_true}

-- ---- one range

pub joins_tells : (r : Range) (c : Contact) → Verdict (Joins r c) (joins r c)
joins_tells r c =
    either (both (tells_eq r.a.0 c.from.0) (tells_eq r.b.0 c.to.0)) (both (tells_eq r.a.0 c.to.0) (tells_eq r.b.0 c.from.0))

-- the milliseconds that the range would share, were it of the contact's pair
abbrev common : Range → Contact → ℕ
common r c = min r.end.0 c.end.0 - max r.start.0 c.start.0

module _ (r : Range) (c : Contact) where
  pub shared_most : shared_by r c ≤ c.end.0 - c.start.0
  unfolding shared_by
  shared_most = most (joins r c)
    where
      most : (b : Bool) → cond b (common r c) 0 ≤ c.end.0 - c.start.0
      most true = omega arith
      most false = omega arith

  pub shared_shares : 1 ≤ shared_by r c → Shares r c
  unfolding shared_by
  shared_shares h = go (joins r c) (joins_tells r c) h
    where
      go : (b : Bool) → Verdict (Joins r c) b → 1 ≤ cond b (common r c) 0 → Shares r c
      go _ (holds n) h = record { names = n; range_before = omega arith; contact_before = omega arith }
      go _ (fails n) h = absurd (omega arith)

  pub shares_shared : r.start.0 < r.end.0 → c.start.0 < c.end.0 → Shares r c → 1 ≤ shared_by r c
  unfolding shared_by
  shares_shared hr hc s = rw (holds_true (joins_tells r c) s.names) (omega (arith, s.range_before, s.contact_before))

  pub shares_tells : r.start.0 < r.end.0 → c.start.0 < c.end.0 → Verdict (Shares r c) (leb 1 (shared_by r c))
  shares_tells hr hc = restated shared_shares (shares_shared hr hc) (tells_le 1 (shared_by r c))

-- two ranges of one pair that have a millisecond in common overlap
pub at_overlap : (r s : Range) (c : Contact) (t : ℕ) → GoodRange r → GoodRange s → CoversAt c t r → CoversAt c t s → Overlap (range_span r) (range_span s)
at_overlap r s c t gr gs cr cs =
    ⊎_elim
    (λ x. ⊎_elim (λ y. overlaps (x.0 ∙ sym y.0) (x.1 ∙ sym y.1)) (λ y. absurd (omega (arith, gr.order, gs.order))) cs.names)
    (λ x. ⊎_elim (λ y. absurd (omega (arith, gr.order, gs.order))) (λ y. overlaps (x.0 ∙ sym y.0) (x.1 ∙ sym y.1)) cs.names)
    cr.names
  where
    overlaps : r.a.0 ≡ s.a.0 → r.b.0 ≡ s.b.0 → Overlap (range_span r) (range_span s)
    overlaps a b = record {
      one_same = a;
      other_same = b;
      x_before = omega (arith, cr.begun, cs.lasting);
      y_before = omega (arith, cs.begun, cr.lasting);
    }

-- ---- some range of a list

module _ {A : Type 0} (P : A → Type 0) where
  pub some_here : (x : A) (xs : List A) → P x → SomeOf P (x ∷ xs)
  some_here x xs p = record { place = zero; in_list = suc-le-suc zero-le; holds_there = λ blank. p }

  pub some_later : (x : A) (xs : List A) → SomeOf P xs → SomeOf P (x ∷ xs)
  some_later x xs s = record { place = suc s.place; in_list = suc-le-suc s.in_list; holds_there = s.holds_there }

  pub some_mapped : (R : A → Type 0) (xs : List A) → SomeOf P xs → ((x : A) → P x → R x) → SomeOf R xs
  some_mapped R xs s f = record { place = s.place; in_list = s.in_list; holds_there = λ blank. f (get_or xs s.place blank) (s.holds_there blank) }

  -- what follows from such an element, of which holds what holds of each, follows
  pub some_gives : {B : Type 0} (Q : A → Type 0) (xs : List A) → SomeOf P xs → Each Q xs → ((x : A) → P x → Q x → B) → B
  unfolding Each
  some_gives Q [] s e f = absurd (not-suc-le-zero s.in_list)
  some_gives Q (x ∷ xs) s e f = f (get_or (x ∷ xs) s.place x) (s.holds_there x) (e x s.place s.in_list)

module _ (c : Contact) where
  pub some_shares : (rs : List Range) → 1 ≤ shared_time rs c → SomeOf (λ r. Shares r c) rs
  unfolding shared_time
  some_shares [] h = absurd (omega arith)
  some_shares (r ∷ rs) h = go (shared_by r c) h (shared_shares r c) (some_shares rs)
    where
      go : (n : ℕ) → 1 ≤ n + shared_time rs c → (1 ≤ n → Shares r c) → (1 ≤ shared_time rs c → SomeOf (λ x. Shares x c) rs) → SomeOf (λ x. Shares x c) (r ∷ rs)
      go zero h here later = some_later (λ x. Shares x c) r rs (later (omega arith))
      go (suc n) h here later = some_here (λ x. Shares x c) r rs (here (omega arith))

  module _ (hc : c.start.0 < c.end.0) where
    each_shares : (rs : List Range) → Each GoodRange rs → Each (λ r. Shares r c → 1 ≤ shared_time rs c) rs
    unfolding Each shared_time
    each_shares [] good blank k h s = absurd (not-suc-le-zero h)
    each_shares (r ∷ rs) good blank zero h s = omega (arith, shares_shared r c (each_head GoodRange r rs good).starts hc s)
    each_shares (r ∷ rs) good blank (suc k) h s = omega (arith, each_shares rs (each_tail GoodRange r rs good) blank k (le_of_suc-le-suc h) s)

    pub shares_some : (rs : List Range) → Each GoodRange rs → SomeOf (λ r. Shares r c) rs → 1 ≤ shared_time rs c
    shares_some rs good s = some_gives (λ r. Shares r c) (λ r. Shares r c → 1 ≤ shared_time rs c) rs s (each_shares rs good) (λ r x f. f x)

-- ---- a contact, one millisecond after the other

-- the contact, but from a until b
abbrev pub within : Contact → ℕ → ℕ → Contact
within c a b = record { start = record { 0 = a }; end = record { 0 = b }; from = c.from; to = c.to; rate = c.rate }

-- one millisecond of it
abbrev pub moment : Contact → ℕ → Contact
moment c t = within c t (suc t)

-- what lies from s until e and from a until b, cut at m
cut : (s e a m b : ℕ) → a ≤ m → m ≤ b → min e b - max s a ≡ (min e m - max s a) + (min e b - max s m)
cut s e a m b ha hb = elim (dec_le e m) [
  | yes h ↦
      let whole : min e b ≡ e = omega arith in
      let first : min e m ≡ e = omega arith in
      rw (whole, first) (omega arith)
  | no h ↦
      let first : min e m ≡ m = omega arith in
      rw first (cut_late h)
]
  where
    cut_late : (e ≤ m → ⊥) → min e b - max s a ≡ (m - max s a) + (min e b - max s m)
    cut_late h = elim (dec_le s m) [
      | yes l ↦
          let later : max s m ≡ m = omega arith in
          rw later (omega arith)
      | no l ↦
          let whole : max s a ≡ s = omega arith in
          let later : max s m ≡ s = omega arith in
          rw (whole, later) (omega arith)
    ]

module _ (c : Contact) where
  pub shared_split : (a m b : ℕ) → a ≤ m → m ≤ b → (rs : List Range) → shared_time rs (within c a b) ≡ shared_time rs (within c a m) + shared_time rs (within c m b)
  unfolding shared_time shared_by
  shared_split a m b ha hb [] = refl
  shared_split a m b ha hb (r ∷ rs) =
      omega (arith, one (joins r c), shared_split a m b ha hb rs)
    where
      one : (j : Bool) → cond j (common r (within c a b)) 0 ≡ cond j (common r (within c a m)) 0 + cond j (common r (within c m b)) 0
      one true = cut r.start.0 r.end.0 a m b ha hb
      one false = refl

  shared_nothing : (a : ℕ) (rs : List Range) → shared_time rs (within c a a) ≡ 0
  shared_nothing a rs = omega (arith, shared_split a a a (omega arith) (omega arith) rs)

  -- a range that has the millisecond, and one that shares it
  at_shares : (t : ℕ) (r : Range) → CoversAt c t r → Shares r (moment c t)
  at_shares t r x = record { names = x.names; range_before = omega (arith, x.begun); contact_before = x.lasting }

  shares_at : (t : ℕ) (r : Range) → Shares r (moment c t) → CoversAt c t r
  shares_at t r x = record { names = x.names; begun = omega (arith, x.range_before); lasting = x.contact_before }

-- ---- ranges that do not overlap

-- two numbers of at most 1 that are not both 1
not_both : (x y : ℕ) → x ≤ 1 → y ≤ 1 → (1 ≤ x → 1 ≤ y → ⊥) → x + y ≤ 1
not_both zero y hx hy n = omega arith
not_both (suc x) zero hx hy n = omega arith
not_both (suc x) (suc y) hx hy n = absurd (n (omega arith) (omega arith))

module _ (c : Contact) where
  -- they share a millisecond once at the most
  shared_once : (t : ℕ) (rs : List Range) → Each GoodRange rs → NoTwo Overlap (map range_span rs) → shared_time rs (moment c t) ≤ 1
  unfolding shared_time Each
  shared_once t [] good apart = omega arith
  shared_once t (r ∷ rs) good apart =
      not_both (shared_by r (moment c t)) (shared_time rs (moment c t)) (omega (arith, shared_most r (moment c t)))
      (shared_once t rs good_rest (no_two_tail Overlap (range_span r) (map range_span rs) apart))
      (λ here later.
      some_gives (λ x. Shares x (moment c t)) (λ x. Shares x (moment c t) → ⊥) rs (some_shares (moment c t) rs later)
      (no_other (shares_at c t r (shared_shares r (moment c t) here)))
      (λ x s n. n s))
    where
      good_rest : Each GoodRange rs
      good_rest = each_tail GoodRange r rs good

      no_other : CoversAt c t r → Each (λ x. Shares x (moment c t) → ⊥) rs
      no_other here blank k h s =
          each_at (λ y. Overlap (range_span r) y → ⊥) range_span rs (no_two_head Overlap (range_span r) (map range_span rs) apart) blank k h
          (at_overlap r (get_or rs k blank) c t (each_head GoodRange r rs good) (good_rest blank k h) here (shares_at c t (get_or rs k blank) s))

  module _ (rs : List Range) (good : Each GoodRange rs) (apart : NoTwo Overlap (map range_span rs)) where
    -- the first of suc n milliseconds, and the others
    shared_first : (n a : ℕ) → shared_time rs (within c a (a + suc n)) ≡ shared_time rs (moment c a) + shared_time rs (within c (suc a) (suc a + n))
    shared_first n a =
        let e : a + suc n ≡ suc a + n = omega arith in
        rw e (shared_split c a (suc a) (suc a + n) (omega arith) (omega arith) rs)

    shared_length : (n a : ℕ) → shared_time rs (within c a (a + n)) ≤ n
    shared_length zero a =
        let e : a + 0 ≡ a = omega arith in
        rw e (omega (arith, shared_nothing c a rs))
    shared_length (suc n) a = omega (arith, shared_first n a, shared_once a rs good apart, shared_length n (suc a))

    -- where they share all of n milliseconds they share each
    shared_each : (n a : ℕ) → n ≤ shared_time rs (within c a (a + n)) → (t : ℕ) → a ≤ t → t < a + n → 1 ≤ shared_time rs (moment c t)
    shared_each zero a h t from until = absurd (omega arith)
    shared_each (suc n) a h t from until =
        let first = shared_first n a in
        let once = shared_once a rs good apart in
        let rest = shared_length n (suc a) in
        ⊎_elim (λ e. subst (λ (i : ℕ). 1 ≤ shared_time rs (moment c i)) e (omega arith))
        (λ l. shared_each n (suc a) (omega arith) t l (omega arith)) (eq-or-lt_of_le from)

    each_all : (n a : ℕ) → ((t : ℕ) → a ≤ t → t < a + n → 1 ≤ shared_time rs (moment c t)) → n ≤ shared_time rs (within c a (a + n))
    each_all zero a f = omega arith
    each_all (suc n) a f =
        omega (arith, shared_first n a, f a (omega arith) (omega arith), each_all n (suc a) (λ t from until. f t (omega arith) (omega arith)))

    pub shared_within : c.start.0 ≤ c.end.0 → shared_time rs c ≤ c.end.0 - c.start.0
    shared_within h =
        let n : ℕ = c.end.0 - c.start.0 in
        let ends : c.start.0 + n ≡ c.end.0 = omega arith in
        rw ends at (shared_length n c.start.0)

    -- the time shared is the length exactly where each millisecond lies in a range
    all_ranged : c.start.0 ≤ c.end.0 → shared_time rs c ≡ c.end.0 - c.start.0 → Ranged rs c
    unfolding Ranged
    all_ranged h e t from until =
        let n : ℕ = c.end.0 - c.start.0 in
        let ends : c.start.0 + n ≡ c.end.0 = omega arith in
        let most : n ≤ shared_time rs (within c c.start.0 (c.start.0 + n)) = rw ends (omega arith) in
        some_mapped (λ r. Shares r (moment c t)) (CoversAt c t) rs (some_shares (moment c t) rs (shared_each n c.start.0 most t from (omega arith)))
        (shares_at c t)

    ranged_all : c.start.0 ≤ c.end.0 → Ranged rs c → shared_time rs c ≡ c.end.0 - c.start.0
    unfolding Ranged
    ranged_all h ranged =
        let n : ℕ = c.end.0 - c.start.0 in
        let ends : c.start.0 + n ≡ c.end.0 = omega arith in
        let least : n ≤ shared_time rs c =
        rw ends at
        (each_all n c.start.0
        (λ t from until.
        shares_some (moment c t) (omega arith) rs good
        (some_mapped (CoversAt c t) (λ r. Shares r (moment c t)) rs (ranged t from (omega arith)) (at_shares c t)))) in
        le_antisymm (shared_within h) least

    pub ranged_tells : c.start.0 ≤ c.end.0 → Verdict (Ranged rs c) (eqb (shared_time rs c) (c.end.0 - c.start.0))
    ranged_tells h = restated (all_ranged h) (ranged_all h) (tells_eq (shared_time rs c) (c.end.0 - c.start.0))
