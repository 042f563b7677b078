-- What is known of the ranges that are passed over before a walk begins, and of the rows that are kept of them.
--     past_at, past_kept, past_next    a row that ends by the time: one that is read, the one kept, and the next one of the list
--     past_again                       one that is of the list of another such row
--     passed_first                     nothing is passed over before the first row of a slot
--     passed_behind                    ranges in order: before the row behind one that ends by the time all end by it
--     kept_more                        one row is kept anew
--     head_least, head_passed          the first row of the slot of the contact's pair: nothing is passed over before it
--     head_open                        the row that is come to from it, for the contact's pair
--     head_none                        a slot that has no row: the contact has no light time
-- Assumes nothing.
use mathlib.Core.List.{List}
use mathlib.Core.Path.{◌≡◌, sym, ap, ◌∙◌, subst}
use Prim.Native.Nat.{ℕ, suc, ◌≤◌, ◌<◌}
use native.Mathlib.Decide.{dec_lt, ℕ_discrete}
use native.Mathlib.Omega.{arith}
use lib.ListN.{length, get_or, set, length-set}
use lib.Seq.{get_or-set_same, get_or-set_other}
use Rattle.plan.specs.declared.rows.Contact.{Contact}
use Rattle.plan.specs.declared.rows.Range.{Range}
use Rattle.plan.specs.declared.rows.Span.{Span}
use Rattle.std.specs.Prelude.{None}
use Rattle.plan.specs.Light.{light_of}
use Rattle.plan.specs.Plan.{GoodContact, GoodRange}
use Rattle.plan.specs.Tables.{range_at, rows_from}
use Rattle.plan.proofs.EachRow.{each_row}
use Rattle.plan_lists.specs.Lists.{LeastFrom, Nexts, pair_slot, slot_at, InOrder}
use Rattle.plan_lists.proofs.ListLaws.{slot_below, ordered_later}
use Rattle.plan_light.specs.Model.{pair_of, RangesLinked, RangesListed, Passed, Past, Kept}
use Rattle.plan_light.proofs.LightsCode.{open_none}

-- ---- ranges that end by a time

-- row j is r, which ends by the time
pub past_at : (ranges : List ℕ) (n s t j : ℕ) → j < n → slot_at ranges j ≡ s → (r : Range) → r ≡ range_at ranges j → r.end.0 ≤ t → Past ranges n s t j
past_at ranges n s t j h e r er early = record { below = h; has = e; ended = subst (λ (x : Range). x.end.0 ≤ t) er early }

-- it is the row kept beside row `head`
pub past_kept : (ranges : List ℕ) (n : ℕ) (kept : List ℕ) → Kept ranges n kept → (head t row : ℕ) → head < n → row ≡ get_or kept head 0 → row < n
    → (r : Range) → r ≡ range_at ranges row → r.end.0 ≤ t → Past ranges n (slot_at ranges head) t row
past_kept ranges n kept k head t row h e below r er early =
    past_at ranges n (slot_at ranges head) t row below
    (ap (slot_at ranges) e ∙ k.in_list head h (subst (λ (i : ℕ). i < n) e below)) r er early

-- it is the row behind row j in the list
pub past_next : (ranges : List ℕ) (n : ℕ) (nexts : List ℕ) → RangesLinked ranges n nexts → (s t j : ℕ) → Past ranges n s t j
    → (next : ℕ) → next ≡ get_or nexts j 0 → next < n → (r : Range) → r ≡ range_at ranges next → r.end.0 ≤ t → Past ranges n s t next
unfolding Nexts
past_next ranges n nexts linked s t j p next e below r er early =
    let l = linked.next j p.below in
    past_at ranges n s t next below (ap (slot_at ranges) e ∙ l.has (subst (λ (i : ℕ). i < n) e below) ∙ p.has) r er early

-- it is of the list of row i, which ends by the time too
pub past_again : (ranges : List ℕ) (n s t i j : ℕ) → Past ranges n s t i → Past ranges n (slot_at ranges i) t j → Past ranges n s t j
past_again ranges n s t i j begun p = subst (λ (m : ℕ). Past ranges n m t j) begun.has p

-- ---- the ranges that are passed over

-- nothing is passed over before the first row of a slot
pub passed_first : (ranges : List ℕ) (n s t j : ℕ) → LeastFrom (slot_at ranges) 0 n s j → Passed ranges n s t j
passed_first ranges n s t j l = record { no_later = l.no_later; has = l.has; past = λ k h e. absurd (l.least k (omega arith) h e) }

-- row j ends by the time, and so do the ranges before it, which are in order
pub passed_behind : (ranges : List ℕ) (n : ℕ) (nexts : List ℕ) → RangesLinked ranges n nexts → InOrder ranges n nexts
    → (s t j : ℕ) → Past ranges n s t j → (next : ℕ) → next ≡ get_or nexts j 0 → Passed ranges n s t next
unfolding Nexts
passed_behind ranges n nexts linked order s t j p next en = subst (Passed ranges n s t) (sym en) record {
  no_later = l.no_later;
  has = λ m. l.has m ∙ p.has;
  past = λ k m e. elim (dec_lt k j) [
    | yes b ↦ omega (arith, starts j p.below, p.ended, before k b e)
    | no b ↦ elim (ℕ_discrete k j) [
      | yes d ↦ subst (λ (i : ℕ). (range_at ranges i).end.0 ≤ t) (sym d) p.ended
      | no d ↦ absurd (l.least k (omega arith) m (e ∙ sym p.has))
    ]
  ];
}
  where
    l : LeastFrom (slot_at ranges) (suc j) n (slot_at ranges j) (get_or nexts j 0)
    l = linked.next j p.below

    starts : (k : ℕ) → k < n → (range_at ranges k).start.0 < (range_at ranges k).end.0
    starts k h = (each_row GoodRange (range_at ranges) n linked.good k h).starts

    before : (k : ℕ) → k < j → slot_at ranges k ≡ s → (range_at ranges k).end.0 ≤ (range_at ranges j).start.0
    before k b e = ordered_later ranges n nexts linked.next starts order k j b p.below (e ∙ sym p.has)

-- ---- what is kept of a walk

-- a row of the list is kept beside row `head`
pub kept_more : (ranges : List ℕ) (n : ℕ) (kept : List ℕ) → Kept ranges n kept → (head row : ℕ) → head < n → slot_at ranges row ≡ slot_at ranges head
    → Kept ranges n (set kept head row)
kept_more ranges n kept k head row h e = record {
  a_row_each = simp length-set k.a_row_each;
  in_list = λ i m there.
      elim (ℕ_discrete i head) [
        | yes d ↦ subst (λ (j : ℕ). slot_at ranges (get_or (set kept head row) j 0) ≡ slot_at ranges j) (sym d)
            (ap (slot_at ranges) (get_or-set_same kept head row 0 (omega (arith, k.a_row_each))) ∙ e)
        | no d ↦ rw (get_or-set_other kept head i row 0 d) (k.in_list i m (rw (get_or-set_other kept head i row 0 d) at there))
      ];
}

-- ---- the first row of the slot of the contact's pair

module _ (ranges : List ℕ) (n : ℕ) (heads nexts : List ℕ) (c : Contact) (listed : RangesListed ranges n heads nexts) (good : GoodContact c) (s : Span)
    (es : s ≡ pair_of c) (head : ℕ) (eh : head ≡ get_or heads (pair_slot s) 0) where
  least : LeastFrom (slot_at ranges) 0 n (pair_slot (pair_of c)) head
  least =
      let inside : pair_slot (pair_of c) < length heads = rw listed.a_slot_each (slot_below (pair_of c)) in
      rw (eh, es) (listed.first (pair_slot (pair_of c)) inside)

  pub head_passed : Passed ranges n (pair_slot (pair_of c)) c.start.0 head
  head_passed = passed_first ranges n (pair_slot (pair_of c)) c.start.0 head least

  pub head_none : n ≤ head → None ≡ light_of (rows_from (range_at ranges) 0 n) c
  head_none = open_none ranges n nexts c listed.rows good head head_passed

  module _ (h : head < n) where
    pub head_least : LeastFrom (slot_at ranges) 0 n (slot_at ranges head) head
    head_least = subst (λ (m : ℕ). LeastFrom (slot_at ranges) 0 n m head) (sym (least.has h)) least

    -- the row that is come to from it
    pub head_open : (j : ℕ) → Passed ranges n (slot_at ranges head) c.start.0 j → Passed ranges n (pair_slot (pair_of c)) c.start.0 j
    head_open j p = subst (λ (m : ℕ). Passed ranges n m c.start.0 j) (least.has h) p
