-- The model's judgement of a line is its first fault in the order, or the rows with one row more; and no line of a valid plan has a fault.
--     line_judged        what `judge` finds of a line
--     line_faultless     no line of a valid plan has a fault after those before it
-- Assumes nothing.
use mathlib.Core.Bool.{Bool, cond}
use mathlib.Core.Path.{◌≡◌, refl, sym, subst}
use mathlib.Core.List.{List, [], ◌∷◌, ◌++◌, map, map-append, append_assoc, append-nil, cons≢nil, head-eq_of_cons-eq}
use mathlib.Core.Logic.{◌⊎◌, inl, inr, ⊎_elim}
use Prim.Native.Nat.{◌≤◌, ◌<◌, zero-le, suc-le-suc}
use native.Mathlib.Omega.{arith}
use lib.ListN.{length}
use Rattle.std.specs.Prelude.{Option, Some, None}
use Rattle.units.specs.Limits.{most_contacts, most_ranges}
use Rattle.plan.specs.declared.rows.Contact.{Contact}
use Rattle.plan.specs.declared.rows.Range.{Range}
use Rattle.plan.specs.Tables.{words}
use Rattle.plan.specs.Model.{good_contact, good_range}
use Rattle.plan.specs.Plan.{Plan, GoodContact, GoodRange, contact_span, range_span, Valid}
use Rattle.plan.specs.Verdict.{Verdict, holds, fails}
use Rattle.plan.proofs.Tests.{good_contact_tells, good_range_tells}
use Rattle.plan.proofs.Verdicts.{tells_lt}
use Rattle.text.specs.Lines.{Line}
use Rattle.text.specs.declared.said.Line.TheVariants.{Contact as AContact, Range as ARange}
use Rattle.text.specs.Model.{said_by, contact_fault, range_fault, with_contact, with_range, Judged, faulty, taken, unless, judge}
use Rattle.text.specs.Reading.{Fault, after_range, order, RowFault, HasFault, shapeless, late, of_contact, of_range}
use Rattle.text.specs.Rows.{contact_word, range_word, Shaped, contact_of, range_of, contact_line, range_line, plan_lines}
use Rattle.text.proofs.RowFaults.{GoodRows, rows_more, row_faultless, RowJudged, fine, at_fault, row_judged, row_order}
use Rattle.text.proofs.Rows.{contact_shaped, range_shaped, contact_says, range_says, contact_line_lem, range_line_lem, one_shape, plan_rest}
use Rattle.text.proofs.Shapes.{shaped_tells}

-- ---- contacts and ranges as rows of one kind

abbrev ContactFault : List Contact → Contact → Fault → Type 0
ContactFault earlier c f = RowFault most_contacts GoodContact contact_span earlier c f

abbrev RangeFault : List Range → Range → Fault → Type 0
RangeFault earlier r f = RowFault most_ranges GoodRange range_span earlier r f

abbrev GoodContacts : List Contact → Type 0
GoodContacts cs = GoodRows most_contacts GoodContact contact_span cs

abbrev GoodRanges : List Range → Type 0
GoodRanges rs = GoodRows most_ranges GoodRange range_span rs

valid_contacts : {p : Plan} → Valid p → GoodContacts p.contacts
valid_contacts v = record { fit = v.contacts_most; good = v.contacts_good; apart = v.contacts_apart }

valid_ranges : {p : Plan} → Valid p → GoodRanges p.ranges
valid_ranges v = record { fit = v.ranges_most; good = v.ranges_good; apart = v.ranges_apart }

valid_plan : {p : Plan} → GoodContacts p.contacts → GoodRanges p.ranges → Valid p
valid_plan c r = record {
  contacts_most = c.fit;
  ranges_most = r.fit;
  contacts_good = c.good;
  ranges_good = r.good;
  contacts_apart = c.apart;
  ranges_apart = r.apart;
}

module _ (rows : Plan) (l : Line) where
  -- the faults of a contact line, and of a range line
  contact_has : Shaped contact_word words l → {g : Fault} → HasFault rows l g
      → ContactFault rows.contacts (contact_of l) g ⊎ ((0 < length rows.ranges) × (g ≡ after_range))
  contact_has s (shapeless a b) = absurd (a s)
  contact_has s (late t h) = inr (h, refl)
  contact_has s (of_contact t r) = inl r
  contact_has s (of_range t r) = absurd (one_shape l s t)

  range_has : Shaped range_word words l → {g : Fault} → HasFault rows l g → RangeFault rows.ranges (range_of l) g
  range_has s (shapeless a b) = absurd (b s)
  range_has s (late t h) = absurd (one_shape l t s)
  range_has s (of_contact t r) = absurd (one_shape l t s)
  range_has s (of_range t r) = r

-- ---- the judgement of a line

-- what is found of a line: its first fault, or the rows with its row
pub data LineJudged (rows : Plan) (l : Line) : Judged → Type 0 where
  found : {f : Fault} → HasFault rows l f → ((g : Fault) → HasFault rows l g → order f ≤ order g) → LineJudged rows l (faulty f)
  more : {p : Plan} → plan_lines p ≡ plan_lines rows ++ (l ∷ []) → (Valid rows → Valid p) → LineJudged rows l (taken p)

no_ranges : (rs : List Range) → (0 < length rs → ⊥) → rs ≡ []
no_ranges [] h = refl
no_ranges (r ∷ rs) h = absurd (h (suc-le-suc zero-le))

module _ (rows : Plan) (l : Line) where
  contact_more : Shaped contact_word words l → rows.ranges ≡ [] → plan_lines (with_contact rows (contact_of l)) ≡ plan_lines rows ++ (l ∷ [])
  unfolding plan_lines with_contact
  contact_more s e = rw (e, map-append, contact_line_lem l s) (simp append-nil)

  range_more : Shaped range_word words l → plan_lines (with_range rows (range_of l)) ≡ plan_lines rows ++ (l ∷ [])
  unfolding plan_lines with_range
  range_more s = rw (map-append, range_line_lem l s) (sym (append_assoc (map contact_line rows.contacts) (map range_line rows.ranges) (l ∷ [])))

  contact_judged : Shaped contact_word words l → LineJudged rows l (judge rows (Some (AContact (contact_of l))))
  unfolding judge contact_fault unless order with_contact
  contact_judged s =
      go (tells_lt 0 (length rows.ranges))
      (row_judged most_contacts GoodContact contact_span good_contact good_contact_tells rows.contacts (contact_of l))
    where
      at_least : (g : Fault) → HasFault rows l g → 1 ≤ order g
      at_least g k =
          ⊎_elim (λ r. omega (arith, row_order most_contacts GoodContact contact_span rows.contacts (contact_of l) g r))
          (λ e. subst (λ (f : Fault). 1 ≤ order f) (sym e.1) (omega arith)) (contact_has rows l s k)

      go : {b : Bool} {o : Option Fault} → Verdict (0 < length rows.ranges) b
          → RowJudged most_contacts GoodContact contact_span rows.contacts (contact_of l) o
          → LineJudged rows l (unless (cond b (Some after_range) o) (with_contact rows (contact_of l)))
      go (holds h) v = found (late s h) at_least
      go (fails h) (fine f) =
          more (contact_more s (no_ranges rows.ranges h))
          (λ v. valid_plan (rows_more most_contacts GoodContact contact_span rows.contacts (contact_of l) (valid_contacts v) f) (valid_ranges v))
      go (fails h) (at_fault r first) =
          found (of_contact s r) (λ g k. ⊎_elim (first g) (λ e. absurd (h e.0)) (contact_has rows l s k))

  range_judged : Shaped range_word words l → LineJudged rows l (judge rows (Some (ARange (range_of l))))
  unfolding judge range_fault unless with_range
  range_judged s = go (row_judged most_ranges GoodRange range_span good_range good_range_tells rows.ranges (range_of l))
    where
      go : {o : Option Fault} → RowJudged most_ranges GoodRange range_span rows.ranges (range_of l) o
          → LineJudged rows l (unless o (with_range rows (range_of l)))
      go (fine f) =
          more (range_more s)
          (λ v. valid_plan (valid_contacts v) (rows_more most_ranges GoodRange range_span rows.ranges (range_of l) (valid_ranges v) f))
      go (at_fault r first) = found (of_range s r) (λ g k. first g (range_has rows l s k))

  pub line_judged : LineJudged rows l (judge rows (said_by l))
  unfolding judge said_by order
  line_judged = go (shaped_tells contact_word words l) (shaped_tells range_word words l)
    where
      go : {a b : Bool} → Verdict (Shaped contact_word words l) a → Verdict (Shaped range_word words l) b
          → LineJudged rows l (judge rows (cond a (Some (AContact (contact_of l))) (cond b (Some (ARange (range_of l))) None)))
      go (holds s) v = contact_judged s
      go (fails s) (holds t) = range_judged t
      go (fails s) (fails t) = found (shapeless s t) (λ g k. zero-le)

-- ---- no line of a valid plan has a fault

contact_faultless : (q : Plan) (c : Contact) (later : List Contact) → GoodContacts (q.contacts ++ c ∷ later) → (0 < length q.ranges → ⊥) → {f : Fault}
    → HasFault q (contact_line c) f → ⊥
contact_faultless q c later good first {f} has =
    ⊎_elim
    (λ r. row_faultless most_contacts GoodContact contact_span q.contacts c later good
    (subst (λ (d : Contact). ContactFault q.contacts d f) (contact_says c) r))
    (λ e. first e.0) (contact_has q (contact_line c) (contact_shaped c) has)

range_faultless : (q : Plan) (r : Range) (later : List Range) → GoodRanges (q.ranges ++ r ∷ later) → {f : Fault} → HasFault q (range_line r) f → ⊥
range_faultless q r later good {f} has =
    row_faultless most_ranges GoodRange range_span q.ranges r later good
    (subst (λ (s : Range). RangeFault q.ranges s f) (range_says r) (range_has q (range_line r) (range_shaped r) has))

pub line_faultless : (p q : Plan) (l : Line) (after : List Line) → Valid p → plan_lines p ≡ plan_lines q ++ l ∷ after → {f : Fault} → HasFault q l f → ⊥
unfolding plan_lines
line_faultless p q l after v e {f} has =
    let t = plan_rest p q (l ∷ after) e in go t.more.contacts t.more.ranges t.contacts_are t.ranges_are t.after_are t.in_order
  where
    has_at : {k : Line} → l ≡ k → HasFault q k f
    has_at same = subst (λ (k : Line). HasFault q k f) same has

    go : (cs : List Contact) (rs : List Range) → p.contacts ≡ q.contacts ++ cs → p.ranges ≡ q.ranges ++ rs
        → l ∷ after ≡ map contact_line cs ++ map range_line rs → (0 < length q.ranges → cs ≡ []) → ⊥
    go [] [] contacts_are ranges_are after_are in_order = cons≢nil after_are
    go [] (r ∷ rs) contacts_are ranges_are after_are in_order =
        range_faultless q r rs (subst GoodRanges ranges_are (valid_ranges v)) (has_at (head-eq_of_cons-eq after_are))
    go (c ∷ cs) rs contacts_are ranges_are after_are in_order =
        contact_faultless q c cs (subst GoodContacts contacts_are (valid_contacts v)) (λ h. cons≢nil (in_order h)) (has_at (head-eq_of_cons-eq after_are))
