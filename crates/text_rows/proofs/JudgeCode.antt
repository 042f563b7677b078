-- What the code that takes a row knows of the model: the outcome, by the tests in their order.
--     row_full, row_bad, row_meets, row_fits      the first fault of a row of either kind, or none
--     clear_of                                    whether a row is clear of others, by their pairs and times in the table
--     contact_late, contact_faulty, contact_more      what a contact line then gives
--     range_faulty, range_more                        and a range line
--     nothing_said                                    and a line of another shape
-- Assumes nothing.
use mathlib.Core.Bool.{Bool, true, false, not}
use mathlib.Core.List.{List, [], ◌∷◌, ◌++◌, map}
use mathlib.Core.Path.{◌≡◌, refl, sym, ap, ap₂, ◌∙◌, subst}
use Prim.Native.Nat.{ℕ, ◌+◌, ◌-◌, ◌≤◌, ◌<◌}
use native.Mathlib.Omega.{arith}
use borrow.Author.Tests.{lt-ltb, le-ltb, le-leb, lt-leb}
use Rattle.std.specs.Prelude.{Some, None, Result, Ok, Err}
use Rattle.units.specs.declared.Refusal.{Refusal}
use Rattle.units.specs.declared.Refusal.TheVariants.{LineShape, AfterRange}
use Rattle.units.specs.Limits.{most_contacts, most_ranges}
use Rattle.plan.specs.declared.rows.Contact.{Contact}
use Rattle.plan.specs.declared.rows.Range.{Range}
use Rattle.plan.specs.declared.rows.Span.{Span}
use Rattle.plan.specs.Model.{good_contact, good_range, overlap, each}
use Rattle.plan.specs.Plan.{Plan, contact_span, range_span}
use Rattle.plan.specs.Rows.{RowLaws}
use Rattle.plan.specs.Tables.{contact_at, range_at, span_at, rows_from, plan_of}
use Rattle.plan.proofs.Lent.{length_ranges}
use Rattle.plan.proofs.Loops.{rows_all}
use Rattle.plan.proofs.RowList.{length_rows, map_rows, rows_agree}
use Rattle.plan.proofs.Tests.{overlap_either}
use Rattle.text.specs.declared.answer.Counts.{Counts}
use Rattle.text.specs.declared.said.Line.{Line}
use Rattle.text.specs.declared.said.Line.TheVariants.{Contact as AContact, Range as ARange}
use Rattle.text.specs.Calls.{counts}
use Rattle.text.specs.Reading.{Fault, too_many, bad_value, overlapping, refusal_of, Accepted, Refused}
use Rattle.text.specs.Model.{Said, row_fault, contact_fault, range_fault, with_contact, with_range, unless, judge}
use Rattle.text_rows.specs.Tables.{outcome_at, Takes, faulty_row, stored, Gives, rows, refused}

-- the row against the k rows of its kind before it; b tells of its values, and d of the others' pairs and times
module _ {A : Type 0} (most : ℕ) (good : A → Bool) (span : A → Span) (before : ℕ → A) (k : ℕ) (row : A) where
  pub row_full : most ≤ k → row_fault most good span (rows_from before 0 k) row ≡ Some too_many
  unfolding row_fault
  row_full h = rw (length_rows before 0 k, le-leb most k h)

  module _ (fits : k < most) (b : Bool) (eb : b ≡ good row) where
    pub row_bad : b ≡ false → row_fault most good span (rows_from before 0 k) row ≡ Some bad_value
    unfolding row_fault
    row_bad e = rw (length_rows before 0 k, lt-leb most k fits, sym eb ∙ e)

    module _ (is-good : b ≡ true) (x : Span) (ex : x ≡ span row) (d : Bool)
        (ed : d ≡ each (λ s. not (overlap x s)) (rows_from (λ i. span (before i)) 0 (k - 0))) where
      clear : each (λ s. not (overlap s (span row))) (map span (rows_from before 0 k)) ≡ d
      clear =
          ap (λ (test : Span → Bool). each test (map span (rows_from before 0 k))) (λ i s. not (overlap_either s (span row) i))
          ∙ ap₂ (λ (y : Span) (ss : List Span). each (λ s. not (overlap y s)) ss) (sym ex) (map_rows span before 0 k ∙ rows_all (λ i. span (before i)) k)
          ∙ sym ed

      pub row_meets : d ≡ false → row_fault most good span (rows_from before 0 k) row ≡ Some overlapping
      unfolding row_fault
      row_meets e = rw (length_rows before 0 k, lt-leb most k fits, sym eb ∙ is-good, clear ∙ e)

      pub row_fits : d ≡ true → row_fault most good span (rows_from before 0 k) row ≡ None
      unfolding row_fault
      row_fits e = rw (length_rows before 0 k, lt-leb most k fits, sym eb ∙ is-good, clear ∙ e)

-- whether a row is clear of the pairs and times in a table is whether it is clear of those of its rows
pub clear_of : {R : Type 0} {row_at : List ℕ → ℕ → R} {span_of : R → Span} {good : R → Bool} {words_of : R → List ℕ} → RowLaws row_at span_of good words_of
    → (t : List ℕ) (n : ℕ) (x : Span) (d : Bool) → d ≡ each (λ s. not (overlap x s)) (rows_from (span_at t) 0 n)
    → d ≡ each (λ s. not (overlap x s)) (rows_from (λ i. span_of (row_at t i)) 0 n)
clear_of {row_at} {span_of} laws t n x d e =
    e
    ∙ ap (each (λ s. not (overlap x s))) (rows_agree (span_at t) (λ i. span_of (row_at t i)) 0 n (λ i h. sym (laws.spans t i)))

module _ (contacts : List ℕ) (m : ℕ) (ranges : List ℕ) (n line : ℕ) where
  module _ (c : Contact) where
    abbrev ContactTaken : Result ℕ Refusal → List ℕ → Type 0
    ContactTaken r contacts' = Takes most_contacts good_contact contact_span contact_at line contacts m c r contacts'

    pub contact_late : (contacts' : List ℕ) → 0 < n → Gives (outcome_at line (judge (plan_of contacts m ranges n) (Some (AContact c)))) contacts' ranges (Err (AfterRange line))
    unfolding judge contact_fault unless outcome_at refusal_of
    contact_late contacts' h = refused (AfterRange line) (rw (length_ranges contacts m ranges n, lt-ltb 0 n h))

    module _ (first : n ≤ 0) where
      contact_refused : (f : Fault) → row_fault most_contacts good_contact contact_span (rows_from (contact_at contacts) 0 m) c ≡ Some f
          → outcome_at line (judge (plan_of contacts m ranges n) (Some (AContact c))) ≡ Refused (refusal_of f line)
      unfolding judge contact_fault unless outcome_at plan_of
      contact_refused f e = rw (length_ranges contacts m ranges n, le-ltb 0 n first, e)

      contact_taken : (contacts' : List ℕ) → row_fault most_contacts good_contact contact_span (rows_from (contact_at contacts) 0 m) c ≡ None
          → rows_from (contact_at contacts') 0 (m + 1) ≡ rows_from (contact_at contacts) 0 m ++ (c ∷ [])
          → outcome_at line (judge (plan_of contacts m ranges n) (Some (AContact c))) ≡ Accepted (plan_of contacts' (m + 1) ranges n)
      unfolding judge contact_fault unless outcome_at with_contact plan_of
      contact_taken contacts' e there =
          rw (length_ranges contacts m ranges n, le-ltb 0 n first, e)
          (ap (λ (cs : List Contact). Accepted (record { contacts = cs; ranges = rows_from (range_at ranges) 0 n })) (sym there))

      pub contact_faulty : {why : Refusal} {contacts' : List ℕ} → ContactTaken (Err why) contacts'
          → Gives (outcome_at line (judge (plan_of contacts m ranges n) (Some (AContact c)))) contacts' ranges (Err why)
      contact_faulty (faulty_row f e) = refused (refusal_of f line) (contact_refused f e)

      pub contact_more : {k : ℕ} {contacts' : List ℕ} → ContactTaken (Ok k) contacts' → n ≤ most_ranges
          → Gives (outcome_at line (judge (plan_of contacts m ranges n) (Some (AContact c)))) contacts' ranges (Ok (counts k n))
      contact_more (stored contacts' e fits there) few = rows (m + 1) n (omega arith) few (contact_taken contacts' e there)

  module _ (r : Range) where
    abbrev RangeTaken : Result ℕ Refusal → List ℕ → Type 0
    RangeTaken a ranges' = Takes most_ranges good_range range_span range_at line ranges n r a ranges'

    range_refused : (f : Fault) → row_fault most_ranges good_range range_span (rows_from (range_at ranges) 0 n) r ≡ Some f
        → outcome_at line (judge (plan_of contacts m ranges n) (Some (ARange r))) ≡ Refused (refusal_of f line)
    unfolding judge range_fault unless outcome_at plan_of
    range_refused f e = rw e

    range_taken : (ranges' : List ℕ) → row_fault most_ranges good_range range_span (rows_from (range_at ranges) 0 n) r ≡ None
        → rows_from (range_at ranges') 0 (n + 1) ≡ rows_from (range_at ranges) 0 n ++ (r ∷ [])
        → outcome_at line (judge (plan_of contacts m ranges n) (Some (ARange r))) ≡ Accepted (plan_of contacts m ranges' (n + 1))
    unfolding judge range_fault unless outcome_at with_range plan_of
    range_taken ranges' e there =
        rw e (ap (λ (rs : List Range). Accepted (record { contacts = rows_from (contact_at contacts) 0 m; ranges = rs })) (sym there))

    pub range_faulty : {why : Refusal} {ranges' : List ℕ} → RangeTaken (Err why) ranges'
        → Gives (outcome_at line (judge (plan_of contacts m ranges n) (Some (ARange r)))) contacts ranges' (Err why)
    range_faulty (faulty_row f e) = refused (refusal_of f line) (range_refused f e)

    pub range_more : {k : ℕ} {ranges' : List ℕ} → RangeTaken (Ok k) ranges' → m ≤ most_contacts
        → Gives (outcome_at line (judge (plan_of contacts m ranges n) (Some (ARange r)))) contacts ranges' (Ok (counts m k))
    range_more (stored ranges' e fits there) few = rows m (n + 1) few (omega arith) (range_taken ranges' e there)

  pub nothing_said : Gives (outcome_at line (judge (plan_of contacts m ranges n) None)) contacts ranges (Err (LineShape line))
  unfolding judge outcome_at refusal_of
  nothing_said = refused (LineShape line) refl

pub is_line : {said : Said} {row row' : Line} → said ≡ Some row → row ≡ row' → said ≡ Some row'
is_line e f = e ∙ ap Some f

-- the same of what a value is said to be
pub as_said : (p : Plan) (line : ℕ) (contacts' ranges' : List ℕ) (r : Result Counts Refusal) (said told : Said) → said ≡ told
    → Gives (outcome_at line (judge p told)) contacts' ranges' r → Gives (outcome_at line (judge p said)) contacts' ranges' r
as_said p line contacts' ranges' r said told e g = subst (λ (s : Said). Gives (outcome_at line (judge p s)) contacts' ranges' r) (sym e) g
