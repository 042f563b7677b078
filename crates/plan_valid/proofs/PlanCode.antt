-- What the code knows that judges a whole plan.
--     has_few, has_lent    the rows that are counted are there
--     good_spans           rows that are good have pairs and times that can be held against each other
--     rows_lack            rows that are counted and not there: no table
--     not_all_good         a row that is not good: no table
--     table_is             the rows are there and good, and none overlaps a later one: a table
--     no_first, no_second  one of two tables that is none
--     plan_tells           the two tables tell of the plan
-- Assumes nothing.
use mathlib.Core.Bool.{Bool, true, false}
use mathlib.Core.List.{List}
use mathlib.Core.Path.{◌≡◌, refl, sym, ◌∙◌, subst}
use Prim.Native.Nat.{ℕ, ◌*◌, ◌≤◌, ◌<◌}
use lib.ListN.{length}
use Rattle.units.specs.Limits.{most_contacts, most_ranges}
use Rattle.plan.specs.declared.rows.Span.{Span}
use Rattle.plan.specs.Model.{good_contact, good_range, each}
use Rattle.plan.specs.Plan.{GoodContact, GoodRange, Overlap, NoTwo}
use Rattle.plan.specs.Rows.{RowLaws, IsGoodSpan}
use Rattle.plan.specs.Tables.{words, contact_at, range_at, span_at, rows_from, plan_of, IsPlan}
use Rattle.plan.specs.Verdict.{Verdict, holds, fails}
use Rattle.plan.proofs.EachRow.{each_row}
use Rattle.plan.proofs.Lent.{length_contacts, length_ranges, contacts_counted, ranges_counted, spans_of_contacts, spans_of_ranges}
use Rattle.plan.proofs.Tests.{each_tells, good_contact_tells, good_range_tells}
use Rattle.plan.proofs.Verdicts.{restated, true_holds, false_fails, holds_true}
use Rattle.plan_lists.specs.Model.{most_rows}
use Rattle.plan_valid.specs.Model.{Below, Starts, GoodSpans, Apart, HasRows, IsTable}
use Rattle.plan_valid.proofs.ApartCode.{first_fails, apart_list, list_apart}

-- a test tells of its own answer
answer_tells : (b : Bool) → Verdict (b ≡ true) b
answer_tells true = holds refl
answer_tells false = fails (λ e. cc)

-- the rows are there, as a told it
module _ {most : ℕ} {table : List ℕ} {n : ℕ} {a : Bool} (had : Verdict (HasRows most table n) a) (there : a ≡ true) where
  pub has_few : n ≤ most
  has_few = (true_holds had there).few

  pub has_lent : n * words ≤ length table
  has_lent = (true_holds had there).lent

module _ {R : Type 0} (row_at : List ℕ → ℕ → R) (good : R → Bool) (table : List ℕ) (n : ℕ) where
  pub good_spans : (span_of : R → Span) (words_of : R → List ℕ) → RowLaws row_at span_of good words_of
      → n ≤ most_rows → n * words ≤ length table → each good (rows_from (row_at table) 0 n) ≡ true → GoodSpans table n
  unfolding Starts Below
  good_spans span_of words_of laws few lent e =
      let rows =
      each_row (λ x. good x ≡ true) (row_at table) n
      (true_holds (each_tells (λ x. good x ≡ true) good (λ x. answer_tells (good x)) (rows_from (row_at table) 0 n)) e) in
      let spans : (k : ℕ) → k < n → IsGoodSpan (span_at table k) =
      λ k h. subst IsGoodSpan (laws.spans table k) (laws.good_span (row_at table k) (rows k h)) in
      record {
        few = few;
        lent = lent;
        starts = λ k h. (spans k h).starts;
        pairs = λ k h. record { one_node = (spans k h).one_node; other_node = (spans k h).other_node };
      }

  module _ (most : ℕ) where
    abbrev Table : Type 0
    Table = IsTable row_at good most table n

    -- a tells whether the rows are there
    module _ {a : Bool} (had : Verdict (HasRows most table n) a) where
      pub rows_lack : a ≡ false → Verdict Table false
      rows_lack e = fails (λ t. false_fails had e (record { few = t.few; lent = t.lent }))

    -- b tells whether each row is good
    module _ (b : Bool) (told : b ≡ each good (rows_from (row_at table) 0 n)) where
      pub not_all_good : b ≡ false → Verdict Table false
      not_all_good e = fails (λ t. let rows = t.rows_good in cc)

      pub table_is : {a : Bool} → Verdict (HasRows most table n) a → a ≡ true → b ≡ true → Apart table n → Table
      table_is had there e apart = record { few = has_few had there; lent = has_lent had there; rows_good = sym told ∙ e; apart = apart }

-- where one of two does not hold, they do not both
pub no_first : {A B : Type 0} → Verdict A false → Verdict (A × B) false
no_first told = first_fails told refl

pub no_second : {A B : Type 0} → Verdict B false → Verdict (A × B) false
no_second told = fails (λ both. false_fails told refl both.1)

module _ (contacts : List ℕ) (m : ℕ) (ranges : List ℕ) (n : ℕ) where
  abbrev Contacts : Type 0
  Contacts = IsTable contact_at good_contact most_contacts contacts m

  abbrev Ranges : Type 0
  Ranges = IsTable range_at good_range most_ranges ranges n

  plan_of_tables : Contacts × Ranges → IsPlan contacts m ranges n
  unfolding plan_of
  plan_of_tables t = record {
    contacts_lent = t.0.lent;
    ranges_lent = t.1.lent;
    valid = record {
      contacts_most = subst (λ k. k ≤ most_contacts) (sym (length_contacts contacts m ranges n)) t.0.few;
      ranges_most = subst (λ k. k ≤ most_ranges) (sym (length_ranges contacts m ranges n)) t.1.few;
      contacts_good = true_holds (each_tells GoodContact good_contact good_contact_tells (rows_from (contact_at contacts) 0 m)) t.0.rows_good;
      ranges_good = true_holds (each_tells GoodRange good_range good_range_tells (rows_from (range_at ranges) 0 n)) t.1.rows_good;
      contacts_apart = subst (NoTwo Overlap) (sym (spans_of_contacts contacts m ranges n)) (apart_list contacts m t.0.apart);
      ranges_apart = subst (NoTwo Overlap) (sym (spans_of_ranges contacts m ranges n)) (apart_list ranges n t.1.apart);
    };
  }

  tables_of_plan : IsPlan contacts m ranges n → Contacts × Ranges
  unfolding plan_of
  tables_of_plan p = (
    record {
      few = contacts_counted contacts m ranges n p;
      lent = p.contacts_lent;
      rows_good = holds_true (each_tells GoodContact good_contact good_contact_tells (rows_from (contact_at contacts) 0 m)) p.valid.contacts_good;
      apart = list_apart contacts m (subst (NoTwo Overlap) (spans_of_contacts contacts m ranges n) p.valid.contacts_apart);
    },
    record {
      few = ranges_counted contacts m ranges n p;
      lent = p.ranges_lent;
      rows_good = holds_true (each_tells GoodRange good_range good_range_tells (rows_from (range_at ranges) 0 n)) p.valid.ranges_good;
      apart = list_apart ranges n (subst (NoTwo Overlap) (spans_of_ranges contacts m ranges n) p.valid.ranges_apart);
    },
  )

  pub plan_tells : (b : Bool) → Verdict (Contacts × Ranges) b → Verdict (IsPlan contacts m ranges n) b
  plan_tells b told = restated plan_of_tables tables_of_plan told
