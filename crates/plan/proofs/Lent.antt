-- Lent tables and the plan that they hold.
--     length_contacts, length_ranges      the plan has as many as the tables count
--     spans_of_contacts, spans_of_ranges  its pairs and times are the tables'
--     contacts_counted, ranges_counted    a plan has no more of them than there may be
-- Assumes nothing.
use mathlib.Core.List.{List, map}
use mathlib.Core.Path.{◌≡◌, subst}
use Prim.Native.Nat.{ℕ, ◌≤◌}
use lib.ListN.{length}
use Rattle.units.specs.Limits.{most_contacts, most_ranges}
use Rattle.plan.specs.Plan.{contact_span, range_span}
use Rattle.plan.specs.Tables.{contact_at, range_at, span_at, rows_from, plan_of, IsPlan}
use Rattle.plan.proofs.RowList.{length_rows, map_rows}

module _ (contacts : List ℕ) (m : ℕ) (ranges : List ℕ) (n : ℕ) where
  pub length_contacts : length (plan_of contacts m ranges n).contacts ≡ m
  unfolding plan_of
  length_contacts = length_rows (contact_at contacts) 0 m

  pub length_ranges : length (plan_of contacts m ranges n).ranges ≡ n
  unfolding plan_of
  length_ranges = length_rows (range_at ranges) 0 n

  pub spans_of_contacts : map contact_span (plan_of contacts m ranges n).contacts ≡ rows_from (span_at contacts) 0 m
  unfolding plan_of
  spans_of_contacts = map_rows contact_span (contact_at contacts) 0 m

  pub spans_of_ranges : map range_span (plan_of contacts m ranges n).ranges ≡ rows_from (span_at ranges) 0 n
  unfolding plan_of
  spans_of_ranges = map_rows range_span (range_at ranges) 0 n

  pub contacts_counted : IsPlan contacts m ranges n → m ≤ most_contacts
  contacts_counted p = subst (λ k. k ≤ most_contacts) length_contacts p.valid.contacts_most

  pub ranges_counted : IsPlan contacts m ranges n → n ≤ most_ranges
  ranges_counted p = subst (λ k. k ≤ most_ranges) length_ranges p.valid.ranges_most
