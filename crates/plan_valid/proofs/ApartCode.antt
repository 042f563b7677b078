-- What the code knows that judges whether rows overlap.
--     below_none, below_goes, below_stops, below_ends      what is asked of each row, row by row
--     Cleared                                  the walk along the later rows of row i has come to row j
--     clear_starts, clear_stops, clear_goes, clear_ends      it begins, meets an overlap, goes on, ends
--     order_apart                              rows that are in order are apart
--     apart_list, list_apart                   rows apart, as a statement on the list of the rows
--     first_fails, second_tells                one table after the other
-- Assumes nothing.
use mathlib.Core.Bool.{Bool, true, false}
use mathlib.Core.List.{List}
use mathlib.Core.Path.{◌≡◌, sym}
use Prim.Native.Nat.{ℕ, suc, ◌+◌, ◌≤◌, ◌<◌}
use native.Mathlib.Omega.{arith}
use borrow.Author.Count.{below_more}
use lib.ListN.{get_or}
use Rattle.plan.specs.declared.rows.Span.{Span}
use Rattle.plan.specs.Model.{overlap}
use Rattle.plan.specs.Plan.{Overlap, NoTwo}
use Rattle.plan.specs.Tables.{span_at, rows_from}
use Rattle.plan.specs.Verdict.{Verdict, holds, fails}
use Rattle.plan.proofs.EachRow.{rows_no_two, no_two_row}
use Rattle.plan.proofs.Tests.{overlap_tells}
use Rattle.plan.proofs.Verdicts.{restated, true_holds, false_fails}
use Rattle.plan_lists.specs.Lists.{Nexts, slot_at, InOrder}
use Rattle.plan_lists.proofs.ListLaws.{slot_same, Along, along_starts, along_goes, along_ends, ordered_later}
use Rattle.plan_valid.specs.Model.{Below, Starts, ClearAfter, Apart}

module _ (P : ℕ → Type 0) where
  pub below_none : Below P 0
  unfolding Below
  below_none k h = absurd (omega arith)

  -- b tells of row i
  module _ (i : ℕ) (b : Bool) (told : Verdict (P i) b) where
    pub below_goes : b ≡ true → Below P i → Below P (i + 1)
    unfolding Below
    below_goes e all = below_more P i all (true_holds told e)

    pub below_stops : (n : ℕ) → i < n → b ≡ false → Verdict (Below P n) false
    unfolding Below
    below_stops n h e = fails (λ all. false_fails told e (all i h))

  pub below_ends : (i n : ℕ) → n ≤ i → Below P i → Verdict (Below P n) true
  unfolding Below
  below_ends i n h all = holds (λ k l. all k (omega arith))

-- none of the later rows of the slot of row i, before row j, overlaps it
abbrev pub Cleared : List ℕ → ℕ → ℕ → ℕ → Type 0
Cleared table n i j = Along (slot_at table) (λ k. Overlap (span_at table i) (span_at table k) → ⊥) (suc i) n (slot_at table i) j

module _ (table : List ℕ) (n : ℕ) (nexts : List ℕ) (linked : Nexts (slot_at table) n nexts) (i : ℕ) where
  abbrev Free : ℕ → Type 0
  Free k = Overlap (span_at table i) (span_at table k) → ⊥

  pub clear_starts : i < n → (next : ℕ) → next ≡ get_or nexts i 0 → Cleared table n i next
  unfolding Nexts
  clear_starts h next e = along_starts (slot_at table) Free (suc i) n (slot_at table i) next (rw e (linked i h))

  -- row j is other, and b tells whether row i, which is one, overlaps it
  module _ (j : ℕ) (so_far : Cleared table n i j) where
    module _ (h : j < n) (one other : Span) (eo : one ≡ span_at table i) (et : other ≡ span_at table j) (b : Bool) (told : b ≡ overlap one other) where
      tells : Verdict (Overlap (span_at table i) (span_at table j)) b
      tells = rw (told, eo, et) (overlap_tells (span_at table i) (span_at table j))

      pub clear_stops : b ≡ true → Verdict (ClearAfter table n i) false
      unfolding ClearAfter
      clear_stops e = fails (λ clear. clear j so_far.no_earlier h (true_holds tells e))

      pub clear_goes : b ≡ false → (next : ℕ) → next ≡ get_or nexts j 0 → Cleared table n i next
      unfolding Nexts
      clear_goes e next en =
          along_goes (slot_at table) Free (suc i) n (slot_at table i) j so_far h (false_fails tells e) next (rw en (linked j h))

    pub clear_ends : n ≤ j → Verdict (ClearAfter table n i) true
    unfolding ClearAfter
    clear_ends h =
        holds
        (λ k l m o. along_ends (slot_at table) Free (suc i) n (slot_at table i) j so_far h k l m (sym (slot_same table i k o.one_same o.other_same)) o)

-- two rows of a pair have one slot
pub order_apart : (table : List ℕ) (n : ℕ) (nexts : List ℕ) → Nexts (slot_at table) n nexts → Starts table n → InOrder table n nexts → Apart table n
unfolding Apart Below ClearAfter Starts
order_apart table n nexts linked starts order i hi k l h o =
    let after : (span_at table i).end.0 ≤ (span_at table k).start.0 =
    ordered_later table n nexts linked starts order i k l h (slot_same table i k o.one_same o.other_same) in
    omega (arith, o.y_before)

module _ (table : List ℕ) (n : ℕ) where
  pub apart_list : Apart table n → NoTwo Overlap (rows_from (span_at table) 0 n)
  unfolding Apart Below ClearAfter
  apart_list apart = rows_no_two Overlap (span_at table) n (λ j k l h. apart j (omega arith) k l h)

  pub list_apart : NoTwo Overlap (rows_from (span_at table) 0 n) → Apart table n
  unfolding Apart Below ClearAfter
  list_apart none j hj k l h = no_two_row Overlap (span_at table) n none j k l h

-- where the first does not hold, they do not both
pub first_fails : {A B : Type 0} {b : Bool} → Verdict A b → b ≡ false → Verdict (A × B) false
first_fails told e = fails (λ both. false_fails told e both.0)

pub second_tells : {A B : Type 0} {a b : Bool} → Verdict A a → a ≡ true → Verdict B b → Verdict (A × B) b
second_tells told e then = restated (λ y. (true_holds told e, y)) (λ both. both.1) then
