-- What a user of the lists knows.
--     pair_slot_lem, slot_same                  one pair has one slot, and so have rows of one pair
--     slot_below                            it is one of the slots
--     Along                                 a walk along the list of a key has come to row j, and all before it that have the key are good
--     along_starts, along_goes, along_ends  it begins, goes on to the next row, and ends
--     chained                               what holds from each row to the next, and is carried on, holds from each row to each later one of its key
--     ordered_later                         rows in order: a row ends no later than each later one of its slot starts
-- Assumes nothing.
use mathlib.Core.List.{List}
use mathlib.Core.Path.{◌≡◌, sym, ◌∙◌, subst}
use Prim.Native.Nat.{ℕ, zero, suc, ◌+◌, ◌≤◌, ◌<◌}
use native.Mathlib.Decide.{dec_le, ℕ_discrete}
use native.Mathlib.Nat.{lt_of_not-le}
use native.Mathlib.Omega.{arith}
use lib.ListN.{get_or}
use Rattle.plan.specs.declared.rows.Span.{Span}
use Rattle.plan.specs.Tables.{span_at}
use Rattle.plan_lists.specs.Lists.{LeastFrom, Nexts, pair_slot, slot_at, Followed, InOrder}
use Rattle.plan_lists.specs.Model.{slots}

pub pair_slot_lem : (s t : Span) → s.one.0 ≡ t.one.0 → s.other.0 ≡ t.other.0 → pair_slot s ≡ pair_slot t
unfolding pair_slot
pair_slot_lem s t one other = rw (one, other)

pub slot_same : (table : List ℕ) (j k : ℕ) → (span_at table j).one.0 ≡ (span_at table k).one.0 → (span_at table j).other.0 ≡ (span_at table k).other.0 → slot_at table j ≡ slot_at table k
unfolding slot_at
slot_same table j k = pair_slot_lem (span_at table j) (span_at table k)

pub slot_below : (s : Span) → pair_slot s < slots
unfolding pair_slot slots
slot_below s = omega arith

-- the walk starts at row `from` or later, and has come to row j, where n is the end
pub record Along (key : ℕ → ℕ) (P : ℕ → Type 0) (from n s j : ℕ) : Type 0 where
  pub no_earlier : from ≤ j
  pub no_later : j ≤ n
  pub has : j < n → key j ≡ s
  pub passed : (k : ℕ) → from ≤ k → k < j → key k ≡ s → P k

module _ (key : ℕ → ℕ) (P : ℕ → Type 0) (from n s : ℕ) where
  pub along_starts : (j : ℕ) → LeastFrom key from n s j → Along key P from n s j
  along_starts j l =
      record { no_earlier = l.no_earlier; no_later = l.no_later; has = l.has; passed = λ k h m e. absurd (l.least k h m e) }

  module _ (j : ℕ) (so_far : Along key P from n s j) where
    pub along_goes : j < n → P j → (r : ℕ) → LeastFrom key (suc j) n (key j) r → Along key P from n s r
    along_goes h p r l = record {
      no_earlier = omega (arith, so_far.no_earlier, l.no_earlier);
      no_later = l.no_later;
      has = λ m. l.has m ∙ so_far.has h;
      passed = λ k f m e.
          elim (dec_le (suc k) j) [
            | yes b ↦ so_far.passed k f b e
            | no b ↦ elim (ℕ_discrete k j) [
              | yes d ↦ subst P (sym d) p
              | no d ↦ absurd (l.least k (omega arith) m (e ∙ sym (so_far.has h)))
            ]
          ];
    }

    pub along_ends : n ≤ j → (k : ℕ) → from ≤ k → k < n → key k ≡ s → P k
    along_ends h k f m e = so_far.passed k f (omega arith) e

module _ (key : ℕ → ℕ) (n : ℕ) (nexts : List ℕ) (linked : Nexts key n nexts) (R : ℕ → ℕ → Type 0)
    (step : (i : ℕ) → i < n → get_or nexts i 0 < n → R i (get_or nexts i 0))
    (carry : (i j k : ℕ) → j < n → R i j → R j k → R i k) where
  -- by how far k is from i at the most
  chained_in : (d i k : ℕ) → k ≤ i + d → i < k → k < n → key i ≡ key k → R i k
  unfolding Nexts
  chained_in zero i k few later h e = absurd (omega arith)
  chained_in (suc d) i k few later h e =
      let l = linked i (omega arith) in
      let near : get_or nexts i 0 ≤ k =
      elim (dec_le (get_or nexts i 0) k) [ yes b ↦ b | no b ↦ absurd (l.least k later (lt_of_not-le b) (sym e)) ] in
      let inside : get_or nexts i 0 < n = omega arith in
      elim (ℕ_discrete (get_or nexts i 0) k) [
        | yes b ↦ subst (R i) b (step i (omega arith) inside)
        | no b ↦ carry i (get_or nexts i 0) k inside (step i (omega arith) inside)
            (chained_in d (get_or nexts i 0) k (omega (arith, l.no_earlier)) (omega arith) h (l.has inside ∙ e))
      ]

  pub chained : (i k : ℕ) → i < k → k < n → key i ≡ key k → R i k
  chained i k later h e = chained_in k i k (omega arith) later h e

-- a row of the slot starts where the one before it ended, or later, and ends later than it starts
pub ordered_later : (table : List ℕ) (n : ℕ) (nexts : List ℕ) → Nexts (slot_at table) n nexts
    → ((k : ℕ) → k < n → (span_at table k).start.0 < (span_at table k).end.0) → InOrder table n nexts
    → (i k : ℕ) → i < k → k < n → slot_at table i ≡ slot_at table k → (span_at table i).end.0 ≤ (span_at table k).start.0
unfolding InOrder Followed
ordered_later table n nexts linked starts order i k later h e =
    chained (slot_at table) n nexts linked (λ i k. (span_at table i).end.0 ≤ (span_at table k).start.0) order
    (λ i j k m x y. omega (arith, starts j m)) i k later h e
