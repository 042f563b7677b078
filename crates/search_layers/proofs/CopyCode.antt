-- What a row copied by the library's copy leaves.
--     copied_timed               its words are time words still
--     row_kept, row_copied       the rows are as they were, but that row k + 1 is row k
--     copied_row                 so row k + 1 holds layer k
-- Assumes nothing.
use mathlib.Core.List.{List, map}
use mathlib.Core.Path.{◌≡◌, sym, ap, ◌∙◌}
use Prim.Native.Nat.{ℕ, suc, ◌+◌, ◌-◌, ◌*◌, ◌≤◌, ◌<◌}
use native.Mathlib.Decide.{dec_le}
use native.Mathlib.Nat.{mul-le-mul_right}
use native.Mathlib.Omega.{arith}
use lib.ListN.{length, get_or}
use lib.Seq.{ext_get_or}
use Rattle.std.specs.List.{CopiedTo, SameBelow, SameFrom}
use Rattle.units.specs.Limits.{most_nodes}
use Rattle.plan.specs.Plan.{Each}
use Rattle.search_layers.specs.declared.rows.Layers.{Layers}
use Rattle.search_layers.specs.Layered.{Layered}
use Rattle.search_layers.specs.Words.{when_word, TimeWord, row_of, layer_of}
use Rattle.search_layers.proofs.RowLaws.{length_row, row_most, row_long, get_d_row}

-- where a row stands: the rows before row k + 1 end before it, and those behind it begin behind it
before_row : (j k : ℕ) → j < suc k → j * most_nodes + most_nodes ≤ suc k * most_nodes
before_row j k h = let more : (j + 1) * most_nodes ≤ suc k * most_nodes = mul-le-mul_right most_nodes (omega arith) in omega arith

behind_row : (j k : ℕ) → suc k < j → suc k * most_nodes + most_nodes ≤ j * most_nodes
behind_row j k h = let more : (suc k + 1) * most_nodes ≤ j * most_nodes = mul-le-mul_right most_nodes (omega arith) in omega arith

module _ (entry exit : List ℕ) (k : ℕ) (inside : k + 1 < most_nodes) (full : length entry ≡ most_nodes * most_nodes) (long : length exit ≡ length entry)
    (copied : CopiedTo entry exit (k * most_nodes) ((k + 1) * most_nodes) ((k + 1) * most_nodes - k * most_nodes)) (below : SameBelow entry exit ((k + 1) * most_nodes))
    (from : SameFrom entry exit ((k + 1) * most_nodes + ((k + 1) * most_nodes - k * most_nodes))) where
  pub copied_timed : Each TimeWord entry → Each TimeWord exit
  unfolding Each
  copied_timed timed d i h = go (dec_le ((k + 1) * most_nodes) i) (dec_le ((k + 1) * most_nodes + ((k + 1) * most_nodes - k * most_nodes)) i)
    where
      go : Dec ((k + 1) * most_nodes ≤ i) → Dec ((k + 1) * most_nodes + ((k + 1) * most_nodes - k * most_nodes) ≤ i) → TimeWord (get_or exit i d)
      go (no b) z = rw (below i d (omega arith)) (timed d i (omega (arith, long)))
      go (yes b) (yes a) = rw (from i d a) (timed d i (omega (arith, long)))
      go (yes b) (no a) = rw (copied i d b (omega arith)) (timed d _ (omega (arith, long, h)))

  -- a row whose words are those of a row
  rows_same : (i j : ℕ) → length (row_of exit i) ≡ length (row_of entry j) → ((v : ℕ) → v < most_nodes → get_or exit (i * most_nodes + v) 0 ≡ get_or entry (j * most_nodes + v) 0)
      → row_of exit i ≡ row_of entry j
  rows_same i j same words =
      ext_get_or 0 (row_of exit i) (row_of entry j) same
      (λ v l.
      let h : v < most_nodes = omega (arith, row_most exit i) in
      get_d_row exit i v 0 h ∙ words v h ∙ sym (get_d_row entry j v 0 h))

  pub row_kept : (j : ℕ) → (j ≡ suc k → ⊥) → row_of exit j ≡ row_of entry j
  row_kept j apart = rows_same j j (row_long exit entry j long) (λ v h. go v h (dec_le (suc j) (suc k)))
    where
      go : (v : ℕ) → v < most_nodes → Dec (suc j ≤ suc k) → get_or exit (j * most_nodes + v) 0 ≡ get_or entry (j * most_nodes + v) 0
      go v h (yes b) = let place = before_row j k b in below (j * most_nodes + v) 0 (omega arith)
      go v h (no b) = let place = behind_row j k (omega arith) in from (j * most_nodes + v) 0 (omega arith)

  pub row_copied : row_of exit (suc k) ≡ row_of entry k
  row_copied =
      let last : (suc k + 1) * most_nodes ≤ most_nodes * most_nodes = mul-le-mul_right most_nodes (omega arith) in
      let first : (k + 1) * most_nodes ≤ most_nodes * most_nodes = mul-le-mul_right most_nodes (omega arith) in
      rows_same (suc k) k (length_row exit (suc k) (omega (arith, long, full)) ∙ sym (length_row entry k (omega (arith, full))))
      (λ v h.
      let place : k * most_nodes + (suc k * most_nodes + v - (k + 1) * most_nodes) ≡ k * most_nodes + v = omega arith in
      copied (suc k * most_nodes + v) 0 (omega arith) (omega arith) ∙ ap (λ (i : ℕ). get_or entry i 0) place)

pub copied_row : (entry exit : Layers) (k : ℕ) → ((j : ℕ) → (j ≡ suc k → ⊥) → row_of exit.words.now j ≡ row_of entry.words.now j)
    → row_of exit.words.now (suc k) ≡ row_of entry.words.now k → Layered entry exit k (layer_of entry.words.now k)
unfolding layer_of
copied_row entry exit k kept is = record { kept = kept; is = ap (map when_word) is }
