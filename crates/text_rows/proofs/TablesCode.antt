-- Rows stored into tables.
--     row_stored      a stored row of either kind is that row, and the rows before it stay
-- Assumes nothing.
use Rattle.std.proofs.Common.{Bool, ◌≡◌, ℕ, ◌+◌, ◌*◌, ◌≤◌, ◌<◌, List, [], ◌∷◌, ◌++◌, length, take, drop, get_or, sym, ap, ◌∙◌, arith, add-one, length-append, length-take, length-drop}
use mathlib.Core.Path.{ap₂}
use Rattle.std.proofs.lemmas.List.{get_or_append_left, get_or-append-add, get_or-take}
use Rattle.plan.specs.declared.rows.Span.{Span}
use Rattle.plan.specs.Rows.{HasWords, RowLaws}
use Rattle.plan.specs.Tables.{words, rows_from}
use Rattle.plan.proofs.RowList.{rows_last, rows_agree}
use Rattle.text_rows.specs.Tables.{with_row}

-- the words of a table with a row stored
module _ (t : List ℕ) (k : ℕ) (row : List ℕ) (room : k * words + words ≤ length t) (same_length : length (with_row t k row) ≡ length t) where
  front : length (take (k * words) t) ≡ k * words
  front = rw length-take (omega arith)

  five : length row ≡ 5
  five =
      omega (
        arith,
        same_length,
        front,
        length-append (take (k * words) t) (row ++ drop (k * words + words) t),
        length-append row (drop (k * words + words) t),
        length-drop (k * words + words) t,
      )

  word_there : (i : ℕ) → i < 5 → get_or (with_row t k row) (k * words + i) 0 ≡ get_or row i 0
  word_there i h =
      ap (λ (n : ℕ). get_or (with_row t k row) (n + i) 0) (sym front)
      ∙ get_or-append-add (take (k * words) t) (row ++ drop (k * words + words) t) i 0
      ∙ get_or_append_left row (drop (k * words + words) t) 0 i (omega (arith, five))

  word_before : (i : ℕ) → i < k * words → get_or (with_row t k row) i 0 ≡ get_or t i 0
  word_before i h =
      get_or_append_left (take (k * words) t) (row ++ drop (k * words + words) t) 0 i (omega (arith, front))
      ∙ get_or-take (k * words) t i 0 h

  there : HasWords (with_row t k row) k row
  there = record {
    word_0 = ap (λ (n : ℕ). get_or (with_row t k row) n 0) (omega arith) ∙ word_there 0 (omega arith);
    word_1 = word_there 1 (omega arith);
    word_2 = word_there 2 (omega arith);
    word_3 = word_there 3 (omega arith);
    word_4 = word_there 4 (omega arith);
  }

  before : (j : ℕ) → j < k → (ws : List ℕ) → HasWords t j ws → HasWords (with_row t k row) j ws
  before j h ws has = record {
    word_0 = word_before (j * words) (omega arith) ∙ has.word_0;
    word_1 = word_before (j * words + 1) (omega arith) ∙ has.word_1;
    word_2 = word_before (j * words + 2) (omega arith) ∙ has.word_2;
    word_3 = word_before (j * words + 3) (omega arith) ∙ has.word_3;
    word_4 = word_before (j * words + 4) (omega arith) ∙ has.word_4;
  }

module _ {R : Type 0} {row_at : List ℕ → ℕ → R} {span_of : R → Span} {good : R → Bool} {words_of : R → List ℕ} (laws : RowLaws row_at span_of good words_of) where
  pub row_stored : (t : List ℕ) (k : ℕ) (x : R) (t' : List ℕ) → k * words + words ≤ length t → t' ≡ with_row t k (words_of x) → length t' ≡ length t
      → rows_from (row_at t') 0 (k + 1) ≡ rows_from (row_at t) 0 k ++ (x ∷ [])
  row_stored t k x t' room stored same =
      let long : length (with_row t k (words_of x)) ≡ length t = ap length (sym stored) ∙ same in
      let u : List ℕ = with_row t k (words_of x) in
      ap₂ (λ (v : List ℕ) (n : ℕ). rows_from (row_at v) 0 n) stored (add-one k)
      ∙ rows_last (row_at u) 0 k
      ∙ ap₂ (λ (first : List R) (last : R). first ++ (last ∷ []))
      (rows_agree (row_at u) (row_at t) 0 k
      (λ j h. laws.read_back u j (row_at t j) (before t k (words_of x) room long j (omega arith) (words_of (row_at t j)) (laws.has_words t j))))
      (ap (row_at u) (omega arith) ∙ laws.read_back u k x (there t k (words_of x) room long))
