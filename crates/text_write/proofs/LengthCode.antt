-- The length of a text, piece by piece.
--     digits_are                                how many digits a number has
--     row_few                                   the fields of a row are few bytes
-- Assumes nothing.
use mathlib.Core.List.{List, [], ◌∷◌, ◌++◌, map}
use mathlib.Core.Path.{◌≡◌, sym, ap, ap₂, ◌∙◌}
use Prim.Native.Nat.{ℕ, zero, max, suc, ◌+◌, ◌-◌, ◌*◌, ◌/◌, ◌%◌, ◌^◌, ◌≤◌, ◌<◌}
use native.Mathlib.Nat.{pow-succ', one-le-pow}
use native.Mathlib.Omega.{arith}
use lib.ListN.{length, get_or, take, drop, length-append}
use Rattle.plan.specs.Plan.{Plan}
use Rattle.plan.specs.Tables.{words, contact_at, range_at, rows_from, plan_of}
use Rattle.text.specs.Calls.{text_of}
use Rattle.text.specs.Digits.{decimal}
use Rattle.text.specs.Lines.{glue}
use Rattle.text.specs.Rows.{header, contact_word, range_word, line_of, contact_line, range_line, plan_lines, render}
use Rattle.text.proofs.Digits.{decimal_large, decimal_small}
use Rattle.text.proofs.Lines.{glue_append}
use Rattle.plan.proofs.RowList.{length_rows, map_rows, rows_agree}
use Rattle.text_write.specs.Model.{words_from, field_bytes, line_at, line_bytes, row_bytes}
use Rattle.text_write.proofs.PutCode.{fields_more, fields_done, line_parts, row_taken, rows_left, rows_none}

-- ---- digits

powers_tell : (k n : ℕ) → 10 ^ k ≤ n → n < 10 * 10 ^ k → length (decimal n) ≡ k + 1
powers_tell zero n low high = ap length (decimal_small n high)
powers_tell (suc k) n low high =
    let step : 10 ^ suc k ≡ 10 * 10 ^ k = pow-succ' 10 k in
    let one : 1 ≤ 10 ^ k = one-le-pow k 10 (omega arith) in
    let large : 10 ≤ n = omega (arith, step, one, low) in
    let below : 10 ^ k ≤ n / 10 = omega (arith, step, low) in
    let above : n / 10 < 10 * 10 ^ k = omega (arith, step, high) in
    let front : length (decimal (n / 10)) ≡ k + 1 = powers_tell k (n / 10) below above in
    omega (arith, front, ap length (decimal_large n large), length-append (decimal (n / 10)) ((48 + n % 10) ∷ []))

-- a number has a digit more than the power of ten at or below it has zeros; 0 has one
pub digits_are : (n k : ℕ) → 10 ^ k ≤ max n 1 → max n 1 < 10 * 10 ^ k → length (decimal n) ≡ k + 1
digits_are zero k low high =
    ap length (decimal_small 0 (omega arith)) ∙ sym (ap length (decimal_small 1 (omega arith))) ∙ powers_tell k 1 low high
digits_are (suc n) k low high = powers_tell k (suc n) (omega (arith, low)) (omega (arith, high))

-- ---- fields and lines

module _ (xs : List ℕ) (i sum d : ℕ) where
  pub sum_field : i < length xs → d ≡ length (decimal (get_or xs i 0)) → (all : ℕ) → all ≡ sum + length (field_bytes (drop i xs))
      → all ≡ (sum + (1 + d)) + length (field_bytes (drop (i + 1) xs))
  sum_field h e all s = omega (arith, s, ap length (fields_more xs i h), length-append (decimal (get_or xs i 0)) (field_bytes (drop (i + 1) xs)))

  pub sum_fields_end : length xs ≤ i → (all : ℕ) → all ≡ sum + length (field_bytes (drop i xs)) → sum ≡ all
  sum_fields_end h all s = omega (arith, s, ap length (fields_done xs i h))

module _ (word t : List ℕ) (k n sum d : ℕ) where
  pub sum_line : (row : List ℕ) → row ≡ words_from t (k * words) words → k < n → d ≡ length (field_bytes row) → (all : ℕ)
      → all ≡ sum + length (row_bytes word t k (n - k)) → all ≡ (sum + (length word + d + 1)) + length (row_bytes word t (k + 1) (n - (k + 1)))
  sum_line row is h e all s =
      omega (
        arith,
        s,
        e,
        ap length (rows_left word t k n h),
        length-append (line_bytes word (words_from t (k * words) words)) (row_bytes word t (k + 1) (n - (k + 1))),
        ap (λ (ws : List ℕ). length (line_bytes word ws)) is,
        ap length (line_parts word row),
        length-append word (field_bytes row ++ (10 ∷ [])),
        length-append (field_bytes row) (10 ∷ []),
      )

  pub sum_lines_end : n ≤ k → (all : ℕ) → all ≡ sum + length (row_bytes word t k (n - k)) → sum ≡ all
  sum_lines_end h all s = omega (arith, s, ap length (rows_none word t k n h))

-- the fields of a row are few bytes
pub row_few : (t : List ℕ) (k d : ℕ) → k * words + words ≤ length t → d ≤ length (take ((k + 1) * words - k * words) (drop (k * words) t)) * 21 → d ≤ 105
row_few t k d h few = omega (arith, few, ap length (row_taken t k h) ∙ length_rows (λ j. get_or t j 0) (k * words) words)

-- ---- the whole text

module _ (contacts : List ℕ) (m : ℕ) (ranges : List ℕ) (n : ℕ) where
  words_of : (t : List ℕ) (k : ℕ) → words_from t (k * words) words
      ≡ get_or t (k * words) 0 ∷ get_or t (k * words + 1) 0 ∷ get_or t (k * words + 2) 0 ∷ get_or t (k * words + 3) 0 ∷ get_or t (k * words + 4) 0 ∷ []
  unfolding rows_from
  words_of t k =
      let one : suc (k * words) ≡ k * words + 1 = omega arith in
      let two : suc (suc (k * words)) ≡ k * words + 2 = omega arith in
      let three : suc (suc (suc (k * words))) ≡ k * words + 3 = omega arith in
      let four : suc (suc (suc (suc (k * words)))) ≡ k * words + 4 = omega arith in
      λ i. get_or t (k * words) 0 ∷ get_or t (one i) 0 ∷ get_or t (two i) 0 ∷ get_or t (three i) 0 ∷ get_or t (four i) 0 ∷ []

  contact_lines : row_bytes contact_word contacts 0 m ≡ glue (map contact_line (plan_of contacts m ranges n).contacts)
  unfolding row_bytes plan_of contact_line
  contact_lines =
      ap glue
      (rows_agree (line_at contact_word contacts) (λ k. contact_line (contact_at contacts k)) 0 m (λ k h. ap (line_of contact_word) (words_of contacts k))
      ∙ sym (map_rows contact_line (contact_at contacts) 0 m))

  range_lines : row_bytes range_word ranges 0 n ≡ glue (map range_line (plan_of contacts m ranges n).ranges)
  unfolding row_bytes plan_of range_line
  range_lines =
      ap glue
      (rows_agree (line_at range_word ranges) (λ k. range_line (range_at ranges k)) 0 n (λ k h. ap (line_of range_word) (words_of ranges k))
      ∙ sym (map_rows range_line (range_at ranges) 0 n))

  pub text_parts : text_of contacts m ranges n ≡ header ++ (row_bytes contact_word contacts 0 m ++ row_bytes range_word ranges 0 n)
  unfolding render plan_lines
  text_parts =
      let p : Plan = plan_of contacts m ranges n in
      ap (λ (bs : List ℕ). header ++ bs)
      (glue_append (map contact_line p.contacts) (map range_line p.ranges) ∙ sym (ap₂ (λ (a b : List ℕ). a ++ b) contact_lines range_lines))

  pub text_counted : (a b : ℕ) → a ≡ length (row_bytes contact_word contacts 0 m) → b ≡ length (row_bytes range_word ranges 0 n)
      → 7 + a + b ≡ length (text_of contacts m ranges n)
  unfolding header
  text_counted a b ea eb =
      omega (
        arith,
        ea,
        eb,
        ap length text_parts,
        length-append header (row_bytes contact_word contacts 0 m ++ row_bytes range_word ranges 0 n),
        length-append (row_bytes contact_word contacts 0 m) (row_bytes range_word ranges 0 n),
      )
