-- Decimal digits: a number's digits have its value, and digits with no leading zero are those of their value.
--     value_decimal       value (decimal n) ≡ n
--     decimal_number      decimal n has no leading zero
--     decimal_value       digits with no leading zero are decimal of their value
--     decimal_short       a number below 10 ^ k has at most k digits
-- Assumes nothing.
use mathlib.Core.Path.{◌≡◌, refl, sym, ap, ap₂, ◌∙◌}
use mathlib.Core.List.Memᴰ
use mathlib.Core.List.{List, [], ◌∷◌, ◌++◌, append-nil, append_assoc, Memᴰ}
use mathlib.Core.Logic.{⊎_elim}
use Prim.Native.Nat.{ℕ, zero, suc, ◌+◌, ◌-◌, ◌*◌, ◌/◌, ◌%◌, ◌^◌, ◌≤◌, ◌<◌}
use native.Mathlib.Nat.{not-suc-le-zero, le_refl, pow-suc}
use native.Mathlib.Decide.{dec_lt, ℕ_discrete}
use native.Mathlib.Omega.{arith}
use lib.ListN.{length, get_or, length-append, get_or-append}
use borrow.Author.Tests.{lt-ltb, le-ltb}
use Rattle.text.specs.Digits.{nought, Digit, Number, value_from, value, decimal_in, decimal}
use Rattle.text.proofs.Members.{each_mem, mem_each}

-- ---- the equations of `decimal`, and induction by digits

small_in : (steps n : ℕ) → n < 10 → decimal_in steps n ≡ (nought + n) ∷ []
unfolding decimal_in
small_in zero n h = refl
small_in (suc steps) n h = rw (lt-ltb n 10 h)

large_in : (steps n : ℕ) → 10 ≤ n → decimal_in (suc steps) n ≡ decimal_in steps (n / 10) ++ (nought + n % 10) ∷ []
unfolding decimal_in
large_in steps n h = rw (le-ltb n 10 h)

-- any number of steps that is large enough gives the same
same_in : (s t n : ℕ) → n ≤ s → n ≤ t → decimal_in s n ≡ decimal_in t n
same_in zero t n hs ht = let h : n < 10 = omega arith in small_in zero n h ∙ sym (small_in t n h)
same_in (suc s) zero n hs ht = let h : n < 10 = omega arith in small_in (suc s) n h ∙ sym (small_in zero n h)
same_in (suc s) (suc t) n hs ht = elim (dec_lt n 10) [
  | yes h ↦ small_in (suc s) n h ∙ sym (small_in (suc t) n h)
  | no h ↦
      let g : 10 ≤ n = omega arith in
      let fewer = same_in s t (n / 10) (omega arith) (omega arith) in
      large_in s n g ∙ ap (λ (ds : List ℕ). ds ++ (nought + n % 10) ∷ []) fewer ∙ sym (large_in t n g)
]

pub decimal_small : (n : ℕ) → n < 10 → decimal n ≡ (nought + n) ∷ []
unfolding decimal
decimal_small n h = small_in n n h

pub decimal_large : (n : ℕ) → 10 ≤ n → decimal n ≡ decimal (n / 10) ++ (nought + n % 10) ∷ []
unfolding decimal
decimal_large zero h = absurd (not-suc-le-zero h)
decimal_large (suc n) h =
    large_in n (suc n) h ∙ ap (λ (ds : List ℕ). ds ++ (nought + suc n % 10) ∷ []) (same_in n (suc n / 10) (suc n / 10) (omega arith) (le_refl (suc n / 10)))

by_digits : (P : ℕ → Type 0) → ((n : ℕ) → n < 10 → P n) → ((n : ℕ) → 10 ≤ n → P (n / 10) → P n) → (n : ℕ) → P n
by_digits P small large n = go n n (le_refl n)
  where
    go : (steps m : ℕ) → m ≤ steps → P m
    go zero m h = small m (omega arith)
    go (suc steps) m h =
        elim (dec_lt m 10) [ yes s ↦ small m s | no s ↦ large m (omega arith) (go steps (m / 10) (omega arith)) ]

-- ---- the value of a number's digits

value_from_append : (v : ℕ) (xs ys : List ℕ) → value_from v (xs ++ ys) ≡ value_from (value_from v xs) ys
unfolding value_from
value_from_append v [] ys = refl
value_from_append v (d ∷ xs) ys = value_from_append (v * 10 + (d - nought)) xs ys

pub value_decimal : (n : ℕ) → value (decimal n) ≡ n
unfolding value value_from
value_decimal = by_digits (λ n. value (decimal n) ≡ n) small large
  where
    small : (n : ℕ) → n < 10 → value (decimal n) ≡ n
    small n h = rw (decimal_small n h) (omega arith)

    large : (n : ℕ) → 10 ≤ n → value (decimal (n / 10)) ≡ n / 10 → value (decimal n) ≡ n
    large n h before =
        rw (decimal_large n h, value_from_append 0 (decimal (n / 10)) ((nought + n % 10) ∷ []), before) (omega arith)

-- ---- a number's digits have no leading zero

some_digit : (n : ℕ) → 0 < length (decimal n)
some_digit = by_digits (λ n. 0 < length (decimal n)) (λ n h. rw (decimal_small n h) (omega arith)) large
  where
    large : (n : ℕ) → 10 ≤ n → 0 < length (decimal (n / 10)) → 0 < length (decimal n)
    large n h before = rw (decimal_large n h, length-append) (omega arith)

pub decimal_digits : (n d : ℕ) → Memᴰ d (decimal n) → Digit d
decimal_digits = by_digits (λ n. (d : ℕ) → Memᴰ d (decimal n) → Digit d) small large
  where
    last : (n d : ℕ) → n < 10 → d ≡ nought + n → Digit d
    last n d h e = omega arith

    small : (n : ℕ) → n < 10 → (d : ℕ) → Memᴰ d (decimal n) → Digit d
    small n h d m = last n d h (Memᴰ.eq_of_singleton (rw (decimal_small n h) at m))

    large : (n : ℕ) → 10 ≤ n → ((d : ℕ) → Memᴰ d (decimal (n / 10)) → Digit d) → (d : ℕ) → Memᴰ d (decimal n) → Digit d
    large n h before d m =
        ⊎_elim (before d) (λ e. last (n % 10) d (omega arith) (Memᴰ.eq_of_singleton e))
        (Memᴰ.append_cases (decimal (n / 10)) (rw (decimal_large n h) at m))

first_digit : (n : ℕ) → 0 < n → get_or (decimal n) 0 0 ≡ nought → ⊥
first_digit = by_digits (λ n. 0 < n → get_or (decimal n) 0 0 ≡ nought → ⊥) small large
  where
    small : (n : ℕ) → n < 10 → 0 < n → get_or (decimal n) 0 0 ≡ nought → ⊥
    small n h pos e = omega (arith, rw (decimal_small n h) at e)

    large : (n : ℕ) → 10 ≤ n → (0 < n / 10 → get_or (decimal (n / 10)) 0 0 ≡ nought → ⊥) → 0 < n → get_or (decimal n) 0 0 ≡ nought → ⊥
    large n h before pos e =
        before (omega arith)
        (sym (get_or-append (decimal (n / 10)) ((nought + n % 10) ∷ []) 0 0 (some_digit (n / 10))) ∙ (rw (decimal_large n h) at e))

pub decimal_number : (n : ℕ) → Number (decimal n)
decimal_number n = record {
  not_blank = some_digit n;
  digits = mem_each Digit (decimal n) (decimal_digits n);
  no_leading_zero = alone n;
}
  where
    alone : (m : ℕ) → get_or (decimal m) 0 0 ≡ nought → length (decimal m) ≡ 1
    alone zero e = rw (decimal_small 0 (omega arith))
    alone (suc m) e = absurd (first_digit (suc m) (omega arith) e)

-- ---- digits with no leading zero are those of their value

read_on : (v : ℕ) (ds : List ℕ) → 0 < v → ((d : ℕ) → Memᴰ d ds → Digit d) → decimal (value_from v ds) ≡ decimal v ++ ds
unfolding value_from
read_on v [] pos digits = sym (append-nil (decimal v))
read_on v (d ∷ ds) pos digits =
    let is_digit = digits d (Memᴰ.head refl) in
    let w = v * 10 + (d - nought) in
    let front : w / 10 ≡ v = omega arith in
    let last : nought + w % 10 ≡ d = omega arith in
    read_on w ds (omega arith) (λ e m. digits e (Memᴰ.tail m))
    ∙ ap (λ (es : List ℕ). es ++ ds) (decimal_large w (omega arith) ∙ ap₂ (λ (u b : ℕ). decimal u ++ b ∷ []) front last)
    ∙ append_assoc (decimal v) (d ∷ []) ds

pub decimal_value : (ds : List ℕ) → Number ds → decimal (value ds) ≡ ds
unfolding value value_from
decimal_value [] num = absurd (not-suc-le-zero num.not_blank)
decimal_value (d ∷ ds) num = go (ℕ_discrete d nought) ds num
  where
    go : Dec (d ≡ nought) → (es : List ℕ) → Number (d ∷ es) → decimal (value (d ∷ es)) ≡ d ∷ es
    go (yes e) [] g =
        let same : nought + (0 * 10 + (d - nought)) ≡ d = omega arith in
        decimal_small (0 * 10 + (d - nought)) (omega arith) ∙ ap (λ (b : ℕ). b ∷ []) same
    go (yes e) (x ∷ xs) g = absurd (omega (arith, g.no_leading_zero e))
    go (no e) es g =
        let is_digit = each_mem Digit (d ∷ es) g.digits (Memᴰ.head refl) in
        let v = 0 * 10 + (d - nought) in
        let same : nought + v ≡ d = omega arith in
        read_on v es (omega arith) (λ b m. each_mem Digit (d ∷ es) g.digits (Memᴰ.tail m))
        ∙ ap (λ (bs : List ℕ). bs ++ es) (decimal_small v (omega arith) ∙ ap (λ (b : ℕ). b ∷ []) same)

-- ---- how many digits

pub decimal_short : (k n : ℕ) → n < 10 ^ suc k → length (decimal n) ≤ suc k
decimal_short zero n h = rw (decimal_small n h) (omega arith)
decimal_short (suc k) n h = elim (dec_lt n 10) [
  | yes s ↦ rw (decimal_small n s) (omega arith)
  | no s ↦
      let g : 10 ≤ n = omega arith in
      let less : n / 10 < 10 ^ suc k = omega (arith, rw (pow-suc 10 (suc k)) at h) in
      let before = decimal_short k (n / 10) less in
      rw (decimal_large n g, length-append) (omega arith)
]
