-- Excluded neighbours as a number: 1 for node 1, 2 for node 2, 4 for node 3 and so on, added up.
--     excluded_none        the number 0 excludes nobody
--     excluded_more        where node m is not excluded yet, adding 2 ^ (m - 1) excludes it
--     excluded_others      and leaves the other nodes as they were
--     excluded_bit, excluded_other      so 2 ^ (m - 1) excludes node m, and no other
-- Assumes nothing.
use mathlib.Core.Bool.{true, false}
use mathlib.Core.Path.{◌≡◌, ap, ◌∙◌}
use Prim.Native.Nat.{ℕ, suc, ◌+◌, ◌-◌, ◌*◌, ◌/◌, ◌%◌, ◌^◌, ◌≤◌, ◌<◌}
use native.Mathlib.Decide.{dec_lt}
use native.Mathlib.Nat.{zero-add, zero-div, pow-succ', two-pow-succ, add-mul-div_right, div-div-eq-div-mul, add-div_right, mul_assoc}
use native.Mathlib.Omega.{arith}
use lib.Pow.{pow-add, pow_pos}
use borrow.Author.Tests.{eqb-false}
use Rattle.timing.specs.Hop.{is_excluded}

-- a bit that is not set, after 2 ^ k is added
bit_more : (x k : ℕ) → x / 2 ^ k % 2 ≡ 0 → (x + 2 ^ k) / 2 ^ k % 2 ≡ 1
bit_more x k e = rw (add-div_right x (pow_pos k)) (omega arith)

-- a lower bit
bit_below : (x j k : ℕ) → j < k → (x + 2 ^ k) / 2 ^ j % 2 ≡ x / 2 ^ j % 2
bit_below x j k h =
    let split : k ≡ suc (k - suc j) + j = omega arith in
    let power : 2 ^ k ≡ 2 ^ suc (k - suc j) * 2 ^ j = ap (λ i. 2 ^ i) split ∙ pow-add 2 (suc (k - suc j)) j in
    rw (power, add-mul-div_right x (2 ^ suc (k - suc j)) (pow_pos j)) (omega (arith, two-pow-succ (k - suc j)))

-- a higher bit
bit_above : (x j k : ℕ) → k < j → x / 2 ^ k % 2 ≡ 0 → (x + 2 ^ k) / 2 ^ j % 2 ≡ x / 2 ^ j % 2
bit_above x j k h e =
    let even : (x / 2 ^ k + 1) / 2 ≡ x / 2 ^ k / 2 = omega arith in
    rw (in_steps (x + 2 ^ k), in_steps x, add-div_right x (pow_pos k), even)
  where
    in_steps : (y : ℕ) → y / 2 ^ j ≡ y / 2 ^ k / 2 / 2 ^ (j - suc k)
    in_steps y =
        let split : j ≡ k + suc (j - suc k) = omega arith in
        ap (λ i. y / 2 ^ i) split ∙ simp (pow-add, pow-succ', div-div-eq-div-mul, mul_assoc)

pub excluded_none : (n : ℕ) → is_excluded 0 n ≡ false
unfolding is_excluded
excluded_none n = rw zero-div

module _ (x m : ℕ) (not_yet : is_excluded x m ≡ false) where
  unset : x / 2 ^ (m - 1) % 2 ≡ 0
  unfolding is_excluded
  unset = let h : x / 2 ^ (m - 1) % 2 ≡ 1 → ⊥ = eqb-false (x / 2 ^ (m - 1) % 2) 1 not_yet in omega arith

  pub excluded_more : is_excluded (x + 2 ^ (m - 1)) m ≡ true
  unfolding is_excluded
  excluded_more = rw (bit_more x (m - 1) unset)

  pub excluded_others : (n : ℕ) → 1 ≤ m → 1 ≤ n → (m ≡ n → ⊥) → is_excluded (x + 2 ^ (m - 1)) n ≡ is_excluded x n
  unfolding is_excluded
  excluded_others n hm hn differ = go (dec_lt (n - 1) (m - 1))
    where
      go : Dec (n - 1 < m - 1) → is_excluded (x + 2 ^ (m - 1)) n ≡ is_excluded x n
      go (yes h) = rw (bit_below x (n - 1) (m - 1) h)
      go (no h) = rw (bit_above x (n - 1) (m - 1) (omega arith) unset)

pub excluded_bit : (m : ℕ) → is_excluded (2 ^ (m - 1)) m ≡ true
excluded_bit m = rw zero-add at (excluded_more 0 m (excluded_none m))

pub excluded_other : (m n : ℕ) → 1 ≤ m → 1 ≤ n → (m ≡ n → ⊥) → is_excluded (2 ^ (m - 1)) n ≡ false
excluded_other m n hm hn differ = rw zero-add at (excluded_others 0 m (excluded_none m) n hm hn differ ∙ excluded_none n)
