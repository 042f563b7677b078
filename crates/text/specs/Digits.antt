-- Numbers as decimal digits, of any length: the value of digits, and the digits of a number. Each gives the other back (proofs/Digits.antt).
-- Assumes nothing.
use Rattle.std.specs.Prelude.{cond, ◌≡◌, List, [], ◌∷◌, ◌++◌, ℕ, zero, suc, ◌+◌, ◌-◌, ◌*◌, ◌/◌, ◌%◌, ◌≤◌, ◌<◌, ltb, length, get_or}
use Rattle.plan.specs.Plan.{Each}

-- the byte of the digit 0
abbrev pub nought : ℕ
nought = 48

abbrev pub Digit : ℕ → Type 0
Digit b = (nought ≤ b) × (b ≤ nought + 9)

-- decimal digits with no leading zero, and zero is `0`
pub record Number (ds : List ℕ) : Type 0 where
  pub not_blank : 0 < length ds
  pub digits : Each Digit ds
  pub no_leading_zero : get_or ds 0 0 ≡ nought → length ds ≡ 1

-- digits read on, from the value of those before
unfoldable pub value_from : ℕ → List ℕ → ℕ
value_from v [] = v
value_from v (d ∷ ds) = value_from (v * 10 + (d - nought)) ds

unfoldable pub value : List ℕ → ℕ
value ds = value_from 0 ds

-- the digits of n, in at most so many steps, of which n are enough: those of n / 10, then the last
unfoldable pub decimal_in : ℕ → ℕ → List ℕ
decimal_in zero n = (nought + n) ∷ []
decimal_in (suc steps) n = let front = decimal_in steps (n / 10) in cond (ltb n 10) ((nought + n) ∷ []) (front ++ (nought + n % 10) ∷ [])

unfoldable pub decimal : ℕ → List ℕ
decimal n = decimal_in n n
