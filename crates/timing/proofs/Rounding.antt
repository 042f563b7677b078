-- Rounding up, and what a file takes on a contact.
--     rounded_enough, rounded_least      n over d rounded up is the least whole number that is enough
--     consumed_form                      consumption is the size and three hundredths of it, rounded up
--     consumed_enough, consumed_least    and so the least that covers three hundredths
--     sent_enough, sent_least            sending time: consumption × 1000 over the rate, rounded up
--     consumed_mono, sent_mono           a smaller file takes no more
--     consumed_most, sent_most           how much a file takes at the most
-- Assumes nothing.
use mathlib.Core.Path.{◌≡◌}
use Prim.Native.Nat.{ℕ, ◌+◌, ◌-◌, ◌*◌, ◌/◌, ◌%◌, ◌≤◌}
use native.Mathlib.Nat.{le_trans, suc-mul, mul-le-mul_left, lt-div-mul-add, div-lt_iff_lt-mul, le_of_suc-le-suc, div-add-mod'}
use native.Mathlib.Omega.{arith}
use lib.Dec.{lit≤}
use Rattle.units.specs.Limits.{most_size}
use Rattle.timing.specs.Hop.{rounded_up, consumed, sent}

pub rounded_enough : (n d : ℕ) → 1 ≤ d → n ≤ rounded_up n d * d
unfolding rounded_up
rounded_enough n d h = omega (arith, lt-div-mul-add {a = n + (d - 1)} h)

pub rounded_least : (n d q : ℕ) → 1 ≤ d → n ≤ q * d → rounded_up n d ≤ q
unfolding rounded_up
rounded_least n d q h enough = le_of_suc-le-suc ((div-lt_iff_lt-mul h).1 (omega (arith, suc-mul q d)))

pub rounded_mono : {m n : ℕ} (d : ℕ) → 1 ≤ d → m ≤ n → rounded_up m d ≤ rounded_up n d
rounded_mono {m} {n} d h l = rounded_least m d (rounded_up n d) h (le_trans l (rounded_enough n d h))

-- three for each whole hundred and three hundredths of the rest are three hundredths of it all, rounded up
pub consumed_form : (size : ℕ) → consumed size ≡ size + rounded_up (3 * size) 100
unfolding consumed
consumed_form size =
    let rest : ℕ = rounded_up (3 * (size % 100)) 100 in
    let all : ℕ = rounded_up (3 * size) 100 in
    let parts = div-add-mod' size 100 in
    let rest-enough = rounded_enough (3 * (size % 100)) 100 (lit≤ tt) in
    let all-enough = rounded_enough (3 * size) 100 (lit≤ tt) in
    let no_more : all ≤ 3 * (size / 100) + rest = rounded_least (3 * size) 100 (3 * (size / 100) + rest) (lit≤ tt) (omega (arith, parts, rest-enough)) in
    let no_less : rest ≤ all - 3 * (size / 100) = rounded_least (3 * (size % 100)) 100 (all - 3 * (size / 100)) (lit≤ tt) (omega (arith, parts, all-enough)) in
    omega (arith, parts, all-enough, no_more, no_less)

-- what it takes beyond its size covers three hundredths of the size
pub consumed_enough : (size : ℕ) → 3 * size ≤ 100 * (consumed size - size)
consumed_enough size = omega (arith, consumed_form size, rounded_enough (3 * size) 100 (lit≤ tt))

-- and no less does
pub consumed_least : (size extra : ℕ) → 3 * size ≤ 100 * extra → consumed size ≤ size + extra
consumed_least size extra h = omega (arith, consumed_form size, rounded_least (3 * size) 100 extra (lit≤ tt) (omega arith))

pub consumed_mono : {m n : ℕ} → m ≤ n → consumed m ≤ consumed n
consumed_mono {m} {n} l = omega (arith, consumed_form m, consumed_form n, rounded_mono {m = 3 * m} {n = 3 * n} 100 (lit≤ tt) (omega arith))

pub consumed_most : (size : ℕ) → size ≤ most_size → consumed size ≤ 1_030_000_000
unfolding most_size
consumed_most size l = omega (arith, consumed_form size, rounded_least (3 * size) 100 30_000_000 (lit≤ tt) (omega arith))

pub sent_enough : (size rate : ℕ) → 1 ≤ rate → consumed size * 1000 ≤ sent size rate * rate
unfolding sent
sent_enough size rate h = rounded_enough (consumed size * 1000) rate h

pub sent_least : (size rate time : ℕ) → 1 ≤ rate → consumed size * 1000 ≤ time * rate → sent size rate ≤ time
unfolding sent
sent_least size rate time h enough = rounded_least (consumed size * 1000) rate time h enough

pub sent_mono : {m n : ℕ} (rate : ℕ) → 1 ≤ rate → m ≤ n → sent m rate ≤ sent n rate
unfolding sent
sent_mono {m} {n} rate h l = rounded_mono rate h (omega (arith, consumed_mono l))

pub sent_most : (size rate : ℕ) → 1 ≤ rate → size ≤ most_size → sent size rate ≤ 1_030_000_000_000
sent_most size rate h l =
    sent_least size rate 1_030_000_000_000 h (omega (arith, consumed_most size l, mul-le-mul_left 1_030_000_000_000 h))
