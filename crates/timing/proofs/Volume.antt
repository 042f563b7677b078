-- Bytes and time: where nothing of a contact is used, what fits in time fits in bytes too.
--     fits_in_bytes      so the test of the bytes refuses nothing that the test of the time lets through
-- Assumes nothing.
use Prim.Native.Nat.{ℕ, ◌+◌, ◌-◌, ◌*◌, ◌≤◌}
use native.Mathlib.Nat.{le_trans, le-div_iff_mul-le, mul-le-mul_right, mul_comm}
use lib.Dec.{lit≤}
use native.Mathlib.Omega.{arith}
use Rattle.plan.specs.declared.rows.Contact.{Contact}
use Rattle.plan.specs.Plan.{GoodContact}
use Rattle.service.specs.Service.{volume}
use Rattle.timing.specs.Hop.{consumed, sent, start_on}
use Rattle.timing.proofs.Rounding.{sent_enough}

pub fits_in_bytes : (c : Contact) → GoodContact c → (size t : ℕ) → start_on c t + sent size c.rate ≤ c.end.0 → consumed size ≤ volume c
unfolding volume
fits_in_bytes c good size t h =
    let long : ℕ = c.end.0 - c.start.0 in
    let sending : sent size c.rate ≤ long = omega arith in
    let bytes : consumed size * 1000 ≤ long * c.rate = le_trans (sent_enough size c.rate good.rate_least) (mul-le-mul_right c.rate sending) in
    (le-div_iff_mul-le (lit≤ tt)).1 (rw (mul_comm c.rate long) bytes)
