-- What a sound service says of the contacts of a chain.
--     light_good        the light time of a contact is in its range
--     contact_good      a number that names a contact of the plan names a good one
-- Assumes nothing.
use Prim.Native.Nat.{ℕ, ◌-◌}
use native.Mathlib.Omega.{arith}
use Rattle.std.specs.Prelude.{None}
use Rattle.plan.specs.Plan.{GoodContact, Each}
use Rattle.service.specs.Service.{Service, Sound, LightGood, blank, contact_of, light_in, InPlan}

pub light_good : (p : Service) → Sound p → (c : ℕ) → InPlan p c → LightGood (light_in p c)
unfolding Each
light_good p v c i = v.lights_good None (c - 1) (omega (arith, i.least, i.most, v.lights_counted))

pub contact_good : (p : Service) → Sound p → (c : ℕ) → InPlan p c → GoodContact (contact_of p c)
unfolding Each
contact_good p v c i = v.contacts_good blank (c - 1) (omega (arith, i.least, i.most))
