-- That tables hold a valid plan has one proof at most, as a fact that a struct keeps must have. A reader of the promises may skip it.
-- Assumes nothing.
use Rattle.std.specs.Prelude.{List, ℕ}
use Rattle.std.proofs.Props.{props}
use Rattle.plan.specs.declared.rows.Contact.{Contact}
use Rattle.plan.specs.declared.rows.Range.{Range}
use Rattle.plan.specs.Plan.{Plan, GoodContact, GoodRange, Each, NoTwo, Valid}
use Rattle.plan.specs.Tables.{IsPlan}

pub each_prop : {A : Type 0} (P : A → Type 0) → ((x : A) → IsProp (P x)) → (xs : List A) → IsProp (Each P xs)
unfolding Each
each_prop P p xs = Prim.hlevel p

pub no_two_prop : {A : Type 0} (R : A → A → Type 0) (xs : List A) → IsProp (NoTwo R xs)
unfolding NoTwo
no_two_prop R xs = Prim.hlevel props

pub good_contact_prop : (c : Contact) → IsProp (GoodContact c)
good_contact_prop c = Prim.hlevel props

pub good_range_prop : (r : Range) → IsProp (GoodRange r)
good_range_prop r = Prim.hlevel props

pub valid_prop : (p : Plan) → IsProp (Valid p)
valid_prop p = Prim.hlevel (each_prop, no_two_prop, good_contact_prop, good_range_prop, props)

pub is_plan_prop : (contacts : List ℕ) (m : ℕ) (ranges : List ℕ) (n : ℕ) → IsProp (IsPlan contacts m ranges n)
is_plan_prop contacts m ranges n = Prim.hlevel (valid_prop, props)
