-- That ranges stand in lists has one proof at most, as a fact that a struct keeps must have. A reader of the promises may skip it.
-- Assumes nothing.
use Rattle.std.specs.Prelude.{Bool, true, ◌≡◌, List, ℕ}
use Rattle.std.proofs.Props.{props}
use Rattle.plan.specs.Props.{each_prop, no_two_prop, good_range_prop}
use Rattle.plan_lists.specs.Lists.{LeastFrom, Nexts, Followed, InOrder}
use Rattle.plan_light.specs.Model.{RangesLinked, RangesListed}

least_from_prop : (key : ℕ → ℕ) (from n s r : ℕ) → IsProp (LeastFrom key from n s r)
least_from_prop key from n s r = Prim.hlevel props

nexts_prop : (key : ℕ → ℕ) (n : ℕ) (nexts : List ℕ) → IsProp (Nexts key n nexts)
unfolding Nexts
nexts_prop key n nexts = Prim.hlevel (least_from_prop, props)

linked_prop : (ranges : List ℕ) (n : ℕ) (nexts : List ℕ) → IsProp (RangesLinked ranges n nexts)
linked_prop ranges n nexts = Prim.hlevel (each_prop, no_two_prop, good_range_prop, nexts_prop, props)

pub listed_prop : (ranges : List ℕ) (n : ℕ) (heads nexts : List ℕ) → IsProp (RangesListed ranges n heads nexts)
listed_prop ranges n heads nexts = Prim.hlevel (linked_prop, least_from_prop, props)

pub in_order_prop : (ordered : Bool) (ranges : List ℕ) (n : ℕ) (nexts : List ℕ) → IsProp (ordered ≡ true → InOrder ranges n nexts)
unfolding InOrder Followed
in_order_prop ordered ranges n nexts = Prim.hlevel props
