-- That tables are a good book can be shown in one way only, so that a type may hold it as a ghost field. A reader of the promises may skip it.
--     IsBook-prop      any two proofs of it are equal
-- Assumes nothing.
use mathlib.Core.List.{List}
use mathlib.Core.HLevel.{Π_prop}
use Prim.Native.Nat.{ℕ, ◌<◌}
use native.Mathlib.Bridge.{le_prop}
use native.Mathlib.Nat.{ℕ_set}
use native.Mathlib.Omega.{arith}
use Rattle.units.specs.Limits.{most_places}
use Rattle.plan.specs.Plan.{Each}
use Rattle.book.specs.Book.{Booking, Named, GoodBooking}
use Rattle.book.specs.Tables.{booking_at, GoodPlace, free_place, open_place, IsBook}

Named-prop : (m c : ℕ) → IsProp (Named m c)
Named-prop m c x y = λ i. record { least = le_prop x.least y.least i; most = le_prop x.most y.most i }

named-prop : (m : ℕ) (chain : List ℕ) → IsProp (Each (Named m) chain)
unfolding Each
named-prop m chain = Π_prop λ blank. Π_prop λ k. Π_prop λ _. Named-prop m _

GoodBooking-prop : (m : ℕ) (b : Booking) → IsProp (GoodBooking m b)
GoodBooking-prop m b x y = λ i. record {
  class_least = le_prop x.class_least y.class_least i;
  class_most = le_prop x.class_most y.class_most i;
  consumption_least = le_prop x.consumption_least y.consumption_least i;
  consumption_most = le_prop x.consumption_most y.consumption_most i;
  some = le_prop x.some y.some i;
  few = le_prop x.few y.few i;
  named = named-prop m b.chain x.named y.named i;
}

GoodPlace-prop : (m : ℕ) (t u : List ℕ) (k : ℕ) → IsProp (GoodPlace m t u k)
GoodPlace-prop m t u k (free_place f) (free_place f') = λ i. free_place (ℕ_set _ _ f f' i)
GoodPlace-prop m t u k (free_place f) (open_place o few g) = absurd (omega (arith, f, o))
GoodPlace-prop m t u k (open_place o few g) (free_place f) = absurd (omega (arith, f, o))
GoodPlace-prop m t u k (open_place o few g) (open_place o' few' g') =
    λ i. open_place (ℕ_set _ _ o o' i) (le_prop few few' i) (GoodBooking-prop m (booking_at t u k) g g' i)

pub IsBook-prop : (m : ℕ) (t u : List ℕ) → IsProp (IsBook m t u)
IsBook-prop m t u x y = λ i. record {
  places_lent = le_prop x.places_lent y.places_lent i;
  chains_lent = le_prop x.chains_lent y.chains_lent i;
  places_good = (let all : IsProp ((k : ℕ) → k < most_places → GoodPlace m t u k) = Π_prop λ k. Π_prop λ _. GoodPlace-prop m t u k in all) x.places_good y.places_good i;
}
