-- Times that may be never: the order `NotLater`, the limit `Within`, and the earlier of two.
--     not_later_refl, not_later_trans, not_later_antisym      NotLater is an order, and between times it is ≤ (not_later_times)
--     not_later_within                    what is no later than something in time is in time
--     not_later_at, within_at             what is no later than a time, or below a limit, is a time
--     earlier_left, earlier_right         the earlier of two is no later than either
--     earlier_either                      the earlier of two is one of the two
--     earlier_kept                        and the first, where that is no later than the second
-- Assumes nothing.
use mathlib.Core.Path.{◌≡◌, refl, ap}
use mathlib.Core.Logic.{◌⊎◌, inl, inr}
use Prim.Native.Nat.{ℕ, ◌≤◌, ◌<◌, min}
use native.Mathlib.Nat.{le_refl, le_trans, le_antisymm, le_of_lt, lt_of_le_of_lt, lt_of_not-le, min-le_left, min-le_right, min-eq_left, min-eq_right}
use native.Mathlib.Decide.{dec_le}
use Rattle.network.specs.Network.{When, at, never, NotLater, both, last, Within, within}
use Rattle.network.specs.Model.{earlier}

pub not_later_refl : (a : When) → NotLater a a
not_later_refl (at t) = both (le_refl t)
not_later_refl never = last

pub not_later_trans : {a b c : When} → NotLater a b → NotLater b c → NotLater a c
not_later_trans (both h) (both k) = both (le_trans h k)
not_later_trans (both h) last = last
not_later_trans last last = last

pub not_later_antisym : {a b : When} → NotLater a b → NotLater b a → a ≡ b
not_later_antisym (both h) (both k) = ap at (le_antisymm h k)
not_later_antisym last last = refl

pub not_later_within : {a b : When} {limit : ℕ} → NotLater a b → Within b limit → Within a limit
not_later_within (both h) (within k) = within (lt_of_le_of_lt h k)
not_later_within {a = a} {limit = limit} last x4 = elim x4 [ ]

pub earlier_left : (a b : When) → NotLater (earlier a b) a
unfolding earlier
earlier_left (at s) (at t) = both (min-le_left s t)
earlier_left (at s) never = not_later_refl (at s)
earlier_left never b = last

pub earlier_right : (a b : When) → NotLater (earlier a b) b
unfolding earlier
earlier_right (at s) (at t) = both (min-le_right s t)
earlier_right (at s) never = last
earlier_right never b = not_later_refl b

pub earlier_either : (a b : When) → (earlier a b ≡ a) ⊎ (earlier a b ≡ b)
unfolding earlier
earlier_either (at s) (at t) = go (dec_le s t)
  where
    go : Dec (s ≤ t) → (at (min s t) ≡ at s) ⊎ (at (min s t) ≡ at t)
    go (yes h) = inl (ap at (min-eq_left h))
    go (no h) = inr (ap at (min-eq_right (le_of_lt (lt_of_not-le h))))
earlier_either (at s) never = inl refl
earlier_either never b = inr refl

pub earlier_kept : {a b : When} → NotLater a b → earlier a b ≡ a
unfolding earlier
earlier_kept (both h) = ap at (min-eq_left h)
earlier_kept {a = at s} last = refl
earlier_kept {a = never} last = refl

pub not_later_times : {s t : ℕ} → NotLater (at s) (at t) → s ≤ t
not_later_times (both h) = h

-- what is no later than a time is a time
pub not_later_at : {a : When} {t : ℕ} → NotLater a (at t) → (s : ℕ) × (a ≡ at s) × (s ≤ t)
not_later_at (both {s = s} h) = (s, refl, h)

-- what is below a limit is a time
pub within_at : {a : When} {limit : ℕ} → Within a limit → (t : ℕ) × (a ≡ at t) × (t < limit)
within_at (within {t = t} h) = (t, refl, h)
