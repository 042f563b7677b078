-- What the bookings of some places use of a contact, place by place.
--     used_more, used_last      one place more, at the front and at the end
--     taken_most, used_most     how much one place, and n places, use at the most
-- Assumes nothing.
use mathlib.Core.Bool.{Bool, true, false, cond}
use mathlib.Core.List.{List, ◌∷◌}
use mathlib.Core.Path.{◌≡◌, refl, sym, ap, ◌∙◌}
use Prim.Native.Nat.{ℕ, zero, suc, ◌+◌, ◌*◌, ◌≤◌, ◌<◌}
use native.Mathlib.Nat.{add-zero}
use native.Mathlib.Omega.{arith}
use lib.Dec.{eqb}
use Rattle.units.specs.Limits.{most_consumption}
use Rattle.book.specs.Book.{taken, used}
use Rattle.book.specs.Model.{taken_at}
use Rattle.book.specs.Tables.{open_mark, mark_at, booking_at, bookings_from, GoodPlace, free_place, open_place}
use Rattle.book.proofs.TakenLaws.{taken_amount}

module _ (t u : List ℕ) (class c : ℕ) where
  pub used_more : (k n : ℕ) → used (bookings_from t u k (suc n)) class c ≡ taken_at t u k class c + used (bookings_from t u (suc k) n) class c
  unfolding used bookings_from taken_at
  used_more k n = go (eqb (mark_at t k) open_mark)
    where
      go : (b : Bool) → used (cond b (booking_at t u k ∷ bookings_from t u (suc k) n) (bookings_from t u (suc k) n)) class c
          ≡ cond b (taken (booking_at t u k) class c) 0 + used (bookings_from t u (suc k) n) class c
      go true = refl
      go false = omega arith

  pub used_last : (k n : ℕ) → used (bookings_from t u k (suc n)) class c ≡ used (bookings_from t u k n) class c + taken_at t u (k + n) class c
  unfolding used bookings_from
  used_last k zero = used_more k zero ∙ ap (λ (i : ℕ). taken_at t u i class c + 0) (sym (add-zero k)) ∙ swapped (taken_at t u (k + 0) class c)
    where
      swapped : (a : ℕ) → a + 0 ≡ 0 + a
      swapped a = omega arith
  used_last k (suc n) =
      let e : suc k + n ≡ k + suc n = omega arith in
      let there = ap (λ (i : ℕ). taken_at t u i class c) e in
      let rest = used_last (suc k) n in
      omega (arith, used_more k (suc n), used_more k n, rest, there)

pub taken_most : (m : ℕ) (t u : List ℕ) (k class c : ℕ) → GoodPlace m t u k → taken_at t u k class c ≤ most_consumption
unfolding taken_at
taken_most m t u k class c (free_place f) = rw f (omega arith)
taken_most m t u k class c (open_place o few g) = rw o (omega (arith, taken_amount (booking_at t u k) class c, g.consumption_most))

module _ (m : ℕ) (t u : List ℕ) (class c : ℕ) where
  pub used_most : (k n : ℕ) → ((i : ℕ) → i < k + n → GoodPlace m t u i) → used (bookings_from t u k n) class c ≤ n * most_consumption
  unfolding used bookings_from most_consumption
  used_most k zero good = omega arith
  used_most k (suc n) good =
      omega
      (arith, used_more t u class c k n, taken_most m t u k class c (good k (omega arith)), used_most (suc k) n (λ i h. good i (omega arith)))
