-- What a book uses of its contacts.
--     used_none                    no booking uses anything
--     used_class                   a higher class has at least as much left
--     used_bounded                 how much a good book uses at the most
--     empty_book                   where every place is free there is no booking
-- Assumes nothing.
use mathlib.Core.List.{List, [], ◌∷◌}
use mathlib.Core.Path.{◌≡◌, refl}
use Prim.Native.Nat.{ℕ, zero, suc, ◌+◌, ◌*◌, ◌≤◌, ◌<◌}
use native.Mathlib.Omega.{arith}
use Rattle.units.specs.Limits.{most_consumption, most_places}
use Rattle.book.specs.Book.{Booking, used}
use Rattle.book.specs.Tables.{free_mark, mark_at, bookings_from, book_of, IsBook}
use Rattle.book.proofs.TakenLaws.{taken_class}
use Rattle.book.proofs.UsesLaws.{used_most}

pub used_none : (class c : ℕ) → used [] class c ≡ 0
unfolding used
used_none class c = refl

pub used_class : (bs : List Booking) (class class' c : ℕ) → class ≤ class' → used bs class' c ≤ used bs class c
unfolding used
used_class [] class class' c h = omega arith
used_class (b ∷ bs) class class' c h = omega (arith, taken_class b class class' c h, used_class bs class class' c h)

pub used_bounded : (m : ℕ) (t u : List ℕ) → IsBook m t u → (class c : ℕ) → used (book_of t u) class c ≤ most_places * most_consumption
unfolding book_of
used_bounded m t u book class c = used_most m t u class c 0 most_places (λ i h. book.places_good i (omega arith))

free_places : (t u : List ℕ) (k n : ℕ) → ((i : ℕ) → i < k + n → mark_at t i ≡ free_mark) → bookings_from t u k n ≡ []
unfolding bookings_from
free_places t u k zero free = refl
free_places t u k (suc n) free = rw (free k (omega arith)) (free_places t u (suc k) n (λ i h. free i (omega arith)))

pub empty_book : (t u : List ℕ) → ((k : ℕ) → k < most_places → mark_at t k ≡ free_mark) → book_of t u ≡ []
unfolding book_of
empty_book t u free = free_places t u 0 most_places (λ i h. free i (omega arith))
