-- A good book stays good, and what its bookings use moves by the one booking.
--     by_place                      what holds of one place and of every other holds of each
--     entered_book, freed_book      it is good with a good booking entered in a place, and with a place freed
--     used_entered, used_freed      a booking in a free place adds what it takes, and an open place that is freed takes its own away
-- Assumes nothing.
use mathlib.Core.Bool.{Bool, true, false}
use mathlib.Core.List.{List}
use mathlib.Core.Logic.{⊎_elim}
use mathlib.Core.Path.{◌≡◌, refl, sym, ap, ◌∙◌, subst}
use Prim.Native.Nat.{ℕ, zero, suc, ◌+◌, ◌≤◌, ◌<◌}
use native.Mathlib.Nat.{eq-or-lt_of_le}
use native.Mathlib.Omega.{arith}
use borrow.Author.Tests.{eqb-true, eqb-false}
use lib.Dec.{eqb}
use Rattle.units.specs.Limits.{most_places}
use Rattle.book.specs.Book.{Booking, taken, used, GoodBooking}
use Rattle.book.specs.Model.{taken_at}
use Rattle.book.specs.Tables.{free_mark, open_mark, mark_at, booking_at, bookings_from, book_of, GoodPlace, free_place, open_place, IsBook}
use Rattle.book.proofs.PlaceLaws.{booking_few, place_there}
use Rattle.book.proofs.UsesLaws.{used_more}
use Rattle.book_keeping.specs.Keeping.{entered, entered_chain, freed}
use Rattle.book_keeping.proofs.SamePlace.{SamePlace, same_good, same_seen, entered_long, numbers_long, entered_open, entered_booking, entered_other, freed_long, freed_free, freed_other}

pub by_place : (P : ℕ → Type 0) (k j : ℕ) → P k → ((j ≡ k → ⊥) → P j) → P j
by_place P k j at other = go (eqb j k) refl
  where
    go : (x : Bool) → eqb j k ≡ x → P j
    go true e = subst P (sym (eqb-true j k e)) at
    go false e = other (eqb-false j k e)

module _ (t u : List ℕ) (k class c : ℕ) where
  taken_free : mark_at t k ≡ free_mark → taken_at t u k class c ≡ 0
  unfolding taken_at
  taken_free e = rw e

  taken_open : mark_at t k ≡ open_mark → taken_at t u k class c ≡ taken (booking_at t u k) class c
  unfolding taken_at
  taken_open e = rw e

-- two books
module _ (t u t' u' : List ℕ) (class c : ℕ) where
  taken_same : (j : ℕ) → SamePlace t u t' u' j → taken_at t' u' j class c ≡ taken_at t u j class c
  unfolding taken_at
  taken_same j same = same_seen t u t' u' j same (λ b. taken b class c) 0

  used_same : (i n : ℕ) → ((j : ℕ) → i ≤ j → j < i + n → SamePlace t u t' u' j) → used (bookings_from t' u' i n) class c ≡ used (bookings_from t u i n) class c
  unfolding bookings_from
  used_same i zero same = refl
  used_same i (suc n) same =
      let rest = used_same (suc i) n (λ j l h. same j (omega arith) (omega arith)) in
      omega (arith, used_more t u class c i n, used_more t' u' class c i n, taken_same i (same i (omega arith) (omega arith)), rest)

  -- they differ in place k at the most
  used_moves : (k i n : ℕ) → i ≤ k → k < i + n → ((j : ℕ) → j < i + n → (j ≡ k → ⊥) → SamePlace t u t' u' j)
      → used (bookings_from t' u' i n) class c + taken_at t u k class c ≡ used (bookings_from t u i n) class c + taken_at t' u' k class c
  used_moves k i zero l h same = absurd (omega arith)
  used_moves k i (suc n) l h same =
      let all = used_more t u class c i n in
      let all' = used_more t' u' class c i n in
      ⊎_elim
      (λ e.
      let rest = used_same (suc i) n (λ j above below. same j (omega arith) (λ at. omega arith)) in
      let here = ap (λ (j : ℕ). taken_at t u j class c) e in
      let here' = ap (λ (j : ℕ). taken_at t' u' j class c) e in
      omega (arith, all, all', rest, here, here'))
      (λ below.
      let rest = used_moves k (suc i) n below (omega arith) (λ j under. same j (omega arith)) in
      let here = taken_same i (same i (omega arith) (λ at. omega arith)) in
      omega (arith, all, all', rest, here))
      (eq-or-lt_of_le l)

module _ (m : ℕ) (t u : List ℕ) (book : IsBook m t u) (k : ℕ) (inside : k < most_places) where
  module _ (b : Booking) (good : GoodBooking m b) where
    pub entered_book : IsBook m (entered t k b) (entered_chain u k b.chain)
    entered_book = record {
      places_lent = rw (entered_long m t u book k inside b good) book.places_lent;
      chains_lent = rw (numbers_long m t u book k inside b good) book.chains_lent;
      places_good = λ j h.
          by_place (GoodPlace m (entered t k b) (entered_chain u k b.chain)) k j
          (let there = subst (GoodBooking m) (sym (entered_booking m t u book k inside b good)) good in
          open_place (entered_open m t u book k inside b good) (booking_few m (entered t k b) (entered_chain u k b.chain) k there) there)
          (λ other.
          same_good t u (entered t k b) (entered_chain u k b.chain) j (entered_other m t u book k inside b good j h other) m (book.places_good j h));
    }

    pub used_entered : mark_at t k ≡ free_mark → (class c : ℕ)
        → used (book_of (entered t k b) (entered_chain u k b.chain)) class c ≡ taken b class c + used (book_of t u) class c
    unfolding book_of
    used_entered free class c =
        let t' = entered t k b in
        let u' = entered_chain u k b.chain in
        let moves =
        used_moves t u t' u' class c k 0 most_places (omega arith) (omega arith) (λ j h other. entered_other m t u book k inside b good j (omega arith) other) in
        let here = taken_free t u k class c free in
        let here' : taken_at t' u' k class c ≡ taken b class c =
        taken_open t' u' k class c (entered_open m t u book k inside b good) ∙ ap (λ (x : Booking). taken x class c) (entered_booking m t u book k inside b good) in
        omega (arith, moves, here, here')

  pub freed_book : IsBook m (freed t k) u
  freed_book =
      let there = place_there m t u book k inside in
      record {
        places_lent = rw (freed_long t k there) book.places_lent;
        chains_lent = book.chains_lent;
        places_good = λ j h.
            by_place (GoodPlace m (freed t k) u) k j (free_place (freed_free t k there))
            (λ other. same_good t u (freed t k) u j (freed_other t k there u j other) m (book.places_good j h));
      }

  pub used_freed : mark_at t k ≡ open_mark → (class c : ℕ) → used (book_of t u) class c ≡ taken (booking_at t u k) class c + used (book_of (freed t k) u) class c
  unfolding book_of
  used_freed booked class c =
      let there = place_there m t u book k inside in
      let moves = used_moves t u (freed t k) u class c k 0 most_places (omega arith) (omega arith) (λ j h other. freed_other t k there u j other) in
      let here = taken_open t u k class c booked in
      let here' = taken_free (freed t k) u k class c (freed_free t k there) in
      omega (arith, moves, here, here')
