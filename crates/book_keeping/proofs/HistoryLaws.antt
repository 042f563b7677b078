-- A book and its history agree.
--     zeros_kept     tables of zeros are an empty book, with no history
--     kept_book      a history leads to a good book
--     kept_held      what stands in a place is the booking that it holds: one where it is open, none where it is free
--     kept_inside    nothing stands behind the last place
--     kept_use       what the open bookings use is what was booked and not released, counted from the history
-- Assumes nothing.
use mathlib.Core.Bool.{cond}
use mathlib.Core.List.{List, [], ◌∷◌}
use mathlib.Core.Path.{◌≡◌, refl, sym, ap, ◌∙◌}
use Prim.Native.Nat.{ℕ, ◌+◌, ◌*◌, ◌≤◌, ◌<◌}
use native.Mathlib.Omega.{arith}
use borrow.Author.Tests.{eq-eqb, ne_eqb}
use lib.Dec.{eqb}
use lib.ListN.{replicate, length-replicate, get_or-replicate}
use Rattle.units.specs.Limits.{most_chain, most_places}
use Rattle.book.specs.Book.{Booking, taken, used}
use Rattle.book.specs.Tables.{place_words, free_mark, open_mark, mark_at, booking_at, book_of, free_place, IsBook}
use Rattle.book.proofs.BookLaws.{empty_book}
use Rattle.book.proofs.PlaceLaws.{place_there}
use Rattle.book_keeping.specs.History.{Standing, without, standing_use, Kept, empty, booked, released}
use Rattle.book_keeping.specs.Keeping.{entered, entered_chain, freed}
use Rattle.book_keeping.proofs.KeepLaws.{by_place, entered_book, freed_book, used_entered, used_freed}
use Rattle.book_keeping.proofs.SamePlace.{SamePlace, same_seen, entered_open, entered_booking, entered_other, freed_free, freed_other}
use Rattle.book_keeping.proofs.StandingLaws.{standing_at, without_there, without_other, use_split}

pub kept_book : {m : ℕ} {t u : List ℕ} {ss : List Standing} → Kept m t u ss → IsBook m t u
kept_book (empty book free) = book
kept_book {m} (booked {t} {u} k b kept low good) = entered_book m t u (kept_book kept) k low.inside b good
kept_book {m} (released {t} {u} k kept inside is) = freed_book m t u (kept_book kept) k inside

-- the booking that a place holds, if it is open
unfoldable pub held_at : List ℕ → List ℕ → ℕ → List Booking
held_at t u k = cond (eqb (mark_at t k) open_mark) (booking_at t u k ∷ []) []

module _ (t u : List ℕ) (k : ℕ) where
  held_free : mark_at t k ≡ free_mark → held_at t u k ≡ []
  unfolding held_at
  held_free e = rw e

  held_open : mark_at t k ≡ open_mark → held_at t u k ≡ booking_at t u k ∷ []
  unfolding held_at
  held_open e = rw e

  held_same : (t' u' : List ℕ) → SamePlace t u t' u' k → held_at t u k ≡ held_at t' u' k
  unfolding held_at
  held_same t' u' same = sym (same_seen t u t' u' k same (λ b. b ∷ []) [])

pub kept_held : {m : ℕ} {t u : List ℕ} {ss : List Standing} → Kept m t u ss → (j : ℕ) → j < most_places → standing_at j ss ≡ held_at t u j
unfolding standing_at
kept_held (empty {t} {u} book free) j h = sym (held_free t u j (free j h))
kept_held {m} (booked {t} {u} {ss} k b kept low good) j h =
    let t' = entered t k b in
    let u' = entered_chain u k b.chain in
    let book = kept_book kept in
    by_place (λ i. standing_at i (record { place = k; booking = b } ∷ ss) ≡ held_at t' u' i) k j
    (rw (eq-eqb k k refl, kept_held kept k low.inside, held_free t u k low.is_free)
    (sym
    (held_open t' u' k (entered_open m t u book k low.inside b good) ∙ ap (λ (x : Booking). x ∷ []) (entered_booking m t u book k low.inside b good))))
    (λ other.
    rw (ne_eqb k j (λ e. other (sym e)), kept_held kept j h) (held_same t u j t' u' (entered_other m t u book k low.inside b good j h other)))
kept_held {m} (released {t} {u} {ss} k kept inside is) j h =
    let there = place_there m t u (kept_book kept) k inside in
    by_place (λ i. standing_at i (without k ss) ≡ held_at (freed t k) u i) k j
    (without_there k ss ∙ sym (held_free (freed t k) u k (freed_free t k there)))
    (λ other. without_other j k ss other ∙ kept_held kept j h ∙ held_same t u j (freed t k) u (freed_other t k there u j other))

pub kept_inside : {m : ℕ} {t u : List ℕ} {ss : List Standing} → Kept m t u ss → (j : ℕ) → most_places ≤ j → standing_at j ss ≡ []
unfolding standing_at
kept_inside (empty book free) j h = refl
kept_inside (booked k b kept low good) j h = rw (ne_eqb k j (λ e. omega (arith, low.inside))) (kept_inside kept j h)
kept_inside (released {ss} k kept inside is) j h = without_other j k ss (λ e. omega arith) ∙ kept_inside kept j h

pub kept_use : {m : ℕ} {t u : List ℕ} {ss : List Standing} → Kept m t u ss → (class c : ℕ) → used (book_of t u) class c ≡ standing_use ss class c
unfolding standing_use used
kept_use (empty {t} {u} book free) class c = rw (empty_book t u free)
kept_use {m} (booked {t} {u} k b kept low good) class c =
    omega (arith, used_entered m t u (kept_book kept) k low.inside b good low.is_free class c, kept_use kept class c)
kept_use {m} (released {t} {u} {ss} k kept inside is) class c =
    let there : used (standing_at k ss) class c ≡ taken (booking_at t u k) class c + 0 =
    ap (λ (bs : List Booking). used bs class c) (kept_held kept k inside ∙ held_open t u k is) in
    omega (arith, used_freed m t u (kept_book kept) k inside is class c, kept_use kept class c, use_split k ss class c, there)

pub zeros_kept : (m n p : ℕ) → most_places * place_words ≤ n → most_places * most_chain ≤ p → Kept m (replicate n 0) (replicate p 0) []
unfolding most_places
zeros_kept m n p places chains =
    let free : (k : ℕ) → k < most_places → mark_at (replicate n 0) k ≡ free_mark = λ k h. get_or-replicate n (k * place_words) 0 0 (omega arith) in
    let book : IsBook m (replicate n 0) (replicate p 0) = record {
      places_lent = rw (length-replicate {A = ℕ} n 0) places;
      chains_lent = rw (length-replicate {A = ℕ} p 0) chains;
      places_good = λ k h. free_place (free k h);
    } in
    empty book free
