-- What the code knows that takes the bookings of all places from what is left on the contacts.
--     booking_lower, booking_taken             what a booking takes: nothing where its class is lower, else from its chain
--     place_closed, place_open                 what a place takes: nothing where it is not open, else what its booking takes
--     places_none, places_more, places_all     what no place takes, one place more, and all of them
--     place_fits, place_read              each contact of an open place has a word, and its chain is no longer than a chain can be
-- Assumes nothing.
use mathlib.Core.Bool.{false}
use mathlib.Core.List.{List}
use mathlib.Core.Path.{◌≡◌, refl, sym, ap, ◌∙◌}
use Prim.Native.Nat.{ℕ, suc, ◌+◌, ◌-◌, ◌≤◌, ◌<◌}
use native.Mathlib.Nat.{sub-zero, zero-add}
use native.Mathlib.Numerals.{add-one}
use native.Mathlib.Omega.{arith}
use borrow.Author.Tests.{le-leb, lt-leb, ne_eqb}
use lib.Dec.{leb}
use lib.ListN.{length, get_or}
use Rattle.units.specs.Limits.{most_chain, most_places}
use Rattle.plan.specs.Plan.{Each}
use Rattle.plan.proofs.Verdicts.{tells_le, false_fails}
use Rattle.book.specs.Book.{Booking, taken, used}
use Rattle.book.specs.Model.{HasWord, Spent, once, taken_at}
use Rattle.book.specs.Tables.{open_mark, mark_at, count_at, booking_at, bookings_from, book_of, IsBook}
use Rattle.book.proofs.UsesLaws.{used_last}
use Rattle.book.proofs.PlaceLaws.{booking_few, booking_of_lem}

-- ---- one place

-- what is taken is the same
spent_as : (f g : ℕ → ℕ) (before after : List ℕ) → ((c : ℕ) → f c ≡ g c) → Spent f before after → Spent g before after
spent_as f g before after same spent = record {
  same_length = spent.same_length;
  lefts = λ i h. spent.lefts i h ∙ ap (λ (n : ℕ). get_or before i 0 - n) (same (suc i));
}

spend_nothing : (f : ℕ → ℕ) (lefts : List ℕ) → ((c : ℕ) → 0 ≡ f c) → Spent f lefts lefts
spend_nothing f lefts none = spent_as (λ c. 0) f lefts lefts none (record { same_length = refl; lefts = λ i h. sym (sub-zero (get_or lefts i 0)) })

-- a booking of a lower class, and of that class or a higher one
module _ (b : Booking) (class : ℕ) (lefts : List ℕ) where
  pub booking_lower : b.class < class → Spent (taken b class) lefts lefts
  unfolding taken
  booking_lower h = spend_nothing (taken b class) lefts (λ c. rw (lt-leb class b.class h))

  pub booking_taken : class ≤ b.class → (after : List ℕ) → Spent (once b.chain b.consumption) lefts after → Spent (taken b class) lefts after
  unfolding taken
  booking_taken h after spent = spent_as (once b.chain b.consumption) (taken b class) lefts after (λ c. rw (le-leb class b.class h)) spent

module _ (t u : List ℕ) (k class : ℕ) (lefts : List ℕ) where
  pub place_closed : (mark_at t k ≡ open_mark → ⊥) → Spent (taken_at t u k class) lefts lefts
  unfolding taken_at
  place_closed shut = spend_nothing (taken_at t u k class) lefts (λ c. rw (ne_eqb (mark_at t k) open_mark shut))

  pub place_open : mark_at t k ≡ open_mark → (after : List ℕ) → Spent (taken (booking_at t u k) class) lefts after → Spent (taken_at t u k class) lefts after
  unfolding taken_at
  place_open e after spent = spent_as (taken (booking_at t u k) class) (taken_at t u k class) lefts after (λ c. rw e) spent

-- ---- all places

module _ (t u : List ℕ) (class : ℕ) (before : List ℕ) where
  pub places_none : Spent (used (bookings_from t u 0 0) class) before before
  unfolding used bookings_from
  places_none = spend_nothing (used (bookings_from t u 0 0) class) before (λ c. refl)

  -- what is taken first and what is taken then are taken together
  pub places_more : (k : ℕ) (now after : List ℕ) → Spent (used (bookings_from t u 0 k) class) before now → Spent (taken_at t u k class) now after
      → Spent (used (bookings_from t u 0 (k + 1)) class) before after
  places_more k now after so_far spent = record {
    same_length = spent.same_length ∙ so_far.same_length;
    lefts = λ i h.
        let inside : i < length now = omega (arith, so_far.same_length) in
        let more : used (bookings_from t u 0 (k + 1)) class (suc i) ≡ used (bookings_from t u 0 k) class (suc i) + taken_at t u k class (suc i) =
        ap (λ (n : ℕ). used (bookings_from t u 0 n) class (suc i)) (add-one k) ∙ used_last t u class (suc i) 0 k
        ∙ ap (λ (j : ℕ). used (bookings_from t u 0 k) class (suc i) + taken_at t u j class (suc i)) (zero-add k) in
        omega (arith, so_far.lefts i h, spent.lefts i inside, more);
  }

  pub places_all : (k : ℕ) (after : List ℕ) → k ≡ most_places → Spent (used (bookings_from t u 0 k) class) before after
      → Spent (used (book_of t u) class) before after
  unfolding book_of
  places_all k after e spent = rw e at spent

pub place_fits : (m : ℕ) (t u : List ℕ) → IsBook m t u → (k : ℕ) → k < most_places → (lefts : List ℕ) → m ≤ length lefts → mark_at t k ≡ open_mark
    → Each (HasWord lefts) (booking_at t u k).chain
unfolding Each
place_fits m t u book k h lefts long e =
    λ blank i l.
    let named = (booking_of_lem m t u k e (book.places_good k h)).named blank i l in
    record { least = named.least; most = omega (arith, named.most, long) }

pub place_read : (m : ℕ) (t u : List ℕ) → IsBook m t u → (k : ℕ) → k < most_places → mark_at t k ≡ open_mark → false ≡ leb (count_at t k) most_chain → ⊥
place_read m t u book k h e long =
    let few = booking_few m t u k (booking_of_lem m t u k e (book.places_good k h)) in
    false_fails (tells_le (count_at t k) most_chain) (sym long) few
