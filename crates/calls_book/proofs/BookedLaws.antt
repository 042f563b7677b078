-- What a booking and a release do to the book, in the request's words, read back from the tables that the calls leave.
--     placed_place         the place answered is the lowest free one: it was free, and every lower one is open
--     placed_holds         it then holds the class, the consumption of the file's size and the chain answered
--     placed_others        every other place holds what it held
--     booked_own           the booking counts in its own class and lower ones with that consumption, once, on each contact of the chain
--     booked_higher, booked_elsewhere      and not in higher ones, nor on other contacts
--     full_all_open        25 is told only where every place is open
--     released_place, released_others, released_use      a release frees the place and its volume, and nothing else
-- Assumes nothing.
use mathlib.Core.List.{List}
use mathlib.Core.Path.{◌≡◌, refl, ap, ◌∙◌}
use Prim.Native.Nat.{ℕ, suc, ◌+◌, ◌-◌, ◌≤◌, ◌<◌}
use native.Mathlib.Omega.{arith}
use lib.ListN.{take}
use Rattle.std.specs.Prelude.{Result, Ok, Err}
use Rattle.units.specs.Limits.{most_places}
use Rattle.units.specs.declared.Ask.{Ask}
use Rattle.units.specs.declared.Refusal.{Refusal}
use Rattle.units.specs.declared.Refusal.TheVariants.{FullBook}
use Rattle.book.specs.Book.{Booking, taken, used}
use Rattle.book.specs.Tables.{free_mark, open_mark, mark_at, booking_at, book_of, GoodPlace, free_place, open_place}
use Rattle.book.proofs.PlaceLaws.{place_there}
use Rattle.book.proofs.TakenLaws.{StandsIn, taken_own, taken_higher, taken_elsewhere}
use Rattle.book_keeping.proofs.CallLaws.{all_open}
use Rattle.book_keeping.proofs.KeepLaws.{used_entered, used_freed}
use Rattle.book_keeping.proofs.SamePlace.{SamePlace, entered_open, entered_booking, entered_other, freed_free, freed_other}
use Rattle.timing.specs.Hop.{consumed}
use Rattle.search.specs.Route.{no_chain, too_late, best}
use Rattle.search.specs.declared.answer.Best.{Best}
use Rattle.calls.specs.Checks.{Checked, no_plan, no_book, bad_ask, bad_class, same_node}
use Rattle.calls.specs.Calls.{RoutesBooked, short_chain, routed}
use Rattle.calls.specs.Calls as Booked
use Rattle.calls_book.specs.Placing.{booking_of, BooksRoute, not_routed, full, placed, Releases, released}
use Rattle.calls_book.specs.declared.answers.Placed.{Placed}
use Rattle.calls_book.proofs.ChosenLaws.{chosen_good, chosen_booking}

-- place k, counted from 0, is open and holds a booking of that class, consumption and chain
pub record Holds (t u : List ℕ) (k class consumption : ℕ) (chain : List ℕ) : Type 0 where
  pub is_open : mark_at t k ≡ open_mark
  pub its_class : (booking_at t u k).class ≡ class
  pub its_consumption : (booking_at t u k).consumption ≡ consumption
  pub its_chain : (booking_at t u k).chain ≡ chain

-- the place, counted from 1, is the lowest free one
pub record LowestFree (t : List ℕ) (place : ℕ) : Type 0 where
  pub least : 1 ≤ place
  pub most : place ≤ most_places
  pub was_free : mark_at t (place - 1) ≡ free_mark
  pub lower_open : (j : ℕ) → j < place - 1 → mark_at t j ≡ open_mark

back : (k : ℕ) → suc k - 1 ≡ k
back k = omega arith

-- the checks do not tell 25
module _ {contacts : List ℕ} {m : ℕ} {ranges : List ℕ} {n : ℕ} {t u : List ℕ} {ask : Ask} {class : ℕ} where
  never_checked : {why : Refusal} → Checked contacts m ranges n t u ask class (Err why) → why ≡ FullBook → ⊥
  never_checked (no_plan f) e = let z : ◌≡◌ {A = ℕ} 0 1 = cc in omega arith
  never_checked (no_book p f) e = let z : ◌≡◌ {A = ℕ} 0 1 = cc in omega arith
  never_checked (bad_ask p b f) e = let z : ◌≡◌ {A = ℕ} 0 1 = cc in omega arith
  never_checked (bad_class p b a f) e = let z : ◌≡◌ {A = ℕ} 0 1 = cc in omega arith
  never_checked (same_node p b a c s) e = let z : ◌≡◌ {A = ℕ} 0 1 = cc in omega arith

module _ {contacts : List ℕ} {m : ℕ} {ranges : List ℕ} {n : ℕ} {t u : List ℕ} {ask : Ask} {class : ℕ} {before : List ℕ} where
  pub placed_place : {p : Placed} {t' u' after : List ℕ}
      → BooksRoute contacts m ranges n t u ask class before (Ok p) t' u' after → LowestFree t p.place
  placed_place (placed {k} r low) = record {
    least = omega arith;
    most = low.inside;
    was_free = rw (back k) low.is_free;
    lower_open = λ j h. lower j (omega (arith, back k));
  }
    where
      lower : (j : ℕ) → j < k → mark_at t j ≡ open_mark
      lower j h = go ((chosen_good r).its_book.places_good j (omega (arith, low.inside)))
        where
          go : GoodPlace m t u j → mark_at t j ≡ open_mark
          go (free_place f) = absurd (low.none_lower j h f)
          go (open_place o few g) = o

  pub placed_holds : {p : Placed} {t' u' after : List ℕ}
      → BooksRoute contacts m ranges n t u ask class before (Ok p) t' u' after
      → Holds t' u' (p.place - 1) class (consumed ask.size) (take p.count after)
  placed_holds (placed {b} {k} {after} r low) =
      let booking = booking_of ask class (take b.count after) in
      let there = entered_booking m t u (chosen_good r).its_book k low.inside booking (chosen_booking r) in
      rw (back k) (record {
        is_open = entered_open m t u (chosen_good r).its_book k low.inside booking (chosen_booking r);
        its_class = ap (λ (x : Booking). x.class) there;
        its_consumption = ap (λ (x : Booking). x.consumption) there;
        its_chain = ap (λ (x : Booking). x.chain) there;
      })

  pub placed_others : {p : Placed} {t' u' after : List ℕ}
      → BooksRoute contacts m ranges n t u ask class before (Ok p) t' u' after
      → (j : ℕ) → j < most_places → (j ≡ p.place - 1 → ⊥) → SamePlace t u t' u' j
  placed_others (placed {b} {k} {after} r low) j h other =
      entered_other m t u (chosen_good r).its_book k low.inside (booking_of ask class (take b.count after)) (chosen_booking r) j h (λ e. other (e ∙ there))
    where
      there : k ≡ suc k - 1
      there = omega arith

  -- what is used of a contact once the route is booked
  booked_adds : {p : Placed} {t' u' after : List ℕ}
      → BooksRoute contacts m ranges n t u ask class before (Ok p) t' u' after → (l c : ℕ)
      → used (book_of t' u') l c ≡ taken (booking_of ask class (take p.count after)) l c + used (book_of t u) l c
  booked_adds (placed {b} {k} {after} r low) l c =
      used_entered m t u (chosen_good r).its_book k low.inside (booking_of ask class (take b.count after)) (chosen_booking r) low.is_free l c

  pub booked_own : {p : Placed} {t' u' after : List ℕ}
      → BooksRoute contacts m ranges n t u ask class before (Ok p) t' u' after → (l c : ℕ) → l ≤ class → StandsIn (take p.count after) c
      → used (book_of t' u') l c ≡ consumed ask.size + used (book_of t u) l c
  booked_own {p} {after} b l c h s =
      booked_adds b l c ∙ ap (λ (x : ℕ). x + used (book_of t u) l c) (taken_own (booking_of ask class (take p.count after)) l c h s)

  pub booked_higher : {p : Placed} {t' u' after : List ℕ}
      → BooksRoute contacts m ranges n t u ask class before (Ok p) t' u' after → (l c : ℕ) → class < l
      → used (book_of t' u') l c ≡ used (book_of t u) l c
  booked_higher {p} {after} b l c h = omega (arith, booked_adds b l c, taken_higher (booking_of ask class (take p.count after)) l c h)

  pub booked_elsewhere : {p : Placed} {t' u' after : List ℕ}
      → BooksRoute contacts m ranges n t u ask class before (Ok p) t' u' after → (l c : ℕ) → (StandsIn (take p.count after) c → ⊥)
      → used (book_of t' u') l c ≡ used (book_of t u) l c
  booked_elsewhere {p} {after} b l c n = omega (arith, booked_adds b l c, taken_elsewhere (booking_of ask class (take p.count after)) l c n)

  -- and route does not
  never_full : {r : Result Best Refusal} {after : List ℕ} → RoutesBooked contacts m ranges n t u ask class before r after → r ≡ Err FullBook → ⊥
  never_full (short_chain h) e = let z : ◌≡◌ {A = ℕ} 0 1 = cc in omega arith
  never_full (Booked.not_routed l c) e = never_checked c cc
  never_full (routed l c (no_chain f)) e = let z : ◌≡◌ {A = ℕ} 0 1 = cc in omega arith
  never_full (routed l c (too_late a f)) e = let z : ◌≡◌ {A = ℕ} 0 1 = cc in omega arith
  never_full (routed l c (best b f)) e = let z : ◌≡◌ {A = ℕ} 0 1 = cc in omega arith

  pub full_all_open : {t' u' after : List ℕ} → BooksRoute contacts m ranges n t u ask class before (Err FullBook) t' u' after
      → (j : ℕ) → j < most_places → mark_at t j ≡ open_mark
  full_all_open (not_routed r) = absurd (never_full r refl)
  full_all_open (full r all) = all_open m t u (chosen_good r).its_book all

-- ---- a release

module _ {contacts : List ℕ} {m : ℕ} {ranges : List ℕ} {n : ℕ} {t u : List ℕ} {place : ℕ} {t' : List ℕ}
    (r : Releases contacts m ranges n t u place (Ok tt) t') where
  pub released_place : (mark_at t (place - 1) ≡ open_mark) × (mark_at t' (place - 1) ≡ free_mark)
  released_place = go r
    where
      go : {s : List ℕ} → Releases contacts m ranges n t u place (Ok tt) s → (mark_at t (place - 1) ≡ open_mark) × (mark_at s (place - 1) ≡ free_mark)
      go (released p b o) = (o.is_open, freed_free t (place - 1) (place_there m t u b (place - 1) (omega (arith, o.least, o.most))))

  pub released_others : (j : ℕ) → (j ≡ place - 1 → ⊥) → SamePlace t u t' u j
  released_others j other = go r
    where
      go : {s : List ℕ} → Releases contacts m ranges n t u place (Ok tt) s → SamePlace t u s u j
      go (released p b o) = freed_other t (place - 1) (place_there m t u b (place - 1) (omega (arith, o.least, o.most))) u j other

  pub released_use : (l c : ℕ) → used (book_of t u) l c ≡ taken (booking_at t u (place - 1)) l c + used (book_of t' u) l c
  released_use l c = go r
    where
      go : {s : List ℕ} → Releases contacts m ranges n t u place (Ok tt) s
          → used (book_of t u) l c ≡ taken (booking_at t u (place - 1)) l c + used (book_of s u) l c
      go (released p b o) = used_freed m t u b (place - 1) (omega (arith, o.least, o.most)) o.is_open l c
