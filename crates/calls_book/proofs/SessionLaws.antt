-- A book after any sequence of calls agrees with what was booked and not released, counted from the answers.
--     session_kept      the calls keep the book: a good booking in the lowest free place, or an open place freed, or nothing
--     session_use       what the open bookings use of a contact is what those use that stand
--     session_left      what is left on a contact is its volume less that, with its sign
--     session_serves    and so a file fits it exactly where its consumption is at most that
--     stands_own        a booking answered counts with the file's consumption, in its class and lower ones, on each contact of its chain
--     stands_higher, stands_elsewhere      and not in higher ones, nor on other contacts
--     leaves_use        one that is released counts no more
--     zeros_session     tables of zeros are an empty book, from which a session begins
-- Assumes nothing.
use mathlib.Core.List.{List, []}
use mathlib.Core.Logic.{◌↔◌}
use mathlib.Core.Path.{◌≡◌, ap, subst}
use Prim.Native.Nat.{ℕ, suc, ◌+◌, ◌-◌, ◌*◌, ◌≤◌, ◌<◌}
use native.Mathlib.Omega.{arith}
use lib.IntN.{ℤ, pos, ◌-ℤ◌}
use lib.ListN.{get_or, replicate, take, get_or-replicate}
use lib.Signed.{◌≤ℤ◌}
use Rattle.std.specs.Prelude.{Result, Ok}
use Rattle.units.specs.Limits.{most_chain, most_places}
use Rattle.units.specs.declared.Ask.{Ask}
use Rattle.units.specs.declared.Refusal.{Refusal}
use Rattle.plan.specs.Tables.{plan_of}
use Rattle.service.specs.Service.{blank, left_in, volume, left_on}
use Rattle.service.proofs.LeftLaws.{left_serves}
use Rattle.book.specs.Book.{taken, used, Named}
use Rattle.book.specs.Tables.{place_words, booking_at, book_of}
use Rattle.book.proofs.TakenLaws.{StandsIn, taken_own, taken_higher, taken_elsewhere}
use Rattle.book_keeping.specs.History.{Standing, standing_use, Kept, empty, booked, released}
use Rattle.book_keeping.proofs.HistoryLaws.{kept_book, kept_use, zeros_kept}
use Rattle.timing.specs.Hop.{consumed}
use Rattle.timing.proofs.Rounding.{consumed_form}
use Rattle.calls.specs.Booked.{with_book}
use Rattle.calls_book.specs.Placing.{booking_of, BooksRoute, Releases, not_routed, full, placed, no_plan, no_book, not_open}
use Rattle.calls_book.specs.Placing as Calls
use Rattle.calls_book.specs.Session.{stands, leaves, Session, begun, then_booked, then_released}
use Rattle.calls_book.specs.declared.answers.Placed.{Placed}
use Rattle.calls_book.proofs.BookedLaws.{released_use}
use Rattle.calls_book.proofs.ChosenLaws.{in_plan_named, chosen_booking}

module _ {contacts : List ℕ} {m : ℕ} {ranges : List ℕ} {n : ℕ} where
  -- a booking, refused or not, keeps the book
  kept_booked : {t u : List ℕ} {ss : List Standing} {ask : Ask} {class : ℕ} {before after : List ℕ} {a : Result Placed Refusal} {t' u' : List ℕ} → Kept m t u ss
      → BooksRoute contacts m ranges n t u ask class before a t' u' after → Kept m t' u' (stands ask class after a ss)
  unfolding stands
  kept_booked kept (not_routed r) = kept
  kept_booked kept (full r all) = kept
  kept_booked {ask} {class} kept (placed {b} {k} {after} r low) =
      let back : suc k - 1 ≡ k = omega arith in
      rw back (booked k (booking_of ask class (take b.count after)) kept low (chosen_booking r))

  -- and so does a release
  kept_released : {t u : List ℕ} {ss : List Standing} {place : ℕ} {a : Result (Unit {0}) Refusal} {t' : List ℕ} → Kept m t u ss
      → Releases contacts m ranges n t u place a t' → Kept m t' u (leaves place a ss)
  unfolding leaves
  kept_released kept (no_plan f) = kept
  kept_released kept (no_book p f) = kept
  kept_released kept (not_open p b f) = kept
  kept_released {place} kept (Calls.released p b o) = released (place - 1) kept (omega (arith, o.least, o.most)) o.is_open

  pub session_kept : {t u : List ℕ} {ss : List Standing} → Session contacts m ranges n t u ss → Kept m t u ss
  session_kept (begun book free) = empty book free
  session_kept (then_booked s b) = kept_booked (session_kept s) b
  session_kept (then_released s r) = kept_released (session_kept s) r

  pub session_use : {t u : List ℕ} {ss : List Standing} → Session contacts m ranges n t u ss → (class c : ℕ)
      → used (book_of t u) class c ≡ standing_use ss class c
  session_use s = kept_use (session_kept s)

  pub session_left : {t u : List ℕ} {ss : List Standing} → Session contacts m ranges n t u ss → (class c : ℕ)
      → left_on (plan_of contacts m ranges n) (used (book_of t u) class) c
      ≡ pos (volume (get_or (plan_of contacts m ranges n).contacts (c - 1) blank)) -ℤ pos (standing_use ss class c)
  session_left s class c = ap (λ (x : ℕ). pos (volume (get_or (plan_of contacts m ranges n).contacts (c - 1) blank)) -ℤ pos x) (session_use s class c)

  pub session_serves : {t u : List ℕ} {ss : List Standing} → Session contacts m ranges n t u ss → (class c size : ℕ) → Named m c → 1 ≤ size
      → (consumed size ≤ left_in (with_book (plan_of contacts m ranges n) (book_of t u) class) c)
      ↔ (pos (consumed size) ≤ℤ (pos (volume (get_or (plan_of contacts m ranges n).contacts (c - 1) blank)) -ℤ pos (standing_use ss class c)))
  session_serves {t} {u} {ss} s class c size named some =
      subst
      (λ (left : ℤ). (consumed size ≤ left_in (with_book (plan_of contacts m ranges n) (book_of t u) class) c) ↔ (pos (consumed size) ≤ℤ left))
      (session_left s class c)
      (left_serves (plan_of contacts m ranges n) (used (book_of t u) class) c ((in_plan_named contacts m ranges n (used (book_of t u) class) c).1 named)
      (consumed size) (omega (arith, consumed_form size)))

  pub leaves_use : {t u : List ℕ} {ss : List Standing} {place : ℕ} {t' : List ℕ} → Session contacts m ranges n t u ss
      → Releases contacts m ranges n t u place (Ok tt) t' → (l c : ℕ)
      → standing_use ss l c ≡ taken (booking_at t u (place - 1)) l c + standing_use (leaves place (Ok tt) ss) l c
  leaves_use s r l c = omega (arith, session_use s l c, released_use r l c, session_use (then_released s r) l c)

-- ---- what stands, counted from the answer of a booking

module _ (ask : Ask) (class : ℕ) (after : List ℕ) (p : Placed) (ss : List Standing) (l c : ℕ) where
  pub stands_own : l ≤ class → StandsIn (take p.count after) c
      → standing_use (stands ask class after (Ok p) ss) l c ≡ consumed ask.size + standing_use ss l c
  unfolding stands standing_use
  stands_own h s = ap (λ (x : ℕ). x + standing_use ss l c) (taken_own (booking_of ask class (take p.count after)) l c h s)

  pub stands_higher : class < l → standing_use (stands ask class after (Ok p) ss) l c ≡ standing_use ss l c
  unfolding stands standing_use
  stands_higher h = omega (arith, taken_higher (booking_of ask class (take p.count after)) l c h)

  pub stands_elsewhere : (StandsIn (take p.count after) c → ⊥) → standing_use (stands ask class after (Ok p) ss) l c ≡ standing_use ss l c
  unfolding stands standing_use
  stands_elsewhere n = omega (arith, taken_elsewhere (booking_of ask class (take p.count after)) l c n)

-- at least so many words and numbers
pub zeros_session : (contacts : List ℕ) (m : ℕ) (ranges : List ℕ) (n words numbers : ℕ) → most_places * place_words ≤ words → most_places * most_chain ≤ numbers
    → Session contacts m ranges n (replicate words 0) (replicate numbers 0) []
zeros_session contacts m ranges n words numbers places chains =
    begun (kept_book (zeros_kept m words numbers places chains))
    (λ k h. get_or-replicate words (k * place_words) 0 0 (omega arith))
