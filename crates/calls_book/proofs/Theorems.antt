-- What the promises of the calls that change a book mean.
--     books_route_determined, releases_determined      no two results meet a promise: answer, tables and lent chain are settled
--     books_route_book, releases_book                  a good book is good with a route booked, and with a place released
--     booked_within                                    right after a booking no contact of its chain is booked beyond its volume, in its class and higher ones
-- Assumes nothing.
use mathlib.Core.Bool.{Bool, true, false}
use mathlib.Core.List.{List}
use mathlib.Core.Path.{◌≡◌, refl, ap}
use Prim.Native.Nat.{ℕ, suc, ◌-◌, ◌≤◌, ◌<◌}
use native.Mathlib.Omega.{arith}
use borrow.Author.Tests.{ltb-true, ltb-false}
use lib.Dec.{ltb}
use lib.ListN.{take}
use Rattle.std.specs.Prelude.{Result, Ok, Err}
use Rattle.units.specs.declared.Ask.{Ask}
use Rattle.units.specs.declared.Refusal.{Refusal}
use Rattle.plan.specs.Tables.{plan_of}
use Rattle.service.specs.Service.{contact_of, volume}
use Rattle.service.proofs.ServiceLaws.{left_exactly, service_left}
use Rattle.book.specs.Book.{names, used}
use Rattle.book.specs.Tables.{IsBook, book_of}
use Rattle.book.proofs.TakenLaws.{taken_amount}
use Rattle.book_keeping.specs.Keeping.{IsLowestFree, AllOpen, entered, entered_chain}
use Rattle.book_keeping.proofs.KeepLaws.{entered_book, freed_book, used_entered}
use Rattle.timing.specs.Hop.{consumed}
use Rattle.search.specs.declared.answer.Best.{Best}
use Rattle.calls.specs.Booked.{with_book}
use Rattle.calls.proofs.BookingLaws.{routes_booked_determined}
use Rattle.calls_book.specs.Placing.{booking_of, BooksRoute, not_routed, full, placed, Releases, no_plan, no_book, not_open, released}
use Rattle.calls_book.specs.declared.answers.Placed.{Placed}
use Rattle.calls_book.proofs.ChosenLaws.{chosen_good, chosen_booking, chosen_left}

-- ---- one result at the most

lowest_unique : {t : List ℕ} {j k : ℕ} → IsLowestFree t j → IsLowestFree t k → j ≡ k
lowest_unique {j} {k} a b = go (ltb j k) (ltb k j) (ltb-true j k) (ltb-true k j) (ltb-false j k) (ltb-false k j)
  where
    go : (x y : Bool) → (x ≡ true → j < k) → (y ≡ true → k < j) → (x ≡ false → k ≤ j) → (y ≡ false → j ≤ k) → j ≡ k
    go true y below above not-below not-above = absurd (b.none_lower j (below refl) a.is_free)
    go false true below above not-below not-above = absurd (a.none_lower k (above refl) b.is_free)
    go false false below above not-below not-above = omega (arith, not-below refl, not-above refl)

none_lowest : {A : Type 0} {t : List ℕ} {k : ℕ} → AllOpen t → IsLowestFree t k → A
unfolding AllOpen
none_lowest {k} all low = absurd (all k low.inside low.is_free)

same_refused : {A : Type 0} {x y : Refusal} → ◌≡◌ {A = Result A Refusal} (Err x) (Err y) → x ≡ y
same_refused e = cc

same_best : {a b : Best} → ◌≡◌ {A = Result Best Refusal} (Ok a) (Ok b) → a ≡ b
same_best e = cc

refused_best : {A : Type 0} {x : Refusal} {b : Best} → ◌≡◌ {A = Result Best Refusal} (Err x) (Ok b) → A
refused_best e = let z : ◌≡◌ {A = ℕ} 0 1 = cc in absurd (omega arith)

module _ {contacts : List ℕ} {m : ℕ} {ranges : List ℕ} {n : ℕ} {t u : List ℕ} where
  pub books_route_determined : {ask : Ask} {class : ℕ} {before : List ℕ} {a b : Result Placed Refusal} {t₁ t₂ u₁ u₂ after₁ after₂ : List ℕ}
      → BooksRoute contacts m ranges n t u ask class before a t₁ u₁ after₁ → BooksRoute contacts m ranges n t u ask class before b t₂ u₂ after₂
      → (a ≡ b) × (t₁ ≡ t₂) × (u₁ ≡ u₂) × (after₁ ≡ after₂)
  books_route_determined (not_routed r) (not_routed s) = (ap Err (same_refused (routes_booked_determined r s).0), refl, refl, refl)
  books_route_determined (not_routed r) (full s all) = refused_best (routes_booked_determined r s).0
  books_route_determined (not_routed r) (placed s low) = refused_best (routes_booked_determined r s).0
  books_route_determined (full r all) (not_routed s) = refused_best (routes_booked_determined s r).0
  books_route_determined (full r all) (full s all') = (refl, refl, refl, refl)
  books_route_determined (full r all) (placed s low) = none_lowest all low
  books_route_determined (placed r low) (not_routed s) = refused_best (routes_booked_determined s r).0
  books_route_determined (placed r low) (full s all) = none_lowest all low
  books_route_determined {ask} {class} (placed r low) (placed s low') =
      let same = routes_booked_determined r s in
      let best = same_best same.0 in
      let chain = same.1 in
      let place = lowest_unique low low' in (
        (λ i. Ok (record { figures = (best i).figures; count = (best i).count; place = suc (place i) })),
        (λ i. entered t (place i) (booking_of ask class (take (best i).count (chain i)))),
        (λ i. entered_chain u (place i) (take (best i).count (chain i))),
        chain,
      )

  pub releases_determined : {place : ℕ} {a b : Result (Unit {0}) Refusal} {t₁ t₂ : List ℕ} → Releases contacts m ranges n t u place a t₁
      → Releases contacts m ranges n t u place b t₂ → (a ≡ b) × (t₁ ≡ t₂)
  releases_determined (no_plan f) (no_plan f') = (refl, refl)
  releases_determined (no_plan f) (no_book p' f') = (refl, refl)
  releases_determined (no_plan f) (not_open p' b' f') = absurd (f p')
  releases_determined (no_plan f) (released p' b' o') = absurd (f p')
  releases_determined (no_book p f) (no_plan f') = (refl, refl)
  releases_determined (no_book p f) (no_book p' f') = (refl, refl)
  releases_determined (no_book p f) (not_open p' b' f') = absurd (f b')
  releases_determined (no_book p f) (released p' b' o') = absurd (f b')
  releases_determined (not_open p b f) (no_plan f') = absurd (f' p)
  releases_determined (not_open p b f) (no_book p' f') = absurd (f' b)
  releases_determined (not_open p b f) (not_open p' b' f') = (refl, refl)
  releases_determined (not_open p b f) (released p' b' o') = absurd (f o')
  releases_determined (released p b o) (no_plan f') = absurd (f' p)
  releases_determined (released p b o) (no_book p' f') = absurd (f' b)
  releases_determined (released p b o) (not_open p' b' f') = absurd (f' o)
  releases_determined (released p b o) (released p' b' o') = (refl, refl)

  -- ---- the book stays good

  pub books_route_book : {ask : Ask} {class : ℕ} {before : List ℕ} {p : Placed} {t' u' after : List ℕ}
      → BooksRoute contacts m ranges n t u ask class before (Ok p) t' u' after → IsBook m t' u'
  books_route_book {ask} {class} (placed {b} {k} {after} r low) =
      entered_book m t u (chosen_good r).its_book k low.inside (booking_of ask class (take b.count after)) (chosen_booking r)

  pub releases_book : {place : ℕ} {t' : List ℕ} → Releases contacts m ranges n t u place (Ok tt) t' → IsBook m t' u
  releases_book {place} (released p b o) = freed_book m t u b (place - 1) (omega (arith, o.least, o.most))

  -- ---- and no contact of the chain is booked beyond its volume

  pub booked_within : {ask : Ask} {class : ℕ} {before : List ℕ} {p : Placed} {t' u' after : List ℕ}
      → BooksRoute contacts m ranges n t u ask class before (Ok p) t' u' after → (c : ℕ) → names (take p.count after) c ≡ true
      → used (book_of t' u') class c ≤ volume (contact_of (with_book (plan_of contacts m ranges n) (book_of t u) class) c)
  booked_within {ask} {class} (placed {b} {k} {after} r low) c named =
      let booking = booking_of ask class (take b.count after) in
      let left = chosen_left r c named in
      let before = service_left (plan_of contacts m ranges n) (used (book_of t u) class) c left.0 in
      let within = (left_exactly (consumed ask.size) _ (used (book_of t u) class c) (chosen_booking r).consumption_least).0 (rw before at left.1) in
      let adds = used_entered m t u (chosen_good r).its_book k low.inside booking (chosen_booking r) low.is_free class c in
      omega (arith, adds, taken_amount booking class c, within)
