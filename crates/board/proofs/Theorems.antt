-- The promises of the exported functions determine the number returned and all lent memory: two results that meet one are equal.
--     board_reads_determined, board_writes_determined, board_walks_determined, board_routes_determined
--     board_walks_booked_determined, board_routes_booked_determined, board_books_determined, board_releases_determined
-- Assumes nothing.
use mathlib.Core.List.{List, ◌++◌}
use mathlib.Core.Path.{◌≡◌, refl, sym, ap, ◌∙◌}
use Prim.Native.Nat.{ℕ}
use native.Mathlib.Omega.{arith}
use lib.ListN.{length, get_or, drop}
use Rattle.units.specs.declared.Ask.{Ask}
use Rattle.text.proofs.Calls.{reads_determined}
use Rattle.text.proofs.RoundTrip.{writes_determined}
use Rattle.walk.proofs.Theorems.{walks_determined}
use Rattle.search.proofs.Theorems.{routes_determined}
use Rattle.calls.proofs.BookingLaws.{walks_booked_determined, routes_booked_determined}
use Rattle.calls_book.proofs.Theorems.{books_route_determined, releases_determined}
use Rattle.board_face.specs.Layout.{read_words, written_words, walked_words, routed_words, placed_words, released_words, Answered}
use Rattle.board.specs.Booked.{BoardWalksBooked, BoardRoutesBooked, BoardBooks, BoardReleases, no_room, called}
use Rattle.board.specs.Faces.{BoardReads, BoardWrites, BoardWalks, BoardRoutes, no_room, called}

answered_determined : {ws us answer answer₁ answer₂ : List ℕ} {a b : ℕ} → ws ≡ us → Answered ws answer a answer₁ → Answered us answer b answer₂
    → (a ≡ b) × (answer₁ ≡ answer₂)
answered_determined {answer} e x y = (
  x.number_is ∙ ap (λ (l : List ℕ). get_or l 0 0) e ∙ sym y.number_is,
  x.answer_is ∙ ap (λ (l : List ℕ). l ++ drop (length l) answer) e ∙ sym y.answer_is,
)

pub board_reads_determined : {text contacts ranges answer contacts₁ ranges₁ answer₁ contacts₂ ranges₂ answer₂ : List ℕ} {a b : ℕ}
    → BoardReads text contacts ranges answer a contacts₁ ranges₁ answer₁ → BoardReads text contacts ranges answer b contacts₂ ranges₂ answer₂
    → (a ≡ b) × (contacts₁ ≡ contacts₂) × (ranges₁ ≡ ranges₂) × (answer₁ ≡ answer₂)
board_reads_determined (no_room h) (no_room g) = (refl, refl, refl, refl)
board_reads_determined (no_room h) (called g r x) = absurd (omega arith)
board_reads_determined (called h r x) (no_room g) = absurd (omega arith)
board_reads_determined (called h r x) (called g s y) =
    let same = reads_determined r s in
    let told = answered_determined (ap read_words same.0) x y in
    (told.0, same.1, same.2, told.1)

module _ {contacts : List ℕ} {m : ℕ} {ranges : List ℕ} {n : ℕ} where
  pub board_writes_determined : {out answer out₁ answer₁ out₂ answer₂ : List ℕ} {a b : ℕ} → BoardWrites contacts m ranges n out answer a out₁ answer₁
      → BoardWrites contacts m ranges n out answer b out₂ answer₂ → (a ≡ b) × (out₁ ≡ out₂) × (answer₁ ≡ answer₂)
  board_writes_determined (no_room h) (no_room g) = (refl, refl, refl)
  board_writes_determined (no_room h) (called g r x) = absurd (omega arith)
  board_writes_determined (called h r x) (no_room g) = absurd (omega arith)
  board_writes_determined (called h r x) (called g s y) =
      let same = writes_determined r s in
      let told = answered_determined (ap written_words same.0) x y in
      (told.0, same.1, told.1)

  pub board_walks_determined : {ask : Ask} {chain answer answer₁ answer₂ : List ℕ} {a b : ℕ} → BoardWalks contacts m ranges n ask chain answer a answer₁
      → BoardWalks contacts m ranges n ask chain answer b answer₂ → (a ≡ b) × (answer₁ ≡ answer₂)
  board_walks_determined (no_room h) (no_room g) = (refl, refl)
  board_walks_determined (no_room h) (called g r x) = absurd (omega arith)
  board_walks_determined (called h r x) (no_room g) = absurd (omega arith)
  board_walks_determined (called h r x) (called g s y) = answered_determined (ap walked_words (walks_determined r s)) x y

  pub board_routes_determined : {ask : Ask} {chain answer chain₁ answer₁ chain₂ answer₂ : List ℕ} {a b : ℕ}
      → BoardRoutes contacts m ranges n ask chain answer a chain₁ answer₁ → BoardRoutes contacts m ranges n ask chain answer b chain₂ answer₂
      → (a ≡ b) × (chain₁ ≡ chain₂) × (answer₁ ≡ answer₂)
  board_routes_determined (no_room h) (no_room g) = (refl, refl, refl)
  board_routes_determined (no_room h) (called g r x) = absurd (omega arith)
  board_routes_determined (called h r x) (no_room g) = absurd (omega arith)
  board_routes_determined (called h r x) (called g s y) =
      let same = routes_determined r s in
      let told = answered_determined (ap routed_words same.0) x y in
      (told.0, same.1, told.1)

-- ---- over a plan with its book

module _ {contacts : List ℕ} {m : ℕ} {ranges : List ℕ} {n : ℕ} {book booked : List ℕ} where
  pub board_walks_booked_determined : {ask : Ask} {class : ℕ} {chain answer answer₁ answer₂ : List ℕ} {a b : ℕ}
      → BoardWalksBooked contacts m ranges n book booked ask class chain answer a answer₁
      → BoardWalksBooked contacts m ranges n book booked ask class chain answer b answer₂ → (a ≡ b) × (answer₁ ≡ answer₂)
  board_walks_booked_determined (no_room h) (no_room g) = (refl, refl)
  board_walks_booked_determined (no_room h) (called g r x) = absurd (omega arith)
  board_walks_booked_determined (called h r x) (no_room g) = absurd (omega arith)
  board_walks_booked_determined (called h r x) (called g s y) = answered_determined (ap walked_words (walks_booked_determined r s)) x y

  pub board_routes_booked_determined : {ask : Ask} {class : ℕ} {chain answer chain₁ answer₁ chain₂ answer₂ : List ℕ} {a b : ℕ}
      → BoardRoutesBooked contacts m ranges n book booked ask class chain answer a chain₁ answer₁
      → BoardRoutesBooked contacts m ranges n book booked ask class chain answer b chain₂ answer₂
      → (a ≡ b) × (chain₁ ≡ chain₂) × (answer₁ ≡ answer₂)
  board_routes_booked_determined (no_room h) (no_room g) = (refl, refl, refl)
  board_routes_booked_determined (no_room h) (called g r x) = absurd (omega arith)
  board_routes_booked_determined (called h r x) (no_room g) = absurd (omega arith)
  board_routes_booked_determined (called h r x) (called g s y) =
      let same = routes_booked_determined r s in
      let told = answered_determined (ap routed_words same.0) x y in
      (told.0, same.1, told.1)

  pub board_books_determined : {ask : Ask} {class : ℕ} {chain answer book₁ booked₁ chain₁ answer₁ book₂ booked₂ chain₂ answer₂ : List ℕ} {a b : ℕ}
      → BoardBooks contacts m ranges n book booked ask class chain answer a book₁ booked₁ chain₁ answer₁
      → BoardBooks contacts m ranges n book booked ask class chain answer b book₂ booked₂ chain₂ answer₂
      → (a ≡ b) × (book₁ ≡ book₂) × (booked₁ ≡ booked₂) × (chain₁ ≡ chain₂) × (answer₁ ≡ answer₂)
  board_books_determined (no_room h) (no_room g) = (refl, refl, refl, refl, refl)
  board_books_determined (no_room h) (called g r x) = absurd (omega arith)
  board_books_determined (called h r x) (no_room g) = absurd (omega arith)
  board_books_determined (called h r x) (called g s y) =
      let same = books_route_determined r s in
      let told = answered_determined (ap placed_words same.0) x y in
      (told.0, same.1, same.2, same.3, told.1)

  pub board_releases_determined : {place : ℕ} {answer book₁ answer₁ book₂ answer₂ : List ℕ} {a b : ℕ}
      → BoardReleases contacts m ranges n book booked place answer a book₁ answer₁
      → BoardReleases contacts m ranges n book booked place answer b book₂ answer₂ → (a ≡ b) × (book₁ ≡ book₂) × (answer₁ ≡ answer₂)
  board_releases_determined (no_room h) (no_room g) = (refl, refl, refl)
  board_releases_determined (no_room h) (called g r x) = absurd (omega arith)
  board_releases_determined (called h r x) (no_room g) = absurd (omega arith)
  board_releases_determined (called h r x) (called g s y) =
      let same = releases_determined r s in
      let told = answered_determined (ap released_words same.0) x y in
      (told.0, same.1, told.1)
