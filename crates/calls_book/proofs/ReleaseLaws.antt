-- What a release that was made has changed: one word of the book.
--     releases_marked      the mark of the place is that of a free one
--     releases_rest        every other word is as it was
-- Assumes nothing.
use mathlib.Core.List.{List}
use mathlib.Core.Path.{◌≡◌, sym, ap, ◌∙◌}
use Prim.Native.Nat.{ℕ, ◌+◌, ◌-◌, ◌*◌, ◌≤◌}
use native.Mathlib.Omega.{arith}
use lib.ListN.{length, get_or, set}
use lib.Seq.{get_or-set_same, get_or-set_other}
use Rattle.std.specs.Prelude.{Ok}
use Rattle.book.specs.Tables.{place_words, free_mark, mark_at, IsBook}
use Rattle.book.proofs.PlaceLaws.{place_there}
use Rattle.book_keeping.specs.Keeping.{freed}
use Rattle.book_keeping.proofs.PlaceStores.{freed_set}
use Rattle.calls_book.specs.Placing.{OpenAt, Releases, released}

-- a word of a book with place k freed, as that of the book with the mark stored
freed_word : (book : List ℕ) (k : ℕ) → k * place_words + place_words ≤ length book → (i v : ℕ) → get_or (set book (k * place_words) free_mark) i 0 ≡ v
    → get_or (freed book k) i 0 ≡ v
freed_word book k there i v e = ap (λ (t : List ℕ). get_or t i 0) (sym (freed_set book k there)) ∙ e

module _ {contacts : List ℕ} {m : ℕ} {ranges : List ℕ} {n : ℕ} {book chains : List ℕ} {place : ℕ} where
  -- the place that is freed is one of the book's
  place_inside : IsBook m book chains → OpenAt contacts m ranges n book chains place → (place - 1) * place_words + place_words ≤ length book
  place_inside its at = place_there _ _ _ its _ (omega (arith, at.least, at.most))

  pub releases_marked : {after : List ℕ} → Releases contacts m ranges n book chains place (Ok tt) after → mark_at after (place - 1) ≡ free_mark
  releases_marked (released p its at) =
      let there = place_inside its at in
      freed_word book (place - 1) there _ _ (get_or-set_same book ((place - 1) * place_words) free_mark 0 (omega (arith, there)))

  pub releases_rest : {after : List ℕ} → Releases contacts m ranges n book chains place (Ok tt) after → (i : ℕ) → (i ≡ (place - 1) * place_words → ⊥)
      → get_or after i 0 ≡ get_or book i 0
  releases_rest (released p its at) i other =
      freed_word book (place - 1) (place_inside its at) _ _ (get_or-set_other book ((place - 1) * place_words) i free_mark 0 other)
