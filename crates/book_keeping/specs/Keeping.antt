-- A book that is kept: a booking entered in the lowest free place, and a place freed.
--     IsLowestFree, AllOpen      the lowest free place, and that there is none
--     entered, entered_chain      the two tables with a booking entered in a place
--     freed                      the places with one freed
-- Assumes nothing.
use Rattle.std.specs.Prelude.{List, ◌∷◌, ◌++◌, ◌≡◌, ℕ, ◌+◌, ◌*◌, ◌<◌, length, take, drop}
use Rattle.units.specs.Limits.{most_chain, most_places}
use Rattle.book.specs.Book.{Booking}
use Rattle.book.specs.Tables.{place_words, free_mark, open_mark, mark_at}

pub record IsLowestFree (t : List ℕ) (k : ℕ) : Type 0 where
  pub inside : k < most_places
  pub is_free : mark_at t k ≡ free_mark
  pub none_lower : (j : ℕ) → j < k → mark_at t j ≡ free_mark → ⊥

unfoldable pub AllOpen : List ℕ → Type 0
AllOpen t = (j : ℕ) → j < most_places → mark_at t j ≡ free_mark → ⊥

-- its four words, and nothing else
unfoldable pub entered : List ℕ → ℕ → Booking → List ℕ
entered t k b =
    take (k * place_words) t
    ++ (open_mark ∷ b.class ∷ b.consumption ∷ length b.chain ∷ drop (k * place_words + place_words) t)

-- the first of its contact numbers, as many as the chain has; those behind them stay
unfoldable pub entered_chain : List ℕ → ℕ → List ℕ → List ℕ
entered_chain u k chain = take (k * most_chain) u ++ (chain ++ drop (k * most_chain + length chain) u)

-- its mark, and nothing else
unfoldable pub freed : List ℕ → ℕ → List ℕ
freed t k = take (k * place_words) t ++ (free_mark ∷ drop (k * place_words + 1) t)
