-- What the contracts of single steps speak of. A reader of the promises may skip it.
--     HasWord         a contact has a word among those of what is left
--     Spent           so much of each contact is taken from its word, and 0 is left where more is taken
--     once            so many bytes of each contact that a chain names, however often it names it
--     taken_at         the bytes that the booking in a place takes of a contact from a class, and none where the place is free
-- Assumes nothing.
use Rattle.std.specs.Prelude.{cond, List, ◌≡◌, ℕ, suc, ◌-◌, ◌≤◌, ◌<◌, eqb, length, get_or}
use Rattle.book.specs.Book.{names, taken}
use Rattle.book.specs.Tables.{open_mark, mark_at, booking_at}

-- contacts are numbered from 1, words from 0
pub record HasWord (lefts : List ℕ) (c : ℕ) : Type 0 where
  pub least : 1 ≤ c
  pub most : c ≤ length lefts

pub record Spent (less : ℕ → ℕ) (before after : List ℕ) : Type 0 where
  pub same_length : length after ≡ length before
  pub lefts : (i : ℕ) → i < length before → get_or after i 0 ≡ get_or before i 0 - less (suc i)

abbrev pub once : List ℕ → ℕ → ℕ → ℕ
once chain amount c = cond (names chain c) amount 0

unfoldable pub taken_at : List ℕ → List ℕ → ℕ → ℕ → ℕ → ℕ
taken_at t u k class c = cond (eqb (mark_at t k) open_mark) (taken (booking_at t u k) class c) 0
