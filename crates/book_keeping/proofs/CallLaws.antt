-- What a caller of the functions knows.
--     all_open                      where none is free each place of a good book is open
--     chain_fits                    a good booking can be entered in each place of a good book
-- Assumes nothing.
use mathlib.Core.List.{List}
use mathlib.Core.Path.{◌≡◌}
use Prim.Native.Nat.{ℕ, ◌<◌}
use native.Mathlib.Omega.{arith}
use Rattle.units.specs.Limits.{most_places}
use Rattle.plan.specs.Plan.{Each}
use Rattle.book.specs.Book.{Booking, GoodBooking}
use Rattle.book.specs.Tables.{open_mark, mark_at, GoodPlace, free_place, open_place, IsBook}
use Rattle.book_keeping.specs.Keeping.{AllOpen}
use Rattle.book_keeping.specs.Model.{ChainFits}
use Rattle.book_keeping.proofs.SamePlace.{chain_there}

pub all_open : (m : ℕ) (t u : List ℕ) → IsBook m t u → AllOpen t → (j : ℕ) → j < most_places → mark_at t j ≡ open_mark
unfolding AllOpen
all_open m t u book all j h = go (book.places_good j h)
  where
    go : GoodPlace m t u j → mark_at t j ≡ open_mark
    go (free_place f) = absurd (all j h f)
    go (open_place o few g) = o

pub chain_fits : (m : ℕ) (t u : List ℕ) → IsBook m t u → (k : ℕ) → k < most_places → (b : Booking) → GoodBooking m b → m < 65_536 → ChainFits u k b.chain
unfolding Each
chain_fits m t u book k inside b good few = record {
  there = chain_there m t u book k inside b good;
  small = λ blank i h. let named = good.named blank i h in omega (arith, named.most);
}
