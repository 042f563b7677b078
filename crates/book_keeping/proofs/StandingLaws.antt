-- The bookings that stand, place by place.
--     standing_at                       those that stand in a place
--     without_there, without_other     once the one in a place is released: none is there, and elsewhere all are as before
--     use_split                        what all use is what those in a place use and what the others use
-- Assumes nothing.
use mathlib.Core.Bool.{Bool, true, false, cond}
use mathlib.Core.List.{List, [], ◌∷◌}
use mathlib.Core.Path.{◌≡◌, refl, sym, ◌∙◌}
use Prim.Native.Nat.{ℕ, ◌+◌}
use native.Mathlib.Omega.{arith}
use borrow.Author.Tests.{eqb-true, ne_eqb}
use lib.Dec.{eqb}
use Rattle.book.specs.Book.{Booking, taken, used}
use Rattle.book_keeping.specs.History.{Standing, without, standing_use}

unfoldable pub standing_at : ℕ → List Standing → List Booking
standing_at k [] = []
standing_at k (s ∷ ss) = let others = standing_at k ss in cond (eqb s.place k) (s.booking ∷ others) others

pub without_there : (k : ℕ) (ss : List Standing) → standing_at k (without k ss) ≡ []
unfolding standing_at without
without_there k [] = refl
without_there k (s ∷ ss) = go (eqb s.place k) refl (without_there k ss)
  where
    go : (x : Bool) → eqb s.place k ≡ x → standing_at k (without k ss) ≡ [] → standing_at k (without k (s ∷ ss)) ≡ []
    go true e rest = rw e rest
    go false e rest = rw (e, e, rest)

pub without_other : (j k : ℕ) (ss : List Standing) → (j ≡ k → ⊥) → standing_at j (without k ss) ≡ standing_at j ss
unfolding standing_at without
without_other j k [] other = refl
without_other j k (s ∷ ss) other = go (eqb s.place k) (eqb-true s.place k) (without_other j k ss other)
  where
    go : (x : Bool) → (x ≡ true → s.place ≡ k) → standing_at j (without k ss) ≡ standing_at j ss
        → standing_at j (cond x (without k ss) (s ∷ without k ss)) ≡ cond (eqb s.place j) (s.booking ∷ standing_at j ss) (standing_at j ss)
    go true at rest = rest ∙ rw (ne_eqb s.place j (λ e. other (sym e ∙ at refl)))
    go false at rest = rw rest

pub use_split : (k : ℕ) (ss : List Standing) (class c : ℕ) → standing_use ss class c ≡ used (standing_at k ss) class c + standing_use (without k ss) class c
unfolding standing_at without standing_use used
use_split k [] class c = refl
use_split k (s ∷ ss) class c = go (eqb s.place k) (use_split k ss class c)
  where
    go : (x : Bool) → standing_use ss class c ≡ used (standing_at k ss) class c + standing_use (without k ss) class c
        → taken s.booking class c + standing_use ss class c
        ≡ used (cond x (s.booking ∷ standing_at k ss) (standing_at k ss)) class c + standing_use (cond x (without k ss) (s ∷ without k ss)) class c
    go true rest = omega arith
    go false rest = omega arith
