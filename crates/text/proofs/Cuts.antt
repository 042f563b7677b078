-- The lines of a text and the pieces of a line, cut at the next mark: what goes through the bytes by places uses.
--     lines_cut, lines_left      the first line of a text ends at its first line feed, or is all of it
--     line_cut, line_left        the word of a line ends at its first tab, or is all of it
-- Assumes nothing.
use mathlib.Core.Bool.{Bool, true, false, cond}
use mathlib.Core.Path.{◌≡◌, refl, ap}
use mathlib.Core.List.{List, [], ◌∷◌}
use Prim.Native.Nat.{ℕ, suc, ◌≤◌, ◌<◌, zero-le, suc-le-suc}
use native.Mathlib.Nat.{not-suc-le-zero, le_of_suc-le-suc, suc_inj}
use native.Mathlib.Omega.{arith}
use lib.Dec.{eqb}
use lib.ListN.{length, take, drop}
use Rattle.text.specs.Lines.{tab, line_feed, Line, fronted, in_front, lines_of}
use Rattle.text.specs.Model.{line_in, up_to}

pub up_to_le : (mark : ℕ) (bs : List ℕ) → up_to mark bs ≤ length bs
unfolding up_to
up_to_le mark [] = zero-le
up_to_le mark (b ∷ bs) = go (eqb b mark) (up_to_le mark bs)
  where
    go : (t : Bool) → up_to mark bs ≤ length bs → cond t 0 (suc (up_to mark bs)) ≤ suc (length bs)
    go true h = zero-le
    go false h = suc-le-suc h

pub lines_cut : (bs : List ℕ) → up_to line_feed bs < length bs
    → lines_of bs ≡ line_in (take (up_to line_feed bs) bs) true ∷ lines_of (drop (suc (up_to line_feed bs)) bs)
unfolding up_to lines_of line_in in_front
lines_cut [] h = absurd (not-suc-le-zero h)
lines_cut (b ∷ bs) h = go (eqb b line_feed) refl (λ g. lines_cut bs g)
  where
    go : (t : Bool) → eqb b line_feed ≡ t
        → (up_to line_feed bs < length bs → lines_of bs ≡ line_in (take (up_to line_feed bs) bs) true ∷ lines_of (drop (suc (up_to line_feed bs)) bs))
        → lines_of (b ∷ bs) ≡ line_in (take (up_to line_feed (b ∷ bs)) (b ∷ bs)) true ∷ lines_of (drop (suc (up_to line_feed (b ∷ bs))) (b ∷ bs))
    go true e on = rw e
    go false e on = rw (e, on (le_of_suc-le-suc (rw e at h)))

-- no mark where the first one stands at the end
no_mark : (mark b : ℕ) (bs : List ℕ) → up_to mark (b ∷ bs) ≡ length (b ∷ bs) → (eqb b mark ≡ false) × (up_to mark bs ≡ length bs)
unfolding up_to
no_mark mark b bs = go (eqb b mark)
  where
    go : (t : Bool) → cond t 0 (suc (up_to mark bs)) ≡ suc (length bs) → (t ≡ false) × (up_to mark bs ≡ length bs)
    go true h = absurd (omega arith)
    go false h = (refl, suc_inj h)

pub lines_left : (b : ℕ) (bs : List ℕ) → up_to line_feed (b ∷ bs) ≡ length (b ∷ bs) → lines_of (b ∷ bs) ≡ line_in (b ∷ bs) false ∷ []
unfolding lines_of line_in in_front
lines_left b [] h = rw (no_mark line_feed b [] h).0
lines_left b (c ∷ bs) h =
    let none = no_mark line_feed b (c ∷ bs) h in
    rw none.0 (ap (in_front b) (lines_left c bs none.1))

pub line_in_ended : (bs : List ℕ) (ended : Bool) → (line_in bs ended).ended ≡ ended
unfolding line_in fronted
line_in_ended [] ended = refl
line_in_ended (b ∷ bs) ended = go (eqb b tab) refl (line_in_ended bs ended)
  where
    go : (t : Bool) → eqb b tab ≡ t → (line_in bs ended).ended ≡ ended → (fronted b (line_in bs ended)).ended ≡ ended
    go true e h = rw e h
    go false e h = rw e h

-- the line whose word ends at the first tab of the bytes
abbrev pub cut : List ℕ → Bool → Line
cut bs ended =
    let rest : Line = line_in (drop (suc (up_to tab bs)) bs) ended in
    record { word = take (up_to tab bs) bs; fields = rest.word ∷ rest.fields; ended = ended }

pub line_cut : (bs : List ℕ) (ended : Bool) → up_to tab bs < length bs → line_in bs ended ≡ cut bs ended
unfolding up_to line_in fronted
line_cut [] ended h = absurd (not-suc-le-zero h)
line_cut (b ∷ bs) ended h = go (eqb b tab) refl (λ g. line_cut bs ended g)
  where
    go : (t : Bool) → eqb b tab ≡ t → (up_to tab bs < length bs → line_in bs ended ≡ cut bs ended) → fronted b (line_in bs ended) ≡ cut (b ∷ bs) ended
    go true e on = rw (e, line_in_ended bs ended)
    go false e on = rw (e, on (le_of_suc-le-suc (rw e at h)))

pub line_left : (bs : List ℕ) (ended : Bool) → up_to tab bs ≡ length bs → line_in bs ended ≡ record { word = bs; fields = []; ended = ended }
unfolding line_in fronted
line_left [] ended h = refl
line_left (b ∷ bs) ended h = let none = no_mark tab b bs h in rw (none.0, line_left bs ended none.1)
