-- The lines of a text, and the line at a place.
--     lines_few       a text has no more lines than bytes
--     no_lines        and none behind its end
--     line_inside     the line at a place ends within the text
--     line_first      it is the first of the lines from there, and the others begin behind it
--     some_line       before the text's end there is one
-- Assumes nothing.
use mathlib.Core.Bool.{Bool, true, false, cond}
use mathlib.Core.List.{List, [], ◌∷◌}
use mathlib.Core.Path.{◌≡◌, refl, sym, ap, ap₂, ◌∙◌, subst}
use Prim.Native.Nat.{ℕ, suc, ◌+◌, ◌-◌, ◌≤◌, ◌<◌, min, zero-le, suc-le-suc}
use native.Mathlib.Decide.{dec_le}
use native.Mathlib.Nat.{lt_of_not-le, le_trans}
use native.Mathlib.Omega.{arith}
use borrow.Author.Tests.{lt-ltb, le-ltb}
use lib.Dec.{eqb, ltb}
use lib.ListN.{length, take, drop, get_or, length-drop, drop_of_length-le}
use lib.Seq.{drop-cons, drop-drop, take_all}
use Rattle.text.specs.Lines.{line_feed, Line, in_front, lines_of}
use Rattle.text.specs.Model.{line_in, up_to}
use Rattle.text.proofs.Cuts.{up_to_le, lines_cut, lines_left}

pub lines_few : (bs : List ℕ) → length (lines_of bs) ≤ length bs
unfolding lines_of in_front
lines_few [] = zero-le
lines_few (b ∷ bs) = go (eqb b line_feed) (lines_of bs) (lines_few bs)
  where
    front : (ls : List Line) → length (in_front b ls) ≤ suc (length ls)
    front [] = omega arith
    front (l ∷ ls) = omega arith

    go : (t : Bool) (ls : List Line) → length ls ≤ length bs
        → length (cond t (record { word = []; fields = []; ended = true } ∷ ls) (in_front b ls)) ≤ suc (length bs)
    go true ls h = suc-le-suc h
    go false ls h = le_trans (front ls) (suc-le-suc h)

pub no_lines : (input : List ℕ) (at : ℕ) → length input ≤ at → lines_of (drop at input) ≡ []
unfolding lines_of
no_lines input at past = ap lines_of (drop_of_length-le input past)

module _ (input : List ℕ) (at end : ℕ) (inside : at < length input) (ends : end ≡ at + up_to line_feed (drop at input)) where
  pub line_inside : end ≤ length input
  line_inside = omega (arith, up_to_le line_feed (drop at input), length-drop at input)

  pub line_first : (after : ℕ) → after ≡ min (end + 1) (length input)
      → lines_of (drop at input) ≡ line_in (take (end - at) (drop at input)) (ltb end (length input)) ∷ lines_of (drop after input)
  unfolding lines_of
  line_first after is-after = go (dec_le (suc end) (length input))
    where
      Goal : Type 0
      Goal = lines_of (drop at input) ≡ line_in (take (end - at) (drop at input)) (ltb end (length input)) ∷ lines_of (drop after input)

      within : end < length input → Goal
      within h =
          let u : up_to line_feed (drop at input) ≡ end - at = omega arith in
          let past : at + suc (up_to line_feed (drop at input)) ≡ after = omega arith in
          rw (lt-ltb end (length input) h)
          (lines_cut (drop at input) (omega (arith, length-drop at input))
          ∙ ap₂ (λ (a b : List ℕ). line_in a true ∷ lines_of b) (ap (λ (i : ℕ). take i (drop at input)) u)
          (drop-drop (suc (up_to line_feed (drop at input))) at input ∙ ap (λ (i : ℕ). drop i input) past))

      at_end : length input ≤ end → Goal
      at_end h =
          let here = drop-cons input at 0 inside in
          let all : up_to line_feed (get_or input at 0 ∷ drop (suc at) input) ≡ length (get_or input at 0 ∷ drop (suc at) input) =
          subst (λ (bs : List ℕ). up_to line_feed bs ≡ length bs) here (omega (arith, up_to_le line_feed (drop at input), length-drop at input))
          in
          let past : length input ≤ after = omega arith in
          let none_left : lines_of (drop after input) ≡ [] = ap lines_of (drop_of_length-le input past) in
          let long : length (drop at input) ≤ end - at = omega (arith, length-drop at input) in
          let whole : take (end - at) (drop at input) ≡ get_or input at 0 ∷ drop (suc at) input = take_all (end - at) (drop at input) long ∙ here in
          rw (le-ltb end (length input) h)
          (ap lines_of here ∙ lines_left (get_or input at 0) (drop (suc at) input) all
          ∙ ap₂ (λ (a : List ℕ) (b : List Line). line_in a false ∷ b) (sym whole) (sym none_left))

      go : Dec (suc end ≤ length input) → Goal
      go (yes h) = within h
      go (no h) = at_end (omega (arith, lt_of_not-le h))

pub some_line : (input : List ℕ) (at : ℕ) → at < length input → 1 ≤ length (lines_of (drop at input))
some_line input at inside =
    let one = ap length (line_first input at (at + up_to line_feed (drop at input)) inside refl (min (at + up_to line_feed (drop at input) + 1) (length input)) refl) in
    omega (arith, one)
