-- What the loop of a step knows.
--     SoFar          how far the loop is
--     so_far         before its first turn
--     goes_on        one turn more: a line is answered behind the bytes used
--     far_lines      the step, where it stops
-- Assumes nothing.
use mathlib.Core.Bool.{Bool, true, false, ◌&&◌}
use mathlib.Core.List.{List, [], ◌∷◌, ◌++◌, append-nil, append_assoc}
use mathlib.Core.Logic.{◌⊎◌, inl, inr}
use mathlib.Core.Path.{◌≡◌, refl, sym, ap, ap₂, ◌∙◌, subst}
use Prim.Native.Nat.{ℕ, ◌+◌, ◌-◌, ◌≤◌, ◌<◌, min}
use native.Mathlib.Omega.{arith}
use borrow.Author.Tests.{ltb-true, ltb-false, leb-true, leb-false}
use lib.Dec.{leb, ltb}
use lib.ListN.{length, take, drop, length-append, length-drop}
use lib.Seq.{take_at, drop_at, drop-drop}
use Rattle.text.specs.Lines.{line_feed, Line, lines_of, glue_line, glue}
use Rattle.text.specs.Model.{line_in, up_to}
use Rattle.text.proofs.Cuts.{up_to_le}
use Rattle.text.proofs.Lines.{glued_back, glue_append}
use Rattle.desk_lines.specs.Through.{Prints, none, next, AnswersPart, Begun, nothing, last, AnswersLines}
use Rattle.desk_lines.specs.Turn.{AnswersInto}
use Rattle.desk_lines.proofs.LineLaws.{line_first, some_line}
use Rattle.desk_lines.proofs.PrintLaws.{prints_append}
use Rattle.desk_lines.proofs.ThroughLaws.{part_left}

-- ---- the loop's test: a line is left, and the longest answer has room

both_true : (a b : Bool) → a && b ≡ true → (a ≡ true) × (b ≡ true)
both_true true true e = (refl, refl)
both_true true false e = let z : ◌≡◌ {A = ℕ} 0 1 = cc in absurd (omega arith)
both_true false b e = let z : ◌≡◌ {A = ℕ} 0 1 = cc in absurd (omega arith)

test_left : (longest at size used room : ℕ) → ltb at size && leb longest (room - used) ≡ false → (size ≤ at) ⊎ (room < used + longest)
test_left longest at size used room e = go (ltb at size) (leb longest (room - used)) refl refl e
  where
    go : (a b : Bool) → ltb at size ≡ a → leb longest (room - used) ≡ b → a && b ≡ false → (size ≤ at) ⊎ (room < used + longest)
    go true true p q e = let z : ◌≡◌ {A = ℕ} 0 1 = cc in absurd (omega arith)
    go true false p q e = inr (omega (arith, leb-false longest (room - used) q))
    go false b p q e = inl (ltb-false at size p)

-- the line at a place has so many bytes as the place behind it is further
line_long : (input : List ℕ) (at after : ℕ) (l : Line) → at ≤ length input → after ≤ length input
    → lines_of (drop at input) ≡ l ∷ lines_of (drop after input) → after ≡ at + length (glue_line l)
unfolding glue
line_long input at after l inside over e =
    let text : drop at input ≡ glue_line l ++ drop after input =
    sym (glued_back (drop at input)) ∙ ap glue e ∙ ap (λ (bs : List ℕ). glue_line l ++ bs) (glued_back (drop after input))
    in
    omega (arith, ap length text, length-append (glue_line l) (drop after input), length-drop at input, length-drop after input)

-- ---- the loop

module _ {S : Type 0} (Says : S → Line → ℕ → List ℕ → S → Type 0) (longest : ℕ) where
  pub record SoFar (input : List ℕ) (s : S) (from first : ℕ) (out₀ : List ℕ) (t : S) (at number used : ℕ) (out : List ℕ) : Type 0 where
    pub answers : List ℕ
    pub part : AnswersPart Says input s from first t at number answers
    pub begun : Begun Says longest s first (length out₀) part.lines
    pub ends : used ≡ length answers
    pub fits : used ≤ length out₀
    pub written : out ≡ answers ++ drop (length answers) out₀

module _ {S : Type 0} {Says : S → Line → ℕ → List ℕ → S → Type 0} {longest : ℕ} {input : List ℕ} {s : S} {from first : ℕ} {out₀ : List ℕ} where
  pub so_far : SoFar Says longest input s from first out₀ s from first 0 out₀
  unfolding glue
  so_far = record {
    answers = [];
    part = record { lines = []; cut = refl; behind = omega arith; counted = omega arith; prints = none };
    begun = nothing;
    ends = refl;
    fits = omega arith;
    written = refl;
  }

  module _ {t : S} {at number used : ℕ} {out : List ℕ} (f : SoFar Says longest input s from first out₀ t at number used out) where
    pub far_length : length out ≡ length out₀
    far_length =
        let h = ap length f.written ∙ length-append f.answers (drop (length f.answers) out₀) in
        omega (arith, h, length-drop (length f.answers) out₀, f.ends, f.fits)

    pub fits_now : used ≤ length out
    fits_now = omega (arith, far_length, f.fits)

    pub inside_now : (b : Bool) → ltb at (length input) && b ≡ true → at < length input
    inside_now b e = ltb-true at (length input) (both_true (ltb at (length input)) b e).0

    pub room_now : ltb at (length input) && leb longest (length out - used) ≡ true → used + longest ≤ length out
    room_now e =
        omega (arith, leb-true longest (length out - used) (both_true (ltb at (length input)) (leb longest (length out - used)) e).1, fits_now)

    -- a line that is left is numbered within the lines there are
    pub far_number : at < length input → number < first + length (lines_of (drop from input))
    far_number inside = omega (arith, part_left f.part, some_line input at inside)

    pub far_lines : ltb at (length input) && leb longest (length out - used) ≡ false → AnswersLines Says longest input s from first out₀ t at number used out
    far_lines e = record {
      answers = f.answers;
      part = f.part;
      begun = f.begun;
      ends = f.ends;
      fits = f.fits;
      written = f.written;
      stops = rw far_length at (test_left longest at (length input) used (length out) e);
    }

    module _ {end after : ℕ} (inside : at < length input) (ends : end ≡ at + up_to line_feed (drop at input)) (is-after : after ≡ min (end + 1) (length input)) where
      pub gets_less : length input - after < length input - at
      gets_less = omega (arith, up_to_le line_feed (drop at input), length-drop at input)

      pub goes_on : {u : S} {used' : ℕ} {out' : List ℕ} → used + longest ≤ length out
          → AnswersInto Says t (line_in (take (end - at) (drop at input)) (ltb end (length input))) number out used u used' out'
          → SoFar Says longest input s from first out₀ u after (number + 1) used' out'
      unfolding glue
      goes_on {u} {used'} {out'} room into =
          let p = f.part in
          let a : List ℕ = f.answers in
          let one : List ℕ = into.one in
          let l : Line = line_in (take (end - at) (drop at input)) (ltb end (length input)) in
          let first-line = line_first input at end inside ends after is-after in
          let seam : length a ≡ used = sym f.ends in
          let before : take used out ≡ a = ap (take used) f.written ∙ take_at a (drop (length a) out₀) used seam in
          let left : drop used out ≡ drop (length a) out₀ = ap (drop used) f.written ∙ drop_at a (drop (length a) out₀) used seam in
          let both : length a + length one ≡ length (a ++ one) = sym (length-append a one) in
          record {
            answers = a ++ one;
            part = record {
              lines = p.lines ++ (l ∷ []);
              cut =
                  p.cut ∙ ap (λ (ls : List Line). p.lines ++ ls) first-line ∙ sym (append_assoc p.lines (l ∷ []) (lines_of (drop after input)));
              behind =
                  let long = line_long input at after l (omega arith) (omega arith) first-line in
                  let glued = ap length (glue_append p.lines (l ∷ [])) ∙ length-append (glue p.lines) (glue_line l ++ []) in
                  omega (arith, p.behind, long, glued, ap length (append-nil (glue_line l)));
              counted = omega (arith, length-append p.lines (l ∷ []), p.counted);
              prints =
                  subst (λ (bs : List ℕ). Prints Says s first (p.lines ++ (l ∷ [])) (a ++ bs) u) (append-nil one)
                  (prints_append p.prints p.counted (next into.says none));
            };
            begun = last l p.prints (omega (arith, far_length, f.ends));
            ends = omega (arith, into.ends, both, f.ends);
            fits = omega (arith, into.fits, far_length);
            written =
                into.puts ∙ ap₂ (λ (x y : List ℕ). x ++ (one ++ drop (length one) y)) before left
                ∙ ap (λ (bs : List ℕ). a ++ (one ++ bs)) (drop-drop (length one) (length a) out₀ ∙ ap (λ (i : ℕ). drop i out₀) both)
                ∙ sym (append_assoc a one (drop (length (a ++ one)) out₀));
          }
