-- Lines and the text that they are glued to.
--     glued_back       of every text, the lines glued back are the text
--     glue_append      lines and more lines, glued
--     lines_glued      plain lines are the lines of the text that they are glued to
-- Assumes nothing.
use mathlib.Core.Bool.{Bool, true, false, cond}
use mathlib.Core.Path.{◌≡◌, refl, sym, ap, ◌∙◌}
use mathlib.Core.List.{List, [], ◌∷◌, ◌++◌, append-nil, append_assoc, Memᴰ}
use Prim.Native.Nat.{ℕ}
use lib.Dec.{eqb}
use borrow.Author.Tests.{eqb-true, ne_eqb}
use Rattle.text.specs.Lines.{tab, line_feed, Line, fronted, in_front, lines_of, glue_fields, glue_line, glue}

-- ---- glued back

fronted_glued : (b : ℕ) (l : Line) → glue_line (fronted b l) ≡ b ∷ glue_line l
unfolding fronted glue_line glue_fields
fronted_glued b l = go (eqb b tab) refl
  where
    go : (t : Bool) → eqb b tab ≡ t → glue_line (fronted b l) ≡ b ∷ glue_line l
    go true e = rw (e, eqb-true b tab e) (ap (λ (r : List ℕ). tab ∷ r) (append_assoc l.word (glue_fields l.fields) (cond l.ended (line_feed ∷ []) [])))
    go false e = rw e

in_front_glued : (b : ℕ) (ls : List Line) → glue (in_front b ls) ≡ b ∷ glue ls
unfolding in_front glue glue_line glue_fields
in_front_glued b [] = rw fronted_glued
in_front_glued b (l ∷ ls) = rw fronted_glued

pub glued_back : (text : List ℕ) → glue (lines_of text) ≡ text
unfolding lines_of glue glue_line glue_fields
glued_back [] = refl
glued_back (b ∷ bs) = go (eqb b line_feed) refl (glued_back bs)
  where
    go : (t : Bool) → eqb b line_feed ≡ t → glue (lines_of bs) ≡ bs → glue (lines_of (b ∷ bs)) ≡ b ∷ bs
    go true e h = rw (e, eqb-true b line_feed e, h)
    go false e h = rw (e, in_front_glued, h)

pub glue_append : (ks ls : List Line) → glue (ks ++ ls) ≡ glue ks ++ glue ls
unfolding glue
glue_append [] ls = refl
glue_append (k ∷ ks) ls = rw (glue_append ks ls) (sym (append_assoc (glue_line k) (glue ks) (glue ls)))

-- ---- plain lines

-- no tab and no line feed
unfoldable pub Plain : List ℕ → Type 0
Plain bs = (b : ℕ) → Memᴰ b bs → (b ≡ tab → ⊥) × (b ≡ line_feed → ⊥)

-- its word and its fields are so, and a line feed ended it
pub data PlainLine : Line → Type 0 where
  plain : {word : List ℕ} {fields : List (List ℕ)} → Plain word → ((f : List ℕ) → Memᴰ f fields → Plain f)
      → PlainLine (record { word = word; fields = fields; ended = true })

-- a piece between two marks
lines_piece : (piece bs : List ℕ) (l : Line) (ls : List Line) → Plain piece → lines_of bs ≡ l ∷ ls
    → lines_of (piece ++ bs) ≡ record { word = piece ++ l.word; fields = l.fields; ended = l.ended } ∷ ls
unfolding Plain lines_of in_front fronted
lines_piece [] bs l ls clean e = e
lines_piece (b ∷ piece) bs l ls clean e =
    let mark = clean b (Memᴰ.head refl) in
    rw (ne_eqb b line_feed mark.1, lines_piece piece bs l ls (λ c m. clean c (Memᴰ.tail m)) e, ne_eqb b tab mark.0)

lines_tab : (bs : List ℕ) (l : Line) (ls : List Line) → lines_of bs ≡ l ∷ ls
    → lines_of (tab ∷ bs) ≡ record { word = []; fields = l.word ∷ l.fields; ended = l.ended } ∷ ls
unfolding lines_of in_front fronted
lines_tab bs l ls e = rw e

lines_fields : (fs : List (List ℕ)) (bs : List ℕ) → ((f : List ℕ) → Memᴰ f fs → Plain f)
    → lines_of (glue_fields fs ++ line_feed ∷ bs) ≡ record { word = []; fields = fs; ended = true } ∷ lines_of bs
unfolding lines_of glue_fields
lines_fields [] bs clean = refl
lines_fields (f ∷ fs) bs clean =
    let rest = lines_fields fs bs (λ g m. clean g (Memᴰ.tail m)) in
    let after : List ℕ = glue_fields fs ++ line_feed ∷ bs in
    let first = lines_piece f after (record { word = []; fields = fs; ended = true }) (lines_of bs) (clean f (Memᴰ.head refl)) rest in
    ap (λ (t : List ℕ). lines_of (tab ∷ t)) (append_assoc f (glue_fields fs) (line_feed ∷ bs))
    ∙ lines_tab (f ++ after) (record { word = f ++ []; fields = fs; ended = true }) (lines_of bs) first
    ∙ ap (λ (g : List ℕ). record { word = []; fields = g ∷ fs; ended = true } ∷ lines_of bs) (append-nil f)

lines_line : (l : Line) (bs : List ℕ) → PlainLine l → lines_of (glue_line l ++ bs) ≡ l ∷ lines_of bs
unfolding glue_line
lines_line l bs (plain {word} {fields} w f) =
    let rest : List ℕ = glue_fields fields ++ line_feed ∷ bs in
    let glued : word ++ (glue_fields fields ++ line_feed ∷ []) ++ bs ≡ word ++ rest = simp append_assoc in
    ap lines_of glued
    ∙ lines_piece word rest (record { word = []; fields = fields; ended = true }) (lines_of bs) w (lines_fields fields bs f)
    ∙ ap (λ (g : List ℕ). record { word = g; fields = fields; ended = true } ∷ lines_of bs) (append-nil word)

pub lines_glued : (ls : List Line) → ((l : Line) → Memᴰ l ls → PlainLine l) → lines_of (glue ls) ≡ ls
unfolding lines_of glue
lines_glued [] clean = refl
lines_glued (l ∷ ls) clean =
    lines_line l (glue ls) (clean l (Memᴰ.head refl))
    ∙ ap {B = List Line} (λ r. l ∷ r) (lines_glued ls (λ k m. clean k (Memᴰ.tail m)))
