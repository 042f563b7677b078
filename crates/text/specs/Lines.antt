-- A text as lines. A line is what stands before a line feed, or the bytes left after the last one; its word stands before its first tab, and a
-- field after each tab. `ended` says that a line feed ended it.
--     lines_of      the lines of a text
--     glue         the bytes of lines: of every text, the lines glued back are the text (proofs/Lines.antt, glued_back)
-- Assumes nothing.
use Rattle.std.specs.Prelude.{Bool, true, false, cond, List, [], ◌∷◌, ◌++◌, ℕ, eqb}

abbrev pub tab : ℕ
tab = 9

abbrev pub line_feed : ℕ
line_feed = 10

pub record Line : Type 0 where
  pub word : List ℕ
  pub fields : List (List ℕ)
  pub ended : Bool

-- no byte yet, but for the line feed if one ended it
abbrev pub blank : Bool → Line
blank ended = record { word = []; fields = []; ended = ended }

-- a line with one byte more, in front: a tab makes its word the first field, any other byte begins its word
unfoldable pub fronted : ℕ → Line → Line
fronted b l =
    cond (eqb b tab) (record { word = []; fields = l.word ∷ l.fields; ended = l.ended })
    (record { word = b ∷ l.word; fields = l.fields; ended = l.ended })

-- lines with one byte more, in front of the first
unfoldable pub in_front : ℕ → List Line → List Line
in_front b [] = fronted b (blank false) ∷ []
in_front b (l ∷ ls) = fronted b l ∷ ls

unfoldable pub lines_of : List ℕ → List Line
lines_of [] = []
lines_of (b ∷ bs) = cond (eqb b line_feed) (blank true ∷ lines_of bs) (in_front b (lines_of bs))

unfoldable pub glue_fields : List (List ℕ) → List ℕ
glue_fields [] = []
glue_fields (f ∷ fs) = tab ∷ f ++ glue_fields fs

unfoldable pub glue_line : Line → List ℕ
glue_line l = l.word ++ (glue_fields l.fields ++ cond l.ended (line_feed ∷ []) [])

unfoldable pub glue : List Line → List ℕ
glue [] = []
glue (l ∷ ls) = glue_line l ++ glue ls
