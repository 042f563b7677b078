-- The words of an answer determine it: no two answers of a call are laid out alike.
--     answer_words_determined      so it is of every kind of success that keeps the laws
--     read_words_determined, written_words_determined, walked_words_determined, routed_words_determined, placed_words_determined,
--     released_words_determined      and of each call's
-- Assumes nothing.
use Rattle.std.specs.Prelude.{List, ◌∷◌, ◌≡◌, ⊤, ℕ, Result, Ok, Err}
use Rattle.std.proofs.Common.{sym, ap}
use Rattle.units.specs.declared.Refusal.{Refusal}
use Rattle.units.proofs.RefusalLaws.{refusal_determined, refusal_numbered}
use Rattle.text.specs.declared.answer.Counts.{Counts}
use Rattle.walk.specs.declared.figures.Figures.{Figures}
use Rattle.search.specs.declared.answer.Best.{Best}
use Rattle.calls_book.specs.declared.answers.Placed.{Placed}
use Rattle.board_face.specs.Layout.{refusal_words, answer_words_of, read_words, written_words, walked_words, routed_words, placed_words, released_words}
use Rattle.board_face.specs.WordKinds.{count_laws, length_laws, figure_laws, best_laws, place_laws, no_laws}
use Rattle.board_face.specs.WordLaws.{WordLaws}

-- a refusal is determined by its two words
refusal_words_determined : (a b : Refusal) → refusal_words a ≡ refusal_words b → a ≡ b
refusal_words_determined a b e = refusal_determined a b (cc) (cc)

-- and is never taken for an answer of success, which begins with 0
refusal_told_apart : {A : Type 0} (why : Refusal) (rest : List ℕ) → 0 ∷ rest ≡ refusal_words why → A
refusal_told_apart why rest e = absurd (refusal_numbered why (cc))

behind_noughts : {ws us : List ℕ} → 0 ∷ 0 ∷ ws ≡ 0 ∷ 0 ∷ us → ws ≡ us
behind_noughts e = cc

pub answer_words_determined : {T : Type 0} {words_of : T → List ℕ} {room : ℕ} → WordLaws words_of room → (a b : Result T Refusal)
    → answer_words_of words_of a ≡ answer_words_of words_of b → a ≡ b
answer_words_determined laws (Ok x) (Ok y) e = ap Ok (laws.told_apart x y (behind_noughts e))
answer_words_determined laws (Ok x) (Err why) e = refusal_told_apart why _ e
answer_words_determined laws (Err why) (Ok x) e = refusal_told_apart why _ (sym e)
answer_words_determined laws (Err a) (Err b) e = ap Err (refusal_words_determined a b e)

pub read_words_determined : (a b : Result Counts Refusal) → read_words a ≡ read_words b → a ≡ b
read_words_determined = answer_words_determined count_laws

pub written_words_determined : (a b : Result ℕ Refusal) → written_words a ≡ written_words b → a ≡ b
written_words_determined = answer_words_determined length_laws

pub walked_words_determined : (a b : Result Figures Refusal) → walked_words a ≡ walked_words b → a ≡ b
walked_words_determined = answer_words_determined figure_laws

pub routed_words_determined : (a b : Result Best Refusal) → routed_words a ≡ routed_words b → a ≡ b
routed_words_determined = answer_words_determined best_laws

pub placed_words_determined : (a b : Result Placed Refusal) → placed_words a ≡ placed_words b → a ≡ b
placed_words_determined = answer_words_determined place_laws

pub released_words_determined : (a b : Result ⊤ Refusal) → released_words a ≡ released_words b → a ≡ b
released_words_determined = answer_words_determined no_laws
