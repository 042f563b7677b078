-- How the words of an answer are laid out in the lent answer of an exported function.
--     answer_words, no_room_number      how many words every lent answer must have, and what is returned where it has fewer
--     booked_words              how many that of a booking must have
--     count_words, length_words, figure_words, best_words, place_words, no_words      the words of what each call tells on success
--     refusal_words             the words of a refusal: number and place
--     answer_words_of           the words of an answer: a refusal's, or 0, 0 and those of what is told
--     read_words, written_words, walked_words, routed_words, placed_words, released_words      the same of each call's answer
--     Answered                 what is returned, and the lent answer afterwards
-- Assumes nothing.
use Rattle.std.specs.Prelude.{List, [], ◌∷◌, ◌++◌, ◌≡◌, ⊤, ℕ, length, get_or, drop, Result, Ok, Err}
use Rattle.units.specs.declared.Refusal.{Refusal}
use Rattle.units.specs.declared.Refusal.TheVariants.{ShortOutput}
use Rattle.units.specs.Refusals.{number_of, place_of}
use Rattle.text.specs.declared.answer.Counts.{Counts}
use Rattle.walk.specs.declared.figures.Figures.{Figures}
use Rattle.search.specs.declared.answer.Best.{Best}
use Rattle.calls_book.specs.declared.answers.Placed.{Placed}

-- every lent answer has at least so many words
unfoldable pub answer_words : ℕ
answer_words = 7

-- that of a booking one more, for its place
unfoldable pub booked_words : ℕ
booked_words = 8

-- what is returned where one has fewer
abbrev pub no_room_number : ℕ
no_room_number = number_of (ShortOutput answer_words)

-- the counts of contacts and of ranges
abbrev pub count_words : Counts → List ℕ
count_words c = c.contacts ∷ c.ranges ∷ []

-- the text's length
abbrev pub length_words : ℕ → List ℕ
length_words n = n ∷ []

-- delivery, opens, last call and room
abbrev pub figure_words : Figures → List ℕ
figure_words f = f.delivery.0 ∷ f.opens.0 ∷ f.last_call.0 ∷ f.room ∷ []

-- the same, and the count of contacts
abbrev pub best_words : Best → List ℕ
best_words b = figure_words b.figures ++ b.count ∷ []

-- the same, and the booking's place
abbrev pub place_words : Placed → List ℕ
place_words p = figure_words p.figures ++ p.count ∷ p.place ∷ []

-- nothing more
abbrev pub no_words : ⊤ → List ℕ
no_words done = []

-- a refusal: its number and its place
abbrev pub refusal_words : Refusal → List ℕ
refusal_words why = number_of why ∷ place_of why ∷ []

-- two noughts and the words of what is told, or a refusal's
abbrev pub answer_words_of : {T : Type 0} → (T → List ℕ) → Result T Refusal → List ℕ
answer_words_of words_of (Ok told) = 0 ∷ 0 ∷ words_of told
answer_words_of words_of (Err why) = refusal_words why

abbrev pub read_words : Result Counts Refusal → List ℕ
read_words = answer_words_of count_words

abbrev pub written_words : Result ℕ Refusal → List ℕ
written_words = answer_words_of length_words

abbrev pub walked_words : Result Figures Refusal → List ℕ
walked_words = answer_words_of figure_words

abbrev pub routed_words : Result Best Refusal → List ℕ
routed_words = answer_words_of best_words

abbrev pub placed_words : Result Placed Refusal → List ℕ
placed_words = answer_words_of place_words

abbrev pub released_words : Result ⊤ Refusal → List ℕ
released_words = answer_words_of no_words

-- the first of the words is returned; the words stand in front in the lent answer, and those behind them are as they were
pub record Answered (ws answer : List ℕ) (number : ℕ) (answer' : List ℕ) : Type 0 where
  pub number_is : number ≡ get_or ws 0 0
  pub answer_is : answer' ≡ ws ++ drop (length ws) answer
