-- What the code of an ask line computes. A reader of the promises may skip it.
--     ends_in        the bytes end in those
--     judged_ask     what a line of good shape gives, by its numbers as far as 64 bits hold them
-- Assumes nothing.
use Rattle.std.specs.Prelude.{Bool, true, false, not, ◌&&◌, ◌||◌, List, [], ◌∷◌, ℕ, ◌-◌, eqb, length, get_or, drop, cond, Result, Ok, Err}
use Rattle.units.specs.declared.Ask.{Ask}
use Rattle.units.specs.declared.Refusal.{Refusal}
use Rattle.units.specs.declared.Refusal.TheVariants.{AskValue}
use Rattle.text.specs.Lines.{tab}
use Rattle.text.specs.Model.{same}
use Rattle.units.specs.Model.{good_ask}
use Rattle.desk.specs.Asks.{ask_of_numbers, most_excluded}

unfoldable pub ends_in : List ℕ → List ℕ → Bool
ends_in tail bytes = same (drop (length bytes - length tail) bytes) tail

-- the digits of the largest exclusion number
unfoldable pub most_digits : List ℕ
most_digits =
    49 ∷ 56 ∷ 52 ∷ 52 ∷ 54 ∷ 55 ∷ 52 ∷ 52 ∷ 48 ∷ 55 ∷ 51 ∷ 55 ∷ 48 ∷ 57 ∷ 53 ∷ 53 ∷ 49 ∷ 54 ∷ 49 ∷ 53 ∷ []

-- the exclusion number is in its range: 64 bits cut a larger one to the largest, whose digits it has not
unfoldable pub good_excluded : List ℕ → ℕ → Bool
good_excluded line n = not (eqb n most_excluded) || ends_in (tab ∷ most_digits) line

unfoldable pub judged_ask : List ℕ → List ℕ → Result Ask Refusal
judged_ask line row =
    cond (good_ask (ask_of_numbers row) && good_excluded line (get_or row 5 0)) (Ok (ask_of_numbers row)) (Err AskValue)
