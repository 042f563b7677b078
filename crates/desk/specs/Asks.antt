-- What reading an ask line gives: the ask, or a refusal with its place (proofs/AskLaws.antt: exactly one of them).
--     ask_said       the ask that a line of good shape says
--     ReadsAsk      what reading the line gives; `n` is the line's place in the input
-- Assumes nothing.
use Rattle.std.specs.Prelude.{List, [], ◌∷◌, map, ℕ, ◌≤◌, get_or, Result, Ok, Err}
use Rattle.units.specs.declared.Ask.{Ask}
use Rattle.units.specs.declared.Refusal.{Refusal}
use Rattle.units.specs.declared.Refusal.TheVariants.{AskValue, AskShape}
use Rattle.text.specs.Digits.{value}
use Rattle.text.specs.Lines.{Line}
use Rattle.text.specs.Rows.{Shaped}
use Rattle.units.specs.Asks.{GoodAsk}

unfoldable pub ask_word : List ℕ
ask_word = 97 ∷ 115 ∷ 107 ∷ []

-- `ask` source destination time size deadline excluded
abbrev pub ask_numbers : ℕ
ask_numbers = 6

-- the ask that six numbers are
abbrev pub ask_of_numbers : List ℕ → Ask
ask_of_numbers ns = record {
  source = record { 0 = get_or ns 0 0 };
  destination = record { 0 = get_or ns 1 0 };
  time = record { 0 = get_or ns 2 0 };
  size = get_or ns 3 0;
  deadline = record { 0 = get_or ns 4 0 };
  excluded = get_or ns 5 0;
}

-- the ask that a line of good shape says: the values of its fields
unfoldable pub ask_said : Line → Ask
ask_said l = ask_of_numbers (map value l.fields)

-- the largest exclusion number: 64 bits
unfoldable pub most_excluded : ℕ
most_excluded = 18_446_744_073_709_551_615

-- every value in its range, the exclusion too
pub record InRange (ask : Ask) : Type 0 where
  pub good : GoodAsk ask
  pub excluded_most : ask.excluded ≤ most_excluded

-- 17 at the line's place where its shape is bad; else 11 where a value is out of its range; else the ask
pub data ReadsAsk (l : Line) (n : ℕ) : Result Ask Refusal → Type 0 where
  bad_shape : (Shaped ask_word ask_numbers l → ⊥) → ReadsAsk l n (Err (AskShape n))
  bad_value : Shaped ask_word ask_numbers l → (InRange (ask_said l) → ⊥) → ReadsAsk l n (Err AskValue)
  asked : Shaped ask_word ask_numbers l → InRange (ask_said l) → ReadsAsk l n (Ok (ask_said l))
