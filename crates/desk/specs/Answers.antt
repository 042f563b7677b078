-- What writing an answer's line gives, and every lent byte after it (proofs/AnswerLaws.antt: no two results meet it, and how long a line can be).
--     answer_line        the line of an answer
--     HasChain          the lent chain holds the contacts that the answer counts
--     WritesAnswer      the line of an answer is written into lent bytes
-- Assumes nothing.
use Rattle.std.specs.Prelude.{List, [], ◌∷◌, ◌++◌, ℕ, ◌≤◌, ◌<◌, length, take, drop, Result, Ok, Err}
use Rattle.units.specs.Limits.{most_chain}
use Rattle.units.specs.Refusals.{number_of, place_of}
use Rattle.units.specs.declared.Refusal.{Refusal}
use Rattle.units.specs.declared.Refusal.TheVariants.{NoPlan, ShortOutput}
use Rattle.text.specs.Lines.{Line, glue_line}
use Rattle.text.specs.Rows.{line_of}
use Rattle.search.specs.declared.answer.Best.{Best}

unfoldable pub route_word : List ℕ
route_word = 114 ∷ 111 ∷ 117 ∷ 116 ∷ 101 ∷ []

unfoldable pub refused_word : List ℕ
refused_word = 114 ∷ 101 ∷ 102 ∷ 117 ∷ 115 ∷ 101 ∷ 100 ∷ []

-- `route` delivery opens last-call room count and the contact numbers, or `refused` number place
unfoldable pub answer_line : Result Best Refusal → List ℕ → Line
answer_line (Ok best) chain =
    let f = best.figures in
    line_of route_word (f.delivery.0 ∷ f.opens.0 ∷ f.last_call.0 ∷ f.room ∷ best.count ∷ take best.count chain)
answer_line (Err why) chain = line_of refused_word (number_of why ∷ place_of why ∷ [])

-- its bytes: tabbed, and ended by a line feed
unfoldable pub answer_bytes : Result Best Refusal → List ℕ → List ℕ
answer_bytes answer chain = glue_line (answer_line answer chain)

-- the lent chain has the places that the answer counts, which are no more than a best chain can have
pub data HasChain (chain : List ℕ) : Result Best Refusal → Type 0 where
  of_best : {best : Best} → best.count ≤ most_chain → best.count ≤ length chain → HasChain chain (Ok best)
  of_refusal : {why : Refusal} → HasChain chain (Err why)

-- 9 where the chain does not hold what the answer counts; else 10 with the line's length where the output is shorter, and no lent byte changes; else
-- the line's length: the first bytes of the output are then the line, and only they change
pub data WritesAnswer (answer : Result Best Refusal) (chain out : List ℕ) : Result ℕ Refusal → List ℕ → Type 0 where
  no_chain : (HasChain chain answer → ⊥) → WritesAnswer answer chain out (Err NoPlan) out
  too_short : HasChain chain answer → length out < length (answer_bytes answer chain)
      → WritesAnswer answer chain out (Err (ShortOutput (length (answer_bytes answer chain)))) out
  written : HasChain chain answer → length (answer_bytes answer chain) ≤ length out
      → WritesAnswer answer chain out (Ok (length (answer_bytes answer chain)))
      (answer_bytes answer chain ++ drop (length (answer_bytes answer chain)) out)
