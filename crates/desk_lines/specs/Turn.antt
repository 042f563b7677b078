-- What the functions inside a step say. A reader of the promises may skip it.
--     AnswersInto      a line answered behind the bytes used
-- Assumes nothing.
use Rattle.std.specs.Prelude.{List, ◌++◌, ◌≡◌, ℕ, ◌+◌, ◌≤◌, length, take, drop}
use Rattle.text.specs.Lines.{Line}

pub record AnswersInto {S : Type 0} (Says : S → Line → ℕ → List ℕ → S → Type 0) (s : S) (l : Line) (n : ℕ) (out : List ℕ) (used : ℕ) (t : S) (r : ℕ)
    (out' : List ℕ) : Type 0 where
  pub one : List ℕ
  pub says : Says s l n one t
  pub ends : r ≡ used + length one
  pub fits : r ≤ length out
  pub puts : out' ≡ take used out ++ (one ++ drop (length one) (drop used out))
