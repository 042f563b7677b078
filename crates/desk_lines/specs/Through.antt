-- What answering the lines of an input means, a buffer at a time, whatever the answer of one line is: `Says s l n bytes t` says that in the state s the
-- line l, whose place in the input is n, is answered with these bytes, and that the state is t then (proofs/ThroughLaws.antt: where a line has one answer,
-- no two results of a step are right, each step goes on, and the steps one after the other print the answers of all lines).
--     Prints            the answers of lines, one after the other
--     AnswersPart       the answers of the lines from a place of the input to another
--     Begun             how many lines so much room lets be begun
--     AnswersLines      what one step gives
--     Calls             what steps one after the other print
-- Assumes nothing.
use Rattle.std.specs.Prelude.{List, [], ◌∷◌, ◌++◌, ◌⊎◌, ◌≡◌, ℕ, suc, ◌+◌, ◌≤◌, ◌<◌, length, take, drop}
use Rattle.text.specs.Lines.{Line, lines_of, glue}

module _ {S : Type 0} (Says : S → Line → ℕ → List ℕ → S → Type 0) where
  -- the answers of the lines, in order; the first line's place is n
  pub data Prints : S → ℕ → List Line → List ℕ → S → Type 0 where
    none : {s : S} {n : ℕ} → Prints s n [] [] s
    next : {s t u : S} {n : ℕ} {l : Line} {ls : List Line} {one others : List ℕ} → Says s l n one t → Prints t (suc n) ls others u
        → Prints s n (l ∷ ls) (one ++ others) u

  -- the answers of exactly the lines of the input from byte `at` to byte `to`, which is behind their bytes; their places are n and on, up to before n'
  pub record AnswersPart (input : List ℕ) (s : S) (at n : ℕ) (t : S) (to n' : ℕ) (answers : List ℕ) : Type 0 where
    pub lines : List Line
    pub cut : lines_of (drop at input) ≡ lines ++ lines_of (drop to input)
    pub behind : to ≡ at + length (glue lines)
    pub counted : n' ≡ n + length lines
    pub prints : Prints s n lines answers t

  module _ (longest : ℕ) where
    -- so much room lets the last of the lines be begun: behind the answers before it there is room for the longest answer
    pub data Begun (s : S) (n room : ℕ) : List Line → Type 0 where
      nothing : Begun s n room []
      last : {t : S} {ls : List Line} {bytes : List ℕ} (l : Line) → Prints s n ls bytes t → length bytes + longest ≤ room → Begun s n room (ls ++ l ∷ [])

    -- the first `used` bytes of the output are the answers of the lines from `at` to the place reached, and only they change; a line is begun where the
    -- longest answer has room, and it stops only where there is none or the input ends
    pub record AnswersLines (input : List ℕ) (s : S) (at n : ℕ) (out : List ℕ) (t : S) (to n' used : ℕ) (out' : List ℕ) : Type 0 where
      pub answers : List ℕ
      pub part : AnswersPart input s at n t to n' answers
      pub begun : Begun s n (length out) part.lines
      pub ends : used ≡ length answers
      pub fits : used ≤ length out
      pub written : out' ≡ answers ++ drop (length answers) out
      pub stops : (length input ≤ to) ⊎ (length out < used + longest)

    -- steps one after the other, each from where the one before ended, until the input ends: what they print is the used bytes of each
    pub data Calls (input : List ℕ) : S → ℕ → ℕ → List ℕ → S → Type 0 where
      ended : {s : S} {at n : ℕ} → length input ≤ at → Calls input s at n [] s
      call : {s t u : S} {at n : ℕ} {out : List ℕ} {to n' used : ℕ} {out' printed : List ℕ} → AnswersLines input s at n out t to n' used out'
          → Calls input t to n' printed u → Calls input s at n (take used out' ++ printed) u
