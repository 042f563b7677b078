-- What `write_answer` knows of its line and of the promise.
--     line_parts                                       a line as its word, its fields and its line feed
--     line_counted                                     how long it is
--     put_word_room, put_first_room, put_rest_room, put_end_room, put_whole      its parts, one after the other
--     line_short, line_done                            what writing it gives
--     best_bad, best_written, refused_line, refused_written      the answers
-- Assumes nothing.
use mathlib.Core.List.{List, [], ◌∷◌, ◌++◌, map, append_assoc}
use mathlib.Core.Path.{◌≡◌, refl, sym, ap, ◌∙◌}
use Prim.Native.Nat.{ℕ, zero, suc, ◌+◌, ◌≤◌, ◌<◌}
use native.Mathlib.Omega.{arith}
use lib.ListN.{length, take, drop, length-append}
use Rattle.std.specs.Prelude.{Result, Ok, Err}
use Rattle.units.specs.Limits.{most_chain}
use Rattle.units.specs.Refusals.{number_of, place_of}
use Rattle.units.specs.declared.Refusal.{Refusal}
use Rattle.units.specs.declared.Refusal.TheVariants.{NoPlan, ShortOutput}
use Rattle.text.specs.Digits.{decimal}
use Rattle.text.specs.Lines.{line_feed, glue_fields, glue_line}
use Rattle.text.specs.Rows.{line_of}
use Rattle.text_write.specs.Model.{Wrote, field_bytes, line_bytes}
use Rattle.text_write.proofs.PutCode.{wrote_front, Onward, onward_start, onward_room, onward_step, onward_as}
use Rattle.search.specs.declared.answer.Best.{Best}
use Rattle.desk.specs.Answers.{route_word, refused_word, answer_line, answer_bytes, HasChain, of_best, of_refusal, WritesAnswer, no_chain, too_short, written}
use Rattle.desk.specs.Writing.{WritesLine, too_short as line-too-short, written as line-written}

-- ---- a line's parts

fields_append : (xs ys : List ℕ) → field_bytes (xs ++ ys) ≡ field_bytes xs ++ field_bytes ys
unfolding field_bytes glue_fields
fields_append [] ys = refl
fields_append (x ∷ xs) ys = rw (fields_append xs ys, append_assoc)

module _ (word first others : List ℕ) where
  abbrev Line : List ℕ
  Line = line_bytes word (first ++ others)

  -- the bytes behind the first numbers, and behind the word
  abbrev Last : List ℕ
  Last = field_bytes others ++ (line_feed ∷ [])

  abbrev Fields : List ℕ
  Fields = field_bytes first ++ Last

  line_parts : Line ≡ word ++ Fields
  unfolding line_bytes line_of glue_line field_bytes
  line_parts = rw (fields_append first others, append_assoc)

  pub line_counted : (a b : ℕ) → a ≡ length (field_bytes first) → b ≡ length (field_bytes others) → length word + a + b + 1 ≡ length Line
  line_counted a b ea eb = omega (arith, ea, eb, simp length-append at (ap length line_parts))

  module _ (out : List ℕ) (room : length Line ≤ length out) where
    begun : Onward out 0 Line out 0 (word ++ Fields)
    begun = onward_as Line (word ++ Fields) line_parts (onward_start out 0 Line (omega arith))

    pub put_word_room : length word ≤ length out
    put_word_room = omega (arith, onward_room word Fields begun)

    module _ (out₁ : List ℕ) (p : ℕ) (l : length out₁ ≡ length out) (w : Wrote out 0 word out₁ p) where
      worded : Onward out 0 Line out₁ p Fields
      worded = onward_step word Fields out₁ p begun l w

      pub put_first_room : p + length (field_bytes first) ≤ length out₁
      put_first_room = onward_room (field_bytes first) Last worded

      module _ (out₂ : List ℕ) (q : ℕ) (m : length out₂ ≡ length out₁) (v : Wrote out₁ p (field_bytes first) out₂ q) where
        begun_fields : Onward out 0 Line out₂ q Last
        begun_fields = onward_step (field_bytes first) Last out₂ q worded m v

        pub put_rest_room : q + length (field_bytes others) ≤ length out₂
        put_rest_room = onward_room (field_bytes others) (line_feed ∷ []) begun_fields

        module _ (out₃ : List ℕ) (r : ℕ) (n : length out₃ ≡ length out₂) (u : Wrote out₂ q (field_bytes others) out₃ r) where
          fielded : Onward out 0 Line out₃ r (line_feed ∷ [])
          fielded = onward_step (field_bytes others) (line_feed ∷ []) out₃ r begun_fields n u

          pub put_end_room : r < length out₃
          put_end_room = omega (arith, fielded.room)

          pub put_whole : (last : List ℕ) (s : ℕ) → Wrote out₃ r (line_feed ∷ []) last s → Wrote out 0 Line last s
          put_whole last s t = fielded.completes last s t

-- ---- what writing it gives

module _ (bytes out : List ℕ) (needed : ℕ) (e : needed ≡ length bytes) where
  pub line_short : length out < needed → WritesLine bytes out (Err (ShortOutput needed)) out
  line_short h = rw e (line-too-short (omega arith))

  pub line_done : needed ≤ length out → (last : List ℕ) (r : ℕ) → Wrote out 0 bytes last r → WritesLine bytes out (Ok needed) last
  line_done h last r w = rw (e, wrote_front w) (line-written (omega arith))

-- ---- the answers

answered : {answer : Result Best Refusal} {chain out last : List ℕ} {r : Result ℕ Refusal} → HasChain chain answer → WritesLine (answer_bytes answer chain) out r last
    → WritesAnswer answer chain out r last
answered has (line-too-short h) = too_short has h
answered has (line-written h) = written has h

module _ (best : Best) (chain out : List ℕ) where
  pub best_bad : (best.count ≤ most_chain → best.count ≤ length chain → ⊥) → WritesAnswer (Ok best) chain out (Err NoPlan) out
  best_bad f = no_chain bad
    where
      bad : HasChain chain (Ok best) → ⊥
      bad (of_best m l) = f m l

  pub best_written : best.count ≤ most_chain → best.count ≤ length chain → (r : Result ℕ Refusal) (last : List ℕ)
      → WritesLine (line_bytes route_word ((best.figures.delivery.0 ∷ best.figures.opens.0 ∷ best.figures.last_call.0 ∷ best.figures.room ∷ best.count ∷ []) ++ take best.count chain)) out r last
      → WritesAnswer (Ok best) chain out r last
  unfolding line_bytes answer_bytes answer_line
  best_written m l r last w = answered (of_best m l) w

module _ (why : Refusal) (out : List ℕ) (r : Result ℕ Refusal) (last : List ℕ) where
  pub refused_line : (n p : ℕ) → n ≡ number_of why → p ≡ place_of why → WritesLine (line_bytes refused_word ((n ∷ p ∷ []) ++ [])) out r last
      → WritesLine (answer_bytes (Err why) []) out r last
  unfolding line_bytes answer_bytes answer_line
  refused_line n p en ep w = rw (← en, ← ep) w

  pub refused_written : (chain : List ℕ) → WritesLine (answer_bytes (Err why) []) out r last → WritesAnswer (Err why) chain out r last
  unfolding answer_bytes answer_line
  refused_written chain w = answered of_refusal w

pub answer_is : (answer told : Result Best Refusal) (chain out : List ℕ) (r : Result ℕ Refusal) (last : List ℕ) → answer ≡ told → WritesAnswer told chain out r last
    → WritesAnswer answer chain out r last
answer_is answer told chain out r last e w = rw e w
