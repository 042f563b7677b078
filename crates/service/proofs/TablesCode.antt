-- The words of the table of light times.
--     word_unranged, word_ranged      the light time that a word stands for, by the test
-- Assumes nothing.
use mathlib.Core.Path.{◌≡◌}
use Prim.Native.Nat.{ℕ}
use borrow.Author.Tests.{eq-eqb, ne_eqb}
use Rattle.std.specs.Prelude.{Some, None}
use Rattle.service.specs.Tables.{unranged, light_word}

pub word_unranged : (w : ℕ) → w ≡ unranged → None ≡ light_word w
unfolding light_word
word_unranged w e = rw (eq-eqb w unranged e)

pub word_ranged : (w : ℕ) → (w ≡ unranged → ⊥) → Some (record { 0 = w }) ≡ light_word w
unfolding light_word
word_ranged w n = rw (ne_eqb w unranged n)
