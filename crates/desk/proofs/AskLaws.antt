-- What the crates above cite of an ask line: it gives exactly one answer.
--     good_ask_tells            the test of an ask's values
--     reads_ask_some            there is an answer for every line and place
--     reads_ask_determined      there is one at the most
-- Assumes nothing.
use mathlib.Core.Bool.{Bool, true, false, false≢true}
use mathlib.Core.Path.{◌≡◌, refl, sym, ◌∙◌}
use Rattle.std.specs.Prelude.{Result}
use Prim.Native.Nat.{ℕ, ◌≤◌}
use Rattle.plan.specs.Verdict.{Verdict, holds, fails}
use Rattle.plan.proofs.Verdicts.{tells_le, both}
use Rattle.text.specs.Lines.{Line}
use Rattle.text.specs.Rows.{Shaped}
use Rattle.text.proofs.Shapes.{shaped_tells}
use Rattle.units.specs.declared.Ask.{Ask}
use Rattle.units.specs.declared.Refusal.{Refusal}
use Rattle.units.specs.Asks.{GoodAsk}
use Rattle.units.specs.Model.{good_ask}
use Rattle.units.proofs.AskLaws.{good_ask_says, good_ask_passes}
use Rattle.desk.specs.Asks.{ask_word, ask_numbers, ask_said, most_excluded, ReadsAsk, bad_shape, bad_value, asked}

pub good_ask_tells : (ask : Ask) → Verdict (GoodAsk ask) (good_ask ask)
good_ask_tells ask = go (good_ask ask) refl
  where
    go : (b : Bool) → good_ask ask ≡ b → Verdict (GoodAsk ask) b
    go true e = holds (good_ask_says ask e)
    go false e = fails (λ g. false≢true (sym e ∙ good_ask_passes ask g))

pub reads_ask_some : (l : Line) (n : ℕ) → (r : Result Ask Refusal) × ReadsAsk l n r
reads_ask_some l n = go (shaped_tells ask_word ask_numbers l) (both (good_ask_tells (ask_said l)) (tells_le (ask_said l).excluded most_excluded))
  where
    go : {a b : Bool} → Verdict (Shaped ask_word ask_numbers l) a → Verdict (GoodAsk (ask_said l) × ((ask_said l).excluded ≤ most_excluded)) b
        → (r : Result Ask Refusal) × ReadsAsk l n r
    go (fails s) v = (_, bad_shape s)
    go (holds s) (fails v) = (_, bad_value s (λ r. v (r.good, r.excluded_most)))
    go (holds s) (holds v) = (_, asked s (record { good = v.0; excluded_most = v.1 }))

module _ {l : Line} {n : ℕ} where
  pub reads_ask_determined : {a b : Result Ask Refusal} → ReadsAsk l n a → ReadsAsk l n b → a ≡ b
  reads_ask_determined (bad_shape h) (bad_shape h') = refl
  reads_ask_determined (bad_shape h) (bad_value s r) = absurd (h s)
  reads_ask_determined (bad_shape h) (asked s r) = absurd (h s)
  reads_ask_determined (bad_value s r) (bad_shape h) = absurd (h s)
  reads_ask_determined (bad_value s r) (bad_value s' r') = refl
  reads_ask_determined (bad_value s r) (asked s' r') = absurd (r r')
  reads_ask_determined (asked s r) (bad_shape h) = absurd (h s)
  reads_ask_determined (asked s r) (bad_value s' r') = absurd (r' r)
  reads_ask_determined (asked s r) (asked s' r') = refl
