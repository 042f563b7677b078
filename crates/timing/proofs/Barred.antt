-- The exclusion in the request's words. Which nodes a number excludes is said in Exclusion.antt.
--     barred_exactly         a contact is barred exactly where it is from the source and its receiver is excluded
--     unbarred_exactly       and is not barred exactly where it is not so
-- Assumes nothing.
use mathlib.Core.Bool.{Bool, true, false}
use mathlib.Core.Logic.{◌↔◌}
use mathlib.Core.Path.{◌≡◌, refl, sym, subst}
use lib.Dec.{T}
use Rattle.units.specs.declared.Ask.{Ask}
use Rattle.plan.specs.declared.rows.Contact.{Contact}
use Rattle.plan.specs.Verdict.{Verdict, holds, fails}
use Rattle.plan.proofs.Verdicts.{tells_eq, both, true_holds, false_fails, holds_true}
use Rattle.timing.specs.Hop.{is_excluded, is_barred}

-- it goes from the source to an excluded neighbour
abbrev pub ToExcluded : Ask → Contact → Type 0
ToExcluded ask c = (c.from.0 ≡ ask.source.0) × (is_excluded ask.excluded c.to.0 ≡ true)

tells_true : (b : Bool) → Verdict (b ≡ true) b
tells_true true = holds refl
tells_true false = fails (λ e. subst T (sym e) tt)

barred_tells : (ask : Ask) (c : Contact) → Verdict (ToExcluded ask c) (is_barred ask c)
unfolding is_barred
barred_tells ask c = both (tells_eq _ _) (tells_true _)

fails_false : {A : Type 0} {b : Bool} → Verdict A b → (A → ⊥) → b ≡ false
fails_false (holds x) n = absurd (n x)
fails_false (fails x) n = refl

pub barred_exactly : (ask : Ask) (c : Contact) → (is_barred ask c ≡ true) ↔ ToExcluded ask c
barred_exactly ask c = (λ e. true_holds (barred_tells ask c) e, λ x. holds_true (barred_tells ask c) x)

pub unbarred_exactly : (ask : Ask) (c : Contact) → (is_barred ask c ≡ false) ↔ (ToExcluded ask c → ⊥)
unbarred_exactly ask c = (λ e. false_fails (barred_tells ask c) e, λ n. fails_false (barred_tells ask c) n)
