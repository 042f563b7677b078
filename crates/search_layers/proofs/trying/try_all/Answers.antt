-- `search_layers::trying::try_all` meets its contract. The loop's invariant: the contacts from the nodes before `v` are tried, and if the words of none of them differed
-- the rows are as they were; the words are still the lent ones.
-- Assumes nothing.
use mathlib.Core.Path.{refl, sym, ◌∙◌, subst}
use native.Mathlib.Omega.{arith}
use lib.Dec.{T}
use Rattle.units.specs.Limits.{most_nodes}
use Rattle.search_layers.proofs.FillCode.{older_kept}
use Rattle.search_layers.proofs.TriedCode.{tried_none, tried_more, tried_nodes, still_lower}
use Rattle.search_layers.proofs.trying.try_all.Goals as goal
use Rattle.search_layers.proofs.trying.try_all.Goals.{then-try_changed, else-try_changed}

pub loop-v-init : goal.loop-v-init
loop-v-init c = (tried_none _ _ _ (λ c' here none. omega arith), λ e. refl, refl)

pub try_changed-requires-clause-older : goal.try_changed-requires-clause-older
try_changed-requires-clause-older c = older_kept _ _ _ _ _ c.loop-v.invariant.0.kept c.requires.older

pub try_changed-requires-clause-lower : goal.try_changed-requires-clause-lower
try_changed-requires-clause-lower c = still_lower _ _ _ _ c.requires.copied c.loop-v.invariant.0

pub loop-v-preserved : goal.loop-v-preserved
loop-v-preserved c =
    let inv = c.loop-v.invariant in
    let told = c.try_changed.ensures in (
      tried_more _ _ _ _ _ _ inv.0 told.tried,
      elim c.if-try_changed.branch [
        | then-try_changed w ↦ λ e. absurd (subst T (sym e ∙ w.same-is) tt)
        | else-try_changed w ↦ λ e. told.same w.if-try_changed.false ∙ inv.1 (sym w.same-is ∙ e)
      ],
      told.same_reference ∙ inv.2,
    )

pub returns-clause-row : goal.returns-clause-row
unfolding most_nodes
returns-clause-row c = tried_nodes c.args.net.now _ _ _ _ c.requires.inside c.requires.copied c.loop-v-test.false c.loop-v.invariant.0
