-- `search_layers::rows::Layers::copy_row` meets its contract.
-- Assumes nothing.
use mathlib.Core.Path.{◌∙◌}
use Rattle.units.specs.Limits.{most_nodes}
use Rattle.search_layers.proofs.CopyCode.{copied_timed, row_kept, row_copied, copied_row}
use Rattle.search_layers.proofs.rows.Layers.copy_row.Goals as goal

pub invariant_of-self : goal.invariant_of-self
unfolding most_nodes
invariant_of-self c =
    let told = c.copy_within.ensures in
    let by = told.by_index in
    let layers = c.args.self.now in record {
      full = told.len ∙ layers.full;
      timed = copied_timed _ _ _ c.requires layers.full told.len by.0 by.1 by.2 layers.timed;
    }

pub returns-clause-copied : goal.returns-clause-copied
unfolding most_nodes
returns-clause-copied c =
    let told = c.copy_within.ensures in
    let by = told.by_index in
    let full = c.args.self.now.full in
    copied_row _ _ _ (row_kept _ _ _ c.requires full told.len by.0 by.1 by.2) (row_copied _ _ _ c.requires full told.len by.0 by.1 by.2)
