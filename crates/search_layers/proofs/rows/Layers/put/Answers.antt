-- `search_layers::rows::Layers::put` meets its contract.
-- Assumes nothing.
use mathlib.Core.Logic.{inl}
use mathlib.Core.Path.{ap, ◌∙◌}
use lib.ListN.{set, length-set}
use Rattle.search_layers.proofs.RowLaws.{time_set}
use Rattle.search_layers.proofs.rows.Layers.put.Goals as goal

pub invariant_of-self : goal.invariant_of-self
invariant_of-self c = record {
  full = length-set _ _ _ ∙ c.args.self.now.full;
  timed = time_set _ _ _ c.args.self.now.timed (inl c.requires.2);
}

pub returns-clause-stored : goal.returns-clause-stored
returns-clause-stored c = ap (λ i. set c.args.self.now.words.now i c.args.time.0) c.place-at.ensures.0
