-- `search_layers::trying::try_changed` meets its contract.
-- Assumes nothing.
use Rattle.search_layers.proofs.NetworkLaws.{node_below}
use Rattle.search_layers.proofs.TriedCode.{tried_skipped}
use Rattle.search_layers.proofs.trying.try_changed.Goals as goal

pub returns-then-word-clause-tried : goal.returns-then-word-clause-tried
returns-then-word-clause-tried c =
    let pre = c.requires in
    tried_skipped _ _ _ _ _ pre.inside.0 (node_below _ pre.inside.1) pre.older pre.lower _ _ c.word.ensures c.word-2.ensures c.if-word.true
