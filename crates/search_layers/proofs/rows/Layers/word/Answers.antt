-- `search_layers::rows::Layers::word` meets its contract.
-- Assumes nothing.
use Rattle.search_layers.proofs.FillCode.{inside}
use Rattle.search_layers.proofs.rows.Layers.word.Goals as goal

pub word-requires : goal.word-requires
word-requires c = (inside c.args.self.now _ c.requires.0, c.requires.1)
