-- `search_layers::rows::Layers::get` meets its contract.
-- Assumes nothing.
use Rattle.search_layers.proofs.FillCode.{inside}
use Rattle.search_layers.proofs.rows.Layers.get.Goals as goal

pub get-requires : goal.get-requires
get-requires c = (inside c.args.self.now _ c.requires.0, c.requires.1)

pub returns-clause-good : goal.returns-clause-good
returns-clause-good c = c.get.ensures.good c.args.self.now.timed
