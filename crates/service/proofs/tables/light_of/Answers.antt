-- `service::tables::light_of` meets its contract.
-- Assumes nothing.
use Rattle.service.specs.Tables.{unranged}
use Rattle.service.proofs.TablesCode.{word_unranged, word_ranged}
use Rattle.service.proofs.tables.light_of.Goals as goal

pub returns-then-word-eq-UNRANGED : goal.returns-then-word-eq-UNRANGED
unfolding unranged
returns-then-word-eq-UNRANGED c = word_unranged _ c.if-word-eq-UNRANGED.true

pub returns-else-word-eq-UNRANGED : goal.returns-else-word-eq-UNRANGED
unfolding unranged
returns-else-word-eq-UNRANGED c = word_ranged _ c.if-word-eq-UNRANGED.false
