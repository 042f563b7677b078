-- `service::serving::word_of` meets its contract.
-- Assumes nothing.
use Rattle.service.specs.Tables.{unranged}
use Rattle.service.proofs.ServingCode.{word_fits, ranged_word, unranged_word}
use Rattle.service.proofs.serving.word_of.Goals as goal

pub overflow_cast-result : goal.overflow_cast-result
overflow_cast-result c = record { fits = word_fits _ _ c.requires c.in-Some.is }

pub returns-in-Some : goal.returns-in-Some
returns-in-Some c = ranged_word _ _ c.requires c.in-Some.is

pub returns-in-None : goal.returns-in-None
unfolding unranged
returns-in-None c = unranged_word _ c.in-None.is
