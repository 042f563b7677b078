-- `service::serving::volume_of` meets its contract.
-- Assumes nothing.
use mathlib.Core.Path.{refl}
use Rattle.service.specs.Service.{volume}
use Rattle.service.proofs.ServingCode.{volume_room}
use Rattle.service.proofs.serving.volume_of.Goals as goal

pub overflow_mul-result : goal.overflow_mul-result
overflow_mul-result c = record { fits = volume_room c.args.c c.requires }

pub returns : goal.returns
unfolding volume
returns c = refl
