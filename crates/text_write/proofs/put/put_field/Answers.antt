-- `text_write::put::put_field` meets its contract.
-- Assumes nothing.
use mathlib.Core.List.{[], ◌∷◌}
use Rattle.text.specs.Lines.{tab}
use Rattle.text_write.proofs.PutCode.{wrote_then}
use Rattle.text_write.proofs.put.put_field.Goals as goal

pub returns : goal.returns
returns c =
    wrote_then _ _ _ _ _ _ (tab ∷ []) _ c.requires c.put_byte-next.ensures c.put_number.ensures
