-- `text_lines::number::value_of` meets its contract.
-- Assumes nothing.
use Rattle.std.proofs.Common.{◌≡◌, ◌∙◌, ◌+◌, ◌-◌, ◌*◌, rules}
use Rattle.std.specs.List.{fold}
use Rattle.text.specs.Digits.{nought}
use Rattle.text.specs.Model.{capped}
use Rattle.text_lines.proofs.BytesCode.{value_is}
use Rattle.text_lines.proofs.number.value_of.Goals as goal

pub returns : goal.returns
returns c =
    let told : c.fold.result ≡ fold (λ w b. capped (w * 10 + (b - nought))) 0 c.args.s.now = search rules in
    told ∙ value_is _
