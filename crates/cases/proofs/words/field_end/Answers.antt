-- `cases::words::field_end` meets its contract.
-- Assumes nothing.
use Rattle.std.proofs.Common.{arith, drop, length-drop}
use Rattle.text.specs.Lines.{tab}
use Rattle.text.proofs.Cuts.{up_to_le}
use Rattle.cases.proofs.words.field_end.Goals as goal

pub returns : goal.returns
returns c =
    let rest = drop c.args.from c.args.line.now in
    omega (arith, c.find.ensures, up_to_le tab rest, length-drop c.args.from c.args.line.now)
