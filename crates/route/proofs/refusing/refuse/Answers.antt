-- `route::refusing::refuse` meets its contract: 305 bytes have room for the line of any refusal.
-- Assumes nothing.
use Rattle.std.proofs.Common.{arith}
use Rattle.route.proofs.RefusingCode.{refused_line, refused_fits}
use Rattle.route.proofs.refusing.refuse.Goals as goal

pub unreachable-requires : goal.unreachable-requires
unreachable-requires g c = refused_fits c.write_answer.ensures (omega (arith, c.place.ensures, c.place.type_inv)) (omega arith) _ c.in_default.is

pub print_refusal-requires : goal.print_refusal-requires
print_refusal-requires g c = refused_line c.write_answer.ensures _ c.in-Ok.is
