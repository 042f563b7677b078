-- The measure of `limit_part`: the number of contacts that remain, which falls by one.
use Rattle.std.proofs.Common.{length}
use Rattle.walk.proofs.last_call.+limit_part.Given as goal

abbrev pub decreases-limit_part : goal.decreases-limit_part
decreases-limit_part l = length l.chain.now
