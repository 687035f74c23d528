use Rattle.std.proofs.Common.{◌≡◌, ◌+◌, length}
use Rattle.raw_region.proofs.chain.FrameChain.release.Given as goal

abbrev pub invariant-loop-held : goal.invariant-loop-held
invariant-loop-held l = l.count + length l.rest ≡ length l.initial.rest

abbrev pub decreases-loop-held : goal.decreases-loop-held
decreases-loop-held l = length l.rest
