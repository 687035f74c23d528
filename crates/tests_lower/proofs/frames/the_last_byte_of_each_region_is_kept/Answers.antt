use Rattle.std.proofs.Common.{inl, arith}
use Rattle.tests_lower.proofs.frames.the_last_byte_of_each_region_is_kept.Goals as goal

pub reserve_segments-requires : goal.reserve_segments-requires
reserve_segments-requires g c p low high = c.in_ok-region.ensures.segments p (inl (omega arith, omega arith))
