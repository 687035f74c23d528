use Rattle.std.proofs.Common.{◌≡◌, ℕ, ◌+◌, length}
use Rattle.raw_region.specs.Pages.{SamePages, SameTables}
use Rattle.raw_region.specs.Parked.{AreZeros}
use Rattle.raw_region.proofs.region.Region.park_zeros.Given as goal

abbrev pub invariant-loop-k : goal.invariant-loop-k
invariant-loop-k l = record {
  frames : AreZeros l.parked l.first l.k;
  count : length l.parked ≡ l.k;
  pages : SamePages l.initial.self l.self;
  tables : SameTables l.initial.self l.self;
  spare : l.self.spare + l.k ≡ l.initial.self.spare;
  out : l.self.out ≡ l.initial.self.out + l.k;
  made : l.self.made ≡ l.initial.self.made;
}
