use Rattle.std.proofs.Common.{ap, arith}
use Rattle.vsm_elements.specs.Owners.{times}
use Rattle.subpool_storage.specs.SubpoolStorage.{hold, Stands}
use Rattle.subpool_storage.proofs.LawLemmas.{none_held}
use Rattle.subpool_storage.proofs.storage.SubpoolStorage.new.Goals as goal

pub returns-clause-stands : goal.returns-clause-stands
unfolding Stands
returns-clause-stands c s = record {
  set = c.new.ensures.set s;
  queues = c.new.ensures.queues s;
  cells = c.new-2.ensures.pools s;
  apart = λ i. omega (arith, ap (times i) (c.new.ensures.owned s), ap (times i) (c.new-2.ensures.owned s), none_held s c.new.result (c.new.ensures.set s) (c.new.ensures.empty s) i);
}

pub returns-clause-owned : goal.returns-clause-owned
unfolding hold
returns-clause-owned c s i = omega (arith, ap (times i) (c.new.ensures.owned s), ap (times i) (c.new-2.ensures.owned s), none_held s c.new.result (c.new.ensures.set s) (c.new.ensures.empty s) i)
