use Rattle.std.proofs.Common.{sym}
use Rattle.subpool_storage.specs.SubpoolStorage.{subpool_before}
use Rattle.subpool_storage.proofs.ExtentLemmas.{extents_held, free_held}
use Rattle.subpool_storage.proofs.PlaceLemmas.{before_there}
use Rattle.subpool_storage.proofs.PutLemmas.{both_stand, pages_there, free_there}
use Rattle.subpool_storage.proofs.storage.SubpoolStorage.queues_at.Goals as goal

pub returns-clause-extents : goal.returns-clause-extents
returns-clause-extents c =
    let there = before_there c.args.elements.now c.args.self.now c.args.place c.subpool.result c.queues.result c.subpool.ensures c.queues.ensures in
    (both_stand c.args.elements.now c.args.elements.now c.args.self.now (subpool_before c.args.elements.now c.args.place) c.subpool.result c.queues.result c.requires.stands there).extents

pub returns-clause-free : goal.returns-clause-free
returns-clause-free c =
    let there = before_there c.args.elements.now c.args.self.now c.args.place c.subpool.result c.queues.result c.subpool.ensures c.queues.ensures in
    (both_stand c.args.elements.now c.args.elements.now c.args.self.now (subpool_before c.args.elements.now c.args.place) c.subpool.result c.queues.result c.requires.stands there).free

pub returns-clause-pages : goal.returns-clause-pages
returns-clause-pages c p =
    let there = before_there c.args.elements.now c.args.self.now c.args.place c.subpool.result c.queues.result c.subpool.ensures c.queues.ensures in
    sym (pages_there c.args.elements.now c.args.elements.now c.args.self.now (subpool_before c.args.elements.now c.args.place) c.subpool.result c.queues.result c.requires.stands there p)

pub returns-clause-areas : goal.returns-clause-areas
returns-clause-areas c d =
    let there = before_there c.args.elements.now c.args.self.now c.args.place c.subpool.result c.queues.result c.subpool.ensures c.queues.ensures in
    sym (free_there c.args.elements.now c.args.elements.now c.args.self.now (subpool_before c.args.elements.now c.args.place) c.subpool.result c.queues.result c.requires.stands there d)

pub returns-clause-held : goal.returns-clause-held
returns-clause-held c i =
    let there = before_there c.args.elements.now c.args.self.now c.args.place c.subpool.result c.queues.result c.subpool.ensures c.queues.ensures in
    extents_held c.args.elements.now c.args.self.now (subpool_before c.args.elements.now c.args.place).number (subpool_before c.args.elements.now c.args.place).owner (record { id = c.subpool.result; queues = c.queues.result }) c.requires.stands there i

pub returns-clause-areas_held : goal.returns-clause-areas_held
returns-clause-areas_held c i =
    let there = before_there c.args.elements.now c.args.self.now c.args.place c.subpool.result c.queues.result c.subpool.ensures c.queues.ensures in
    free_held c.args.elements.now c.args.self.now (subpool_before c.args.elements.now c.args.place).number (subpool_before c.args.elements.now c.args.place).owner (record { id = c.subpool.result; queues = c.queues.result }) c.requires.stands there i
