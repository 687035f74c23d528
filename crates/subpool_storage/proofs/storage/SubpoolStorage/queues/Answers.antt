use Rattle.std.proofs.Common.{sym, ap, ◌∙◌}
use Rattle.run_set.specs.Runs.{contains}
use Rattle.subpool_storage.specs.SubpoolStorage.{subpools_of, page_in, free_in}
use Rattle.descriptor_queue.specs.Extents.{owned}
use Rattle.subpool_storage.proofs.PutLemmas.{both_stand, pages_there, free_there}
use Rattle.subpool_storage.proofs.ExtentLemmas.{extents_held, free_held, none_held}
use Rattle.free_queue.specs.FreeQueue
use Rattle.subpool_storage.proofs.storage.SubpoolStorage.queues.Goals as goal

pub returns-in-Some-clause-extents : goal.returns-in-Some-clause-extents
returns-in-Some-clause-extents c =
    (both_stand c.args.elements.now c.args.elements.now c.args.self.now c.args.subpool c.in-Some.own.0 c.in-Some.own.1 c.requires c.in-Some.ensures.some).extents

pub returns-in-Some-clause-free : goal.returns-in-Some-clause-free
returns-in-Some-clause-free c =
    (both_stand c.args.elements.now c.args.elements.now c.args.self.now c.args.subpool c.in-Some.own.0 c.in-Some.own.1 c.requires c.in-Some.ensures.some).free

pub returns-in-Some-clause-pages : goal.returns-in-Some-clause-pages
returns-in-Some-clause-pages c p =
    sym (pages_there c.args.elements.now c.args.elements.now c.args.self.now c.args.subpool c.in-Some.own.0 c.in-Some.own.1 c.requires c.in-Some.ensures.some p)

pub returns-in-Some-clause-areas : goal.returns-in-Some-clause-areas
returns-in-Some-clause-areas c d =
    sym (free_there c.args.elements.now c.args.elements.now c.args.self.now c.args.subpool c.in-Some.own.0 c.in-Some.own.1 c.requires c.in-Some.ensures.some d)

pub returns-in-Some-clause-held : goal.returns-in-Some-clause-held
returns-in-Some-clause-held c i =
    extents_held c.args.elements.now c.args.self.now c.args.subpool.number c.args.subpool.owner (record { id = c.in-Some.own.0; queues = c.in-Some.own.1 }) c.requires c.in-Some.ensures.some i

pub returns-in-Some-clause-areas_held : goal.returns-in-Some-clause-areas_held
returns-in-Some-clause-areas_held c i =
    free_held c.args.elements.now c.args.self.now c.args.subpool.number c.args.subpool.owner (record { id = c.in-Some.own.0; queues = c.in-Some.own.1 }) c.requires c.in-Some.ensures.some i

pub returns-in-None-clause-pages : goal.returns-in-None-clause-pages
unfolding subpools_of
returns-in-None-clause-pages c p =
    ap (contains p) (c.new.ensures.empty c.args.elements.now) ∙ sym (ap (λ x. page_in c.args.elements.now x p) c.in-None.ensures.none)

pub returns-in-None-clause-areas : goal.returns-in-None-clause-areas
unfolding subpools_of
returns-in-None-clause-areas c d =
    ap (contains d) (c.new-in-None.ensures.empty c.args.elements.now) ∙ sym (ap (λ x. free_in c.args.elements.now x d) c.in-None.ensures.none)

pub returns-in-None-clause-held : goal.returns-in-None-clause-held
returns-in-None-clause-held c i = none_held c.args.elements.now c.args.self.now (owned c.args.elements.now c.new.result) (c.new.ensures.owned c.args.elements.now) i

pub returns-in-None-clause-areas_held : goal.returns-in-None-clause-areas_held
returns-in-None-clause-areas_held c i = none_held c.args.elements.now c.args.self.now (FreeQueue.owned c.args.elements.now c.new-in-None.result) (c.new-in-None.ensures.owned c.args.elements.now) i
