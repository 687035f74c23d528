use Rattle.std.proofs.Common.{ℕ, ◌+◌, ◌++◌, ap, ◌∙◌, arith, length, length-append}
use Rattle.vsm_elements.specs.Owners.{times}
use Rattle.vsm_elements.proofs.TimesLemmas.{times-append}
use Rattle.cell_pool.specs.CellPools
use Rattle.subpool_set.specs.SubpoolSet.{owned, queue_ids}
use Rattle.subpool_storage.specs.SubpoolStorage.{hold}
use Rattle.subpool_storage.proofs.LiftLemmas.{set_gone, set_gone_moves}
use Rattle.subpool_storage.proofs.storage.SubpoolStorage.discard.Goals as goal

pub discard-requires-2 : goal.discard-requires-2
discard-requires-2 c = (set_gone c.args.elements.now c.discard.new.elements c.args.self c.requires c.discard.ensures).stand

pub returns-clause-moves : goal.returns-clause-moves
returns-clause-moves c = set_gone_moves c.args.elements.now c.discard.new.elements c.args.self c.requires c.discard.ensures c.discard-2.new.elements c.discard-2.ensures

pub returns-clause-spares : goal.returns-clause-spares
unfolding hold
returns-clause-spares c =
    let s = c.args.elements.now in
    let q = c.args.self.set in
    let cells = CellPools.owned s c.args.self.cells in
    record {
      ids = (owned s q ++ queue_ids s q) ++ cells;
      held = λ i. times-append i (owned s q ++ queue_ids s q) cells ∙ ap (λ (z : ℕ). z + times i cells) (times-append i (owned s q) (queue_ids s q));
      spare = omega (arith, c.discard.ensures.spare, c.discard-2.ensures.spare, ap length ((set_gone s c.discard.new.elements c.args.self c.requires c.discard.ensures).elements), length-append (owned s q ++ queue_ids s q) cells);
    }
