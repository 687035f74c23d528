use Rattle.std.proofs.Common.{sym, ◌∙◌, arith}
use Rattle.subpool_storage.specs.Extents.{extents}
use Rattle.storage_core.specs.Meaning.{state_in_place}
use Rattle.storage_core.proofs.Walking.{none_behind}
use Rattle.storage_core.proofs.storage.Storage.extent_at.Goals as goal

pub returns-in_err-place : goal.returns-in_err-place
returns-in_err-place c =
    let all = extents (state_in_place c.args.self.now).subpools c.args.subpool in
    c.from_residual.ensures
    ∙ sym (none_behind all c.loop.counter c.args.i
    (sym (c.in_err-place.ensures.is c.args.subpool c.loop.counter c.loop.invariant)) (omega (arith, c.loop-test.true)))
