use Rattle.std.proofs.Common.{arith}
use Rattle.storage_swap.specs.Storage.{state_of}
use Rattle.cell_plans.specs.Areas.{first_areas}
use Rattle.cell_plans.specs.Emptied.{freed}
use Rattle.cell_plans.proofs.FreeEnds.{goes_on, all_free, not_all_free}
use Rattle.cell_plans.proofs.emptied.is_free.Goals as goal

pub loop-doubleword-init : goal.loop-doubleword-init
loop-doubleword-init c = record {
  from = omega arith;
  each = λ d from below. absurd (omega (arith, from, below));
}

pub returns-then-end-doubleword : goal.returns-then-end-doubleword
returns-then-end-doubleword c =
    let free = (freed (state_of c.args.storage.now).subpools c.args.subpool (first_areas (state_of c.args.storage.now) c.args.given)).free c.args.subpool in
    not_all_free free c.args.area.start c.args.area.len c.loop-doubleword.doubleword c.end_of_free-end.result c.loop-doubleword.invariant.from
    (omega arith) c.end_of_free-end.ensures c.if-end-doubleword.true

pub loop-doubleword-preserved : goal.loop-doubleword-preserved
loop-doubleword-preserved c =
    let free = (freed (state_of c.args.storage.now).subpools c.args.subpool (first_areas (state_of c.args.storage.now) c.args.given)).free c.args.subpool in
    let its = c.end_of_free-end.ensures.from in
    record {
      from = omega (arith, its, c.loop-doubleword.invariant.from);
      each = goes_on free c.args.area.start c.loop-doubleword.doubleword c.end_of_free-end.result c.loop-doubleword.invariant.each c.end_of_free-end.ensures;
    }

pub returns : goal.returns
returns c =
    let free = (freed (state_of c.args.storage.now).subpools c.args.subpool (first_areas (state_of c.args.storage.now) c.args.given)).free c.args.subpool in
    all_free free c.args.area.start c.args.area.len c.loop-doubleword.doubleword (omega arith) c.loop-doubleword.invariant.each
