use Rattle.std.proofs.Common.{◌+◌, drop, refl}
use Rattle.storage_swap.proofs.BuilderLemmas.{builds-follow, leads-none, leads-more, if-refused}
use Rattle.cell_plans.proofs.AreaWalks.{next_record, records_done, record_room, record_refused, never}
use Rattle.cell_plans.proofs.giving_back.push_all.Goals as goal

pub loop-k-init : goal.loop-k-init
loop-k-init c = leads-none _ _ _ c.requires

pub returns-in_err-push-clause-builds : goal.returns-in_err-push-clause-builds
returns-in_err-push-clause-builds c = builds-follow _ _ _ _ _ _ c.loop-k.invariant.builds c.push.ensures.builds

pub returns-in_err-push-clause-needless : goal.returns-in_err-push-clause-needless
returns-in_err-push-clause-needless c = λ room.
    never (c.in_err-push.ensures.needless (record_room _ _ _ _ c.args.records.now c.loop-k.k c.loop-k.invariant c.loop-k-test.true room))

pub returns-in_err-push-clause-made : goal.returns-in_err-push-clause-made
returns-in_err-push-clause-made c =
    if-refused _ c.from_residual.result
    (record_refused _ _ _ _ c.args.records.now c.loop-k.k c.loop-k.invariant c.push.new.storage.elements c.loop-k-test.true c.in_err-push.ensures.made)

pub loop-k-preserved : goal.loop-k-preserved
loop-k-preserved c =
    leads-more _ _ _ _ _ _ c.loop-k.invariant _ _ _ (drop (c.loop-k.k + 1) c.args.records.now)
    (next_record c.args.records.now c.loop-k.k _ c.loop-k-test.true) c.push.ensures.builds c.in_ok-push.ensures.ok

pub returns-clause-builds : goal.returns-clause-builds
returns-clause-builds c = c.loop-k.invariant.builds

pub returns-clause-ok : goal.returns-clause-ok
returns-clause-ok c = records_done _ _ _ _ c.args.records.now c.loop-k.k c.loop-k.invariant c.loop-k-test.false

pub returns-clause-needless : goal.returns-clause-needless
returns-clause-needless c = λ room. refl
