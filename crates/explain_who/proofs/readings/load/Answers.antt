use Rattle.std.proofs.Common.{Some, None, OnOk, OnErr, ◌≡◌, length, subst}
use Rattle.vsm_model.specs.Bytes.{load}
use Rattle.explain_who.proofs.readings.load.Goals as goal

pub returns-clause-ok : goal.returns-clause-ok
returns-clause-ok c =
    subst (λ s. OnOk c.load.result (load s c.args.address (length c.args.out.now) ≡ Some c.load.new.out)) c.storage.ensures.state c.load.ensures.ok

pub returns-clause-err : goal.returns-clause-err
returns-clause-err c =
    subst (λ s. OnErr c.load.result (load s c.args.address (length c.args.out.now) ≡ None)) c.storage.ensures.state c.load.ensures.err
