use Rattle.std.proofs.Common.{[], arith, sym, ap, ◌∙◌}
use Rattle.vsm_elements.specs.Chain.{last_or}
use Rattle.storage_swap.specs.Builder.{Pushes}
use Rattle.storage_swap.specs.Growth.{MakesElements}
use Rattle.storage_swap.proofs.KeptLemmas.{over}
use Rattle.storage_swap.proofs.BuilderLemmas.{if-refused, grown-chain, grown-builds, grown-pushes, push-builds, push-pushes}
use Rattle.storage_swap.proofs.builder.ChangeBuilder.push.Goals as goal

pub returns-in_err-reserve-clause-builds : goal.returns-in_err-reserve-clause-builds
returns-in_err-reserve-clause-builds c = grown-builds c.args.storage.now c.args.self.now c.requires c.reserve.new.self c.reserve.ensures.kept c.reserve.ensures.aside

pub returns-in_err-reserve-clause-err : goal.returns-in_err-reserve-clause-err
returns-in_err-reserve-clause-err c =
    let p = c.args.storage.now in
    let b = c.args.self.now in
    if-refused (Pushes p b [] (over p c.reserve.new.self) b) c.from_residual.result (grown-pushes p b c.requires c.reserve.new.self c.reserve.ensures.kept c.reserve.ensures.aside c.reserve.ensures.grows c.reserve.ensures.live (omega (arith, c.reserve.ensures.made)))

pub returns-in_err-reserve-clause-made : goal.returns-in_err-reserve-clause-made
returns-in_err-reserve-clause-made c = if-refused (MakesElements c.args.storage.now.elements c.reserve.new.self 1) c.from_residual.result (omega (arith, c.reserve.ensures.made))

pub append-self-requires-clause-chain : goal.append-self-requires-clause-chain
append-self-requires-clause-chain c = (grown-chain c.args.storage.now c.args.self.now c.requires c.reserve.new.self c.reserve.ensures.kept c.reserve.ensures.aside).0

pub append-self-requires-clause-last : goal.append-self-requires-clause-last
append-self-requires-clause-last c = c.requires.last ∙ sym (ap (last_or 0) (grown-chain c.args.storage.now c.args.self.now c.requires c.reserve.new.self c.reserve.ensures.kept c.reserve.ensures.aside).1)

pub returns-clause-builds : goal.returns-clause-builds
returns-clause-builds c =
    let done = c.append-self in
    push-builds c.args.storage.now c.args.self.now c.requires c.reserve.new.self c.reserve.ensures.kept c.reserve.ensures.aside c.args.added
    done.new.elements done.new.chain done.ensures.chain done.result done.ensures.last done.ensures.records done.ensures.owned

pub returns-clause-ok : goal.returns-clause-ok
returns-clause-ok c =
    let done = c.append-self in
    push-pushes c.args.storage.now c.args.self.now c.requires c.reserve.new.self c.reserve.ensures.kept c.reserve.ensures.aside c.args.added
    done.new.elements done.new.chain done.ensures.chain done.result done.ensures.last done.ensures.records done.ensures.owned
    c.reserve.ensures.grows c.reserve.ensures.live (omega (arith, c.reserve.ensures.made)) done.ensures.spare
