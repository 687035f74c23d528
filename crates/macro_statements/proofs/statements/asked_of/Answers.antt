use Rattle.std.proofs.Common.{◌∙◌, sym, ap}
use Rattle.operand_texts.specs.Field.{operands}
use Rattle.macro_statements.specs.Statements.{asked_of}
use Rattle.macro_statements.proofs.statements.asked_of.Goals as goal

pub returns-in-Storage : goal.returns-in-Storage
returns-in-Storage c = c.request_of.ensures ∙ ap (λ o. asked_of o (operands c.args.field.now)) (sym c.in-Storage.is)

pub returns-in-Getmain : goal.returns-in-Getmain
returns-in-Getmain c = c.request_of-in-Getmain.ensures ∙ ap (λ o. asked_of o (operands c.args.field.now)) (sym c.in-Getmain.is)

pub returns-in-Freemain : goal.returns-in-Freemain
returns-in-Freemain c = c.request_of-in-Freemain.ensures ∙ ap (λ o. asked_of o (operands c.args.field.now)) (sym c.in-Freemain.is)

pub returns-in-Cpool : goal.returns-in-Cpool
returns-in-Cpool c = c.cpool.ensures ∙ ap (λ o. asked_of o (operands c.args.field.now)) (sym c.in-Cpool.is)

pub returns-in-Attach : goal.returns-in-Attach
returns-in-Attach c = c.attach.ensures ∙ ap (λ o. asked_of o (operands c.args.field.now)) (sym c.in-Attach.is)

pub returns-in-Detach : goal.returns-in-Detach
returns-in-Detach c = c.detach.ensures ∙ ap (λ o. asked_of o (operands c.args.field.now)) (sym c.in-Detach.is)

pub returns-in-Run : goal.returns-in-Run
returns-in-Run c = c.run.ensures ∙ ap (λ o. asked_of o (operands c.args.field.now)) (sym c.in-Run.is)

pub returns-in-Poke : goal.returns-in-Poke
returns-in-Poke c = c.poke.ensures ∙ ap (λ o. asked_of o (operands c.args.field.now)) (sym c.in-Poke.is)

pub returns-in-Back : goal.returns-in-Back
returns-in-Back c = c.back.ensures ∙ ap (λ o. asked_of o (operands c.args.field.now)) (sym c.in-Back.is)

pub returns-in-Forward : goal.returns-in-Forward
returns-in-Forward c = c.forward.ensures ∙ ap (λ o. asked_of o (operands c.args.field.now)) (sym c.in-Forward.is)

pub returns-in-Peek : goal.returns-in-Peek
returns-in-Peek c = c.peek.ensures ∙ ap (λ o. asked_of o (operands c.args.field.now)) (sym c.in-Peek.is)

pub returns-in-EndTask : goal.returns-in-EndTask
returns-in-EndTask c = ap (λ o. asked_of o (operands c.args.field.now)) (sym c.in-EndTask.is)

pub returns-in-Map : goal.returns-in-Map
returns-in-Map c = ap (λ o. asked_of o (operands c.args.field.now)) (sym c.in-Map.is)
