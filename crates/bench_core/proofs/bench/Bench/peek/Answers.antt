use Rattle.std.proofs.Common.{false, length, sym, ◌∙◌, ap}
use Rattle.vsm_model.specs.declared.causes.Code.TheVariants.{System}
use Rattle.vsm_model.specs.declared.causes.Family.TheVariants.{S}
use Rattle.vsm_model.specs.Codes.{suffix, code_of}
use Rattle.vsm_machine.specs.declared.refusals.Refusal.TheVariants.{Abend}
use Rattle.vsm_machine.specs.Changes.{plain_of}
use Rattle.vsm_machine.specs.Machine.{abended, loaded_at, or_abended}
use Rattle.bench_core.proofs.bench.Bench.peek.Goals as goal

pub returns-in-Err-clause-refused : goal.returns-in-Err-clause-refused
returns-in-Err-clause-refused c = (
  abended (System 0x0c4),
  ap (λ o. loaded_at (plain_of c.args.self.now.machine) o (length c.args.out.now)) (sym c.in-Some.ensures)
      ∙ ap or_abended c.in-Err.ensures.err,
  ap Abend (c.code.ensures ∙ ap (code_of (suffix S false)) c.in-Err.ensures.cause),
)
