use Rattle.std.proofs.Common.{◌≡◌, ◌==◌, ap, ◌∙◌, arith}
use Rattle.macro_operands.specs.declared.faults.FaultKind.TheVariants.{Continuation}
use Rattle.macro_reader.specs.Columns.{used, is_continued}
use Rattle.macro_reader.specs.Continuation.{with_line}
use Rattle.explain_faults.proofs.NoBreaks.{breaks}
use Rattle.explain_faults.proofs.RoleCases.{brings_break, other_kind, breaking_is, further_is}
use Rattle.explain_faults.proofs.roles.further_role.Goals as goal

pub returns-in-Continuation : goal.returns-in-Continuation
returns-in-Continuation c = λ number n card j count line h.
    breaking_is (with_line j (used line)) (is_continued line) (count == 8) n card count
    (ap brings_break (h ∙ c.in-Fault.is) ∙ ap breaks c.in-Continuation.is)

pub returns-in-Column : goal.returns-in-Column
returns-in-Column c = λ number n card j count line h.
    let other : c.in-Fault.kind ≡ Continuation → ⊥ = λ e. grind (arith, e, c.in-Column.is) in
    further_is (with_line j (used line)) (is_continued line) (count == 8) n card count
    (ap brings_break (h ∙ c.in-Fault.is) ∙ other_kind c.in-Fault.kind other)

pub returns-in-Answer : goal.returns-in-Answer
returns-in-Answer c = λ number n card j count line h.
    further_is (with_line j (used line)) (is_continued line) (count == 8) n card count (ap brings_break (h ∙ c.in-Answer.is))

pub returns-in-Nothing : goal.returns-in-Nothing
returns-in-Nothing c = λ number n card j count line h.
    further_is (with_line j (used line)) (is_continued line) (count == 8) n card count (ap brings_break (h ∙ c.in-Nothing.is))
