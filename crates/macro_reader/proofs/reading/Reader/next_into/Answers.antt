use Rattle.std.proofs.Common.{◌≡◌, List, [], ◌∷◌, Result, Err, refl, ap, ◌∙◌}
use Rattle.macro_statements.specs.Requests.{Asked}
use Rattle.macro_statements.specs.Statements.{statement_with}
use Rattle.macro_operands.specs.declared.faults.FaultKind.{FaultKind}
use Rattle.macro_operands.specs.declared.faults.FaultKind.TheVariants as kind
use Rattle.macro_reader.specs.Scripts.{Answer, Kept}
use Rattle.macro_reader.specs.Continuation.{begun}
use Rattle.macro_reader.specs.Modes.{due_of}
use Rattle.macro_reader.specs.declared.modes.OpenStatement.{OpenStatement}
use Rattle.macro_reader.specs.declared.modes.Due.{Due}
use Rattle.macro_reader.specs.declared.modes.Due.TheVariants as due
use Rattle.macro_reader.proofs.Lines.{behind_push}
use Rattle.macro_reader.proofs.reading.Reader.next_into.Goals as goal
use Rattle.macro_reader.proofs.reading.Reader.next_into.Goals.{in-Line+in-Err, in-Whole+in-Err-lines_into, in-Broken}

-- what a line makes due
abbrev answer : OpenStatement → Result Asked FaultKind → List Answer
answer o x = record { line = o.number; what = x } ∷ []

none_due : (d : Due) (o : OpenStatement) → d ≡ due.Nothing → [] ≡ due_of d o
none_due d o h = rw h refl

line_due : (d : Due) (o : OpenStatement) (x : Result Asked FaultKind)
    → d ≡ due.Line → x ≡ statement_with o.first (begun o.first).text → answer o x ≡ due_of d o
line_due d o x h e = rw (h, e) refl

whole_due : (d : Due) (o : OpenStatement) (x : Result Asked FaultKind)
    → d ≡ due.Whole → x ≡ statement_with o.first o.gathered.text.items → answer o x ≡ due_of d o
whole_due d o x h e = rw (h, e) refl

broken_due : (d : Due) (o : OpenStatement) → d ≡ due.Broken → answer o (Err kind.Continuation) ≡ due_of d o
broken_due d o h = rw h refl

pub returns-in-Nothing-clause-answers : goal.returns-in-Nothing-clause-answers
returns-in-Nothing-clause-answers c = λ lines answers h.
    behind_push lines answers c.args.self.now c.args.line.now c.saturating_add-number.result _ _ _ h
    (rw (← c.self.view_is) c.saturating_add-number.ensures)
    (ap (λ (k : Kept). k.mode) c.self.view_is)
    c.move_on-due.ensures.mode (none_due c.move_on-due.result c.move_on-due.new.statement c.in-Nothing.is ∙ c.move_on-due.ensures.told)

pub returns-in-Ok-clause-answers : goal.returns-in-Ok-clause-answers
returns-in-Ok-clause-answers c = λ lines answers h.
    behind_push lines answers c.args.self.now c.args.line.now c.saturating_add-number.result _ _ _ h
    (rw (← c.self.view_is) c.saturating_add-number.ensures)
    (ap (λ (k : Kept). k.mode) c.self.view_is)
    c.move_on-due.ensures.mode
    (line_due c.move_on-due.result c.move_on-due.new.statement _ c.in-Line.is c.in-Ok.ensures.value ∙ c.move_on-due.ensures.told)

pub returns-in-Ok-lines_into-clause-answers : goal.returns-in-Ok-lines_into-clause-answers
returns-in-Ok-lines_into-clause-answers c = λ lines answers h.
    behind_push lines answers c.args.self.now c.args.line.now c.saturating_add-number.result _ _ _ h
    (rw (← c.self.view_is) c.saturating_add-number.ensures)
    (ap (λ (k : Kept). k.mode) c.self.view_is)
    c.move_on-due.ensures.mode
    (whole_due c.move_on-due.result c.move_on-due.new.statement _ c.in-Whole.is c.in-Ok-lines_into.ensures.value ∙ c.move_on-due.ensures.told)

pub returns-clause-answers : goal.returns-clause-answers
returns-clause-answers c =
    let o = c.move_on-due.new.statement in
    let told : answer o (Err c.match-due.kind) ≡ due_of c.move_on-due.result c.move_on-due.new.statement =
    elim c.match-due.branch [
      | in-Line+in-Err w ↦ rw w.kind-is (line_due c.move_on-due.result o _ w.in-Line.is w.in-Err.ensures.value)
      | in-Whole+in-Err-lines_into w ↦ rw w.kind-is (whole_due c.move_on-due.result o _ w.in-Whole.is w.in-Err-lines_into.ensures.value)
      | in-Broken w ↦ rw w.kind-is (broken_due c.move_on-due.result c.move_on-due.new.statement w.in-Broken.is)
    ] in
    λ lines answers h.
    behind_push lines answers c.args.self.now c.args.line.now c.saturating_add-number.result _ _ _ h
    (rw (← c.self.view_is) c.saturating_add-number.ensures)
    (ap (λ (k : Kept). k.mode) c.self.view_is)
    c.move_on-due.ensures.mode (told ∙ c.move_on-due.ensures.told)
