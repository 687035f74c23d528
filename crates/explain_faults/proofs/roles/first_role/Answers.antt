use Rattle.std.proofs.Common.{◌≡◌, sym, ◌∙◌}
use Rattle.macro_reader.specs.Columns.{is_skipped, is_continued}
use Rattle.macro_reader.specs.declared.reading.ReaderState.TheVariants as stand
use Rattle.explain_faults.specs.declared.roles.Brought.TheVariants as brought
use Rattle.explain_faults.proofs.RoleCases.{aside_is, open_is, told_is}
use Rattle.explain_faults.proofs.roles.first_role.Goals as goal

pub returns-in-Awaiting : goal.returns-in-Awaiting
returns-in-Awaiting c = λ number line s h.
    aside_is (is_skipped line) (is_continued line) number line c.args.after c.args.brought s h c.in-Awaiting.is c.in-Nothing.is

pub returns-in-Dropping : goal.returns-in-Dropping
returns-in-Dropping c = λ number line s h.
    open_is (is_skipped line) (is_continued line) number line c.args.after s
    (λ e. let bad : stand.Dropping ≡ stand.Awaiting = sym c.in-Dropping.is ∙ e in cc)

pub returns-in-Gathering : goal.returns-in-Gathering
returns-in-Gathering c = λ number line s h.
    open_is (is_skipped line) (is_continued line) number line c.args.after s
    (λ e. let bad : stand.Gathering ≡ stand.Awaiting = sym c.in-Gathering.is ∙ e in cc)

pub returns-in-Answer : goal.returns-in-Answer
returns-in-Answer c = λ number line s h.
    told_is (is_skipped line) (is_continued line) number line c.args.brought h
    (λ e. let bad : brought.Answer ≡ brought.Nothing = sym c.in-Answer.is ∙ e in cc)

pub returns-in-Fault : goal.returns-in-Fault
returns-in-Fault c = λ number line s h.
    told_is (is_skipped line) (is_continued line) number line c.args.brought h
    (λ e. let bad : brought.Fault c.in-Fault.field-0 ≡ brought.Nothing = sym c.in-Fault.is ∙ e in cc)
