use Rattle.std.proofs.Common.{refl, arith}
use Rattle.explain_list.specs.Pages.{line_of}
use Rattle.explain_list.proofs.Lines.{step_line}
use Rattle.explain_list.proofs.pages.ListingPage.take_line.Goals as goal

pub returns-in-Err-clause-page : goal.returns-in-Err-clause-page
returns-in-Err-clause-page c = λ settings answers took starts lines. tt

pub returns-in-Ok-None-clause-page : goal.returns-in-Ok-None-clause-page
returns-in-Ok-None-clause-page c = λ settings answers took starts lines. lines

pub returns-in-Ok-Some-clause-page : goal.returns-in-Ok-Some-clause-page
returns-in-Ok-Some-clause-page c = λ settings answers took starts lines.
    let place = rw c.in-Ok-Some.field-0-is at c.in-Ok-Some.ensures.place in
    c.take_step.ensures.page (step_line settings c.args.script.now c.args.at answers c.args.session.now _ c.in-Ok-Some.step took starts c.requires (λ few. omega (arith, c.lines.ensures)) place) lines

pub returns-in-Ok-Some-clause-takes : goal.returns-in-Ok-Some-clause-takes
returns-in-Ok-Some-clause-takes c = rw c.in-Ok-Some.field-0-is at c.in-Ok-Some.ensures.takes

pub returns-in-Ok-Some-clause-asks : goal.returns-in-Ok-Some-clause-asks
returns-in-Ok-Some-clause-asks c = rw c.in-Ok-Some.field-0-is at c.in-Ok-Some.ensures.asks

pub returns-in-Ok-Some-clause-whole : goal.returns-in-Ok-Some-clause-whole
returns-in-Ok-Some-clause-whole c =
    (c.take_step.ensures.room, λ room. (line_of c.saturating_add-number.result c.in-Ok-Some.step, refl, refl, c.take_step.ensures.whole room))
