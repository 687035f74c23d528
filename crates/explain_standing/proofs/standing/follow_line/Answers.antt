use Rattle.std.proofs.Common.{Ok, ap, length, rules, subst, take, ◌∙◌}
use Rattle.bench_core.specs.Stands.{bench_of}
use Rattle.macro_statements.specs.Requests.{asked_in}
use Rattle.script_steps.specs.Steps.{AsksStep}
use Rattle.explain_standing.proofs.StandingFollowed.{line_followed}
use Rattle.explain_standing.proofs.standing.follow_line.Goals as goal

pub returns-in-Ok : goal.returns-in-Ok
returns-in-Ok c =
    let script = c.args.script.now in
    let step = c.in-Ok-Some.step in
    let asked = asked_in c.take_line_into.new.request in
    record {
      place = search rules;
      follows = λ settings answers took h. line_followed settings answers c.kept-before.result c.args.session.now c.take_line_into.new.self (take c.args.at script) (take step.next script) step.told asked
          c.args.followed.now c.note.new.self took
          (c.kept-before.ensures ∙ ap (λ b. length (bench_of b).past) c.bench.ensures)
          (subst (λ x. AsksStep settings script answers c.take_line_into.new.self (Ok x) asked) c.in-Ok-Some.field-0-is (c.in-Ok-Some.ensures.asks settings answers took))
          c.in-Ok.ensures.acts c.in-Ok.ensures.readings h;
    }
