use Rattle.std.proofs.Common.{ap, length, refl, subst, ◌∙◌, ◌++◌, []}
use Rattle.std.proofs.lemmas.List.{append-nil}
use Rattle.bench_core.specs.Stands.{bench_of}
use Rattle.macro_statements.specs.Requests.{asked_in}
use Rattle.script_steps.specs.Taken.{PassesBound}
use Rattle.explain_standing.proofs.StandingFollowed.{end_followed}
use Rattle.explain_standing.proofs.standing.follow_end.Goals as goal

pub returns-in-Err : goal.returns-in-Err
returns-in-Err c = λ settings given answers took h. (
  answers,
  subst (λ xs. PassesBound settings xs answers) (append-nil (given ++ c.args.rest.now)) (c.in-Err.ensures settings given answers took []),
)

pub returns-in-Ok-noted : goal.returns-in-Ok-noted
returns-in-Ok-noted c = λ settings given answers took h.
    let whole = given ++ c.args.rest.now in
    let asked = asked_in c.end_into-ending.new.request in
    end_followed settings answers c.kept-before.result c.args.session c.end_into-ending.result given whole asked c.args.followed.now c.note-noted.new.self took
    (c.kept-before.ensures ∙ ap (λ b. length (bench_of b).past) c.bench.ensures)
    (c.end_into-ending.ensures.asks settings whole answers (c.in-Ok.ensures settings given answers took))
    c.in-Ok-noted.ensures.acts c.in-Ok-noted.ensures.readings
    (c.if-idle.ensures.0 refl)
    h
