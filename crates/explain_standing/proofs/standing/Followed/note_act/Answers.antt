use Rattle.macro_statements.specs.Requests.{asked_in}
use Rattle.explain_standing.specs.Standings.{act_asked}
use Rattle.explain_standing.proofs.StandingNotes.{applied_in, if_ok}
use Rattle.explain_standing.proofs.standing.Followed.note_act.Goals as goal

pub returns-clause-acts : goal.returns-clause-acts
returns-clause-acts c =
    if_ok c.applied.result _ _
    (λ is. applied_in c.args.self.now.trail c.applied.new.self c.args.line c.statement_of.result (act_asked (asked_in c.args.request)) is c.statement_of.ensures)
    c.applied.ensures
