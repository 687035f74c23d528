use Rattle.std.proofs.Common.{◌≡◌, ◌+◌, ◌∙◌, map, ap, sym, subst, refl, arith}
use Rattle.macro_statements.specs.Requests.{asked_in}
use Rattle.script_steps.specs.Script.{columns}
use Rattle.script_steps.specs.Taken.{AreAsked, answers_of}
use Rattle.script_steps.proofs.Takes.{within_feed}
use Rattle.script_steps.proofs.WholeLines.{took_line}
use Rattle.script_steps.proofs.session.Session.end_line_into.Goals as goal

pub returns : goal.returns
returns c = λ settings given answers h.
    let shown : c.columns.result.now ≡ columns h.rest = c.columns.ensures h.rest h.long (c.as_slice.ensures.value ∙ h.kept) in
    let made = c.take_columns-told.ensures.tells (map columns h.lines) (answers_of answers) h.told in
    let t = took_line settings given _ h.rest c.columns.result.now answers made.0 c.args.self.now _ c.take_columns-told.result h
    (within_feed given h.lines h.rest h.within (omega (arith, h.count))) shown made.1 made.2 c.take_columns-told.ensures.settings
    (record {
      lines = refl;
      length = refl;
      kept = c.clear.ensures;
      statements = ap (λ n. c.args.self.now.statements + n) c.told_count.ensures.count;
      refused = ap (λ n. c.args.self.now.refused + n) c.told_refused.ensures.count;
    }) in
    (t.more, t.text, t.brings, t.took, t.shows, subst (AreAsked (asked_in c.take_columns-told.new.request)) (sym t.said_is) made.3)
