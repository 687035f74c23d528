use Rattle.std.proofs.Common.{sym, ◌∙◌, arith}
use Rattle.std.proofs.lemmas.List.{drop_all}
use Rattle.explain_who.proofs.Places.{line_at, no_such_line}
use Rattle.explain_who.proofs.shown_lines.from_line.Goals as goal

pub returns-then-number-starts : goal.returns-then-number-starts
returns-then-number-starts c = sym (no_such_line c.args.script.now c.args.starts.now c.args.line (omega (arith, c.if-number-starts.true)) c.requires)

pub returns-then-start-script : goal.returns-then-start-script
returns-then-start-script c =
    sym (drop_all _ c.args.script.now (omega (arith, c.if-start-script.true)))
    ∙ line_at c.args.script.now c.args.starts.now c.args.line (omega (arith, c.if-number-eq0.false)) (omega (arith, c.if-number-starts.false)) c.requires

pub returns : goal.returns
returns c =
    c.rest_from.ensures
    ∙ line_at c.args.script.now c.args.starts.now c.args.line (omega (arith, c.if-number-eq0.false)) (omega (arith, c.if-number-starts.false)) c.requires
