use Rattle.std.proofs.Common.{[], subst}
use Rattle.text_output.specs.Writing.{Puts}
use Rattle.explain_report.specs.Csv.{heading_text}
use Rattle.explain_report.proofs.Told.{heading_put, over_told}
use Rattle.explain_report.proofs.changes.over_time_on.Goals as goal

pub returns : goal.returns
returns g c = λ settings new.
    let first = g.W.Write.contents c.args.out.now in
    let put =
    heading_put settings c.args.seen first _ _ _ c.args.bench c.storage.result.now c.figures_of-first.result new c.storage.ensures.state c.storage.ensures.settings
    c.figures_of-first.ensures.of c.figures_of-first.ensures.seen c.new-gathered.ensures (subst (λ b. Puts first (g.W.Write.contents c.put_heading.new.writer) c.new-gathered.result c.put_heading.new.gathered (heading_text b)) c.is_some.ensures c.put_heading.ensures) in
    let rows = c.put_rows-outcome.ensures settings c.args.seen first (record { answers = []; took = c.new-session.ensures settings new; put = put }) in
    over_told settings c.args.script.now c.args.seen first _ _ _ _ _ rows (λ text held. c.end_text.ensures first text held)
