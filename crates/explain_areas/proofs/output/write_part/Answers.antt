use Rattle.text_output.proofs.Known.{appends_nothing}
use Rattle.explain_standing.specs.Lined.{standing}
use Rattle.explain_areas.proofs.Told.{part_told}
use Rattle.explain_areas.proofs.output.write_part.Goals as goal

pub returns-in-Ok : goal.returns-in-Ok
returns-in-Ok g c =
    let h = c.in-Ok.ensures in
    let settings = c.args.settings in
    part_told settings c.args.script.now c.args.asked.now (g.W.Write.contents c.args.out.now) (g.W.Write.contents c.write_after-outcome.new.out) h.0 c.write_after-outcome.result h.1
    (c.write_after-outcome.ensures settings (standing settings h.0) h.2)

pub returns-in-Err : goal.returns-in-Err
returns-in-Err g c = (c.in-Err.ensures, appends_nothing (g.W.Write.contents c.args.out.now))
