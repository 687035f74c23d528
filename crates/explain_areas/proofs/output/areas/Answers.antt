use Rattle.text_output.proofs.Known.{appends_nothing}
use Rattle.explain_areas.proofs.Told.{areas_told}
use Rattle.explain_areas.proofs.output.areas.Goals as goal

pub returns : goal.returns
returns g c =
    record {
      told = areas_told c.args.settings c.args.script.now c.args.asked (g.W.Write.contents c.args.out.now) (g.W.Write.contents c.write_part.new.out) c.in-Ok.end c.part_before-part.result.now c.write_part.result
          c.in-Ok.ensures.end c.part_before-part.ensures c.write_part.ensures;
    }

pub returns-in-Err : goal.returns-in-Err
returns-in-Err g c = record { told = (c.in-Err.ensures.end, appends_nothing (g.W.Write.contents c.args.out.now)) }
