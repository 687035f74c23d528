use Rattle.explain_who.proofs.Told.{changes_named, changes_unnamed}
use Rattle.explain_who.proofs.output.who.Goals as goal

pub returns-in-Err : goal.returns-in-Err
returns-in-Err g c =
    record { told = changes_unnamed c.args.settings c.args.script.now c.args.form c.args.order c.args.asked (g.W.Write.contents c.args.out.now) c.in-Err.fault c.in-Err.ensures }

pub write_changes-outcome-requires : goal.write_changes-outcome-requires
write_changes-outcome-requires g c = c.in-Ok.ensures.starts

pub returns : goal.returns
returns g c =
    record {
      told =
          changes_named c.args.settings c.args.script.now c.args.form c.args.order c.args.asked c.in-Ok.traced c.in-Ok.ensures (g.W.Write.contents c.args.out.now)
          (g.W.Write.contents c.write_changes-outcome.new.out) c.write_changes-outcome.result c.write_changes-outcome.ensures;
    }
