use Rattle.std.proofs.Common.{inl, inr, refl}
use Rattle.text_output.proofs.Known.{appends_nothing}
use Rattle.explain_report.proofs.changes.over_time.Goals as goal

pub returns-in-Ok : goal.returns-in-Ok
returns-in-Ok g c = record { told = inl (c.in-Ok.ensures, c.write_rows.ensures) }

pub returns-in-Err : goal.returns-in-Err
returns-in-Err g c = record { told = inr (c.in-Err.fault, refl, c.in-Err.ensures, appends_nothing (g.W.Write.contents c.args.out.now)) }
