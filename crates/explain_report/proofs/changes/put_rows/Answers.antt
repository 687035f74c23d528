use Rattle.explain_report.proofs.changes.put_rows.Goals as goal

pub returns-in-Ok : goal.returns-in-Ok
returns-in-Ok g c = λ settings seen before h. c.put_rest.ensures settings seen before (c.in-Ok.ensures.rows settings seen before h)

pub returns-in-Err : goal.returns-in-Err
returns-in-Err g c = λ settings seen before h. c.in-Err.ensures.rows settings seen before h
