use Rattle.std.proofs.Common.{[], inl}
use Rattle.explain_areas.proofs.Stops.{stopped_before}
use Rattle.explain_areas.proofs.ends.end_on.Goals as goal

pub returns-then-line-eq0-clause-end : goal.returns-then-line-eq0-clause-end
returns-then-line-eq0-clause-end g c = λ settings new. inl c.if-line-eq0.true

pub returns-in-Ok-LastFeed-clause-end : goal.returns-in-Ok-LastFeed-clause-end
returns-in-Ok-LastFeed-clause-end g c = λ settings new.
    let stays = (rw c.in-Ok-LastFeed.field-0-is at c.in-Ok-LastFeed.ensures.reaches) settings ([], record { took = c.new-session.ensures settings new; said = c.new-last.ensures }) in
    c.end_after.ensures.end settings stays.reaches.0 stays.reaches.1.took stays.open_since

pub returns-in-Ok-Statement-clause-end : goal.returns-in-Ok-Statement-clause-end
returns-in-Ok-Statement-clause-end g c = λ settings new.
    let e = (rw c.in-Ok-Statement.field-0-is at c.in-Ok-Statement.ensures.reaches) settings ([], record { took = c.new-session.ensures settings new; said = c.new-last.ensures }) in
    inl (e.0, e.2)

pub returns-in-Ok-Statement-clause-within : goal.returns-in-Ok-Statement-clause-within
returns-in-Ok-Statement-clause-within g c = rw c.in-Ok-Statement.field-0-is at c.in-Ok-Statement.ensures.rest

pub returns-in-Err-clause-end : goal.returns-in-Err-clause-end
returns-in-Err-clause-end g c = λ settings new.
    stopped_before settings c.args.script.now c.args.line c.take_to.new.session c.take_to.new.last c.in-Err.fault
    (c.in-Err.ensures.reaches settings ([], record { took = c.new-session.ensures settings new; said = c.new-last.ensures }))
