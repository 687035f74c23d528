use Rattle.std.proofs.Common.{◌∙◌}
use Rattle.explain_report.specs.Said.{said_with}
use Rattle.explain_report.proofs.Following.{said_more}
use Rattle.explain_report.proofs.runs.take_step.Goals as goal

pub returns-in-Ok-Some : goal.returns-in-Ok-Some
returns-in-Ok-Some c =
    let step = c.in-Ok-Some.step in
    let shows = rw c.in-Ok-Some.field-0-is at c.in-Ok-Some.ensures.shows in
    let place = rw c.in-Ok-Some.field-0-is at c.in-Ok-Some.ensures.place in
    record {
      reaches = λ settings answers h.
          let e = shows settings answers h.took in (
            e.0,
            e.1,
            record {
              took = e.3;
              said = c.note.ensures ∙ (λ i. said_with step.told (c.shown_room.ensures i).items (h.said i)) ∙ said_more settings answers e.0 step.told _ e.1 e.2;
            },
          );
      place = place;
    }

pub returns-in-Ok-None : goal.returns-in-Ok-None
returns-in-Ok-None c =
    let takes = rw c.in-Ok-None.field-0-is at c.in-Ok-None.ensures.takes in
    let place = rw c.in-Ok-None.field-0-is at c.in-Ok-None.ensures.place in
    record {
      reaches = λ settings answers h. record { took = takes settings answers h.took; said = h.said };
      place = place;
    }

pub returns-in-Err : goal.returns-in-Err
returns-in-Err c = record {
  reaches = λ settings answers h. (answers, c.in-Err.ensures.takes settings answers h.took);
  place = c.in-Err.ensures.place;
}
