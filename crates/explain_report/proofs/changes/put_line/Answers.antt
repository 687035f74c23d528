use Rattle.std.proofs.Common.{◌++◌, subst}
use Rattle.bench_core.specs.Stands.{bench_of, settings_in}
use Rattle.explain_report.specs.Changes.{AreFiguresAfter}
use Rattle.explain_report.proofs.Following.{put_more, led_state}
use Rattle.explain_report.proofs.changes.put_line.Goals as goal

pub returns-in-Ok-Some : goal.returns-in-Ok-Some
returns-in-Ok-Some g c =
    let step = c.in-Ok-Some.step in
    let s = c.take_line.new.self in
    let brings = rw c.in-Ok-Some.field-0-is at c.in-Ok-Some.ensures.brings in
    let place = rw c.in-Ok-Some.field-0-is at c.in-Ok-Some.ensures.place in
    record {
      rows = λ settings seen first h.
          let e = brings settings h.answers h.took in
          let after = subst (λ b. AreFiguresAfter (settings_in b) (bench_of b).present.storage c.args.figures.now step.told c.put_answer.result) c.bench.ensures c.put_answer.ensures.after in
          let under = subst (λ k. AreFiguresAfter k (bench_of s.bench).present.storage c.args.figures.now step.told c.put_answer.result) e.2.under after in
          record {
            answers = h.answers ++ e.0;
            took = e.2;
            put =
                put_more settings seen first _ _ _ _ h.answers e.0 step.told (bench_of s.bench).present.storage c.args.figures.now c.put_answer.result h.put e.1
                (led_state settings (h.answers ++ e.0) (bench_of s.bench) e.2.led) c.put_answer.ensures.row under;
          };
      next = (place.1.some, place.1.within);
    }

pub returns-in-Ok-None : goal.returns-in-Ok-None
returns-in-Ok-None g c =
    let takes = rw c.in-Ok-None.field-0-is at c.in-Ok-None.ensures.takes in
    let place = rw c.in-Ok-None.field-0-is at c.in-Ok-None.ensures.place in
    record {
      rows = λ settings seen first h. record { answers = h.answers; took = takes settings h.answers h.took; put = h.put };
      next = place;
    }

pub returns-in-Err : goal.returns-in-Err
returns-in-Err g c = record {
  rows = λ settings seen first h. (h.answers, h.put.text, c.in-Err.ensures.takes settings h.answers h.took, h.put.over, h.put.held);
  next = tt;
}
