use Rattle.std.proofs.Common.{◌++◌, subst, ◌∙◌}
use Rattle.bench_core.specs.Stands.{bench_of}
use Rattle.explain_report.specs.Changes.{AreFiguresAfter}
use Rattle.explain_report.proofs.Following.{put_more, led_state}
use Rattle.explain_report.proofs.changes.put_end.Goals as goal

pub returns : goal.returns
returns g c = λ settings seen first script h.
    let ending = c.end-ending.result in
    let state = (bench_of ending.bench).present.storage in
    let e = c.end-ending.ensures.brings settings script h.answers h.took in
    let under = c.end-ending.ensures.settings ∙ h.took.under in
    let after1 = subst (λ k. AreFiguresAfter k state c.args.before ending.last c.put_answer-after.result) under c.put_answer-after.ensures.after in
    let after2 = subst (λ k. AreFiguresAfter k state c.put_answer-after.result ending.open_statement c.put_answer.result) under c.put_answer.ensures.after in
    let one =
    put_more settings seen first _ _ _ _ h.answers e.more ending.last state c.args.before c.put_answer-after.result h.put e.last
    (led_state settings (h.answers ++ e.more) (bench_of ending.bench) e.led) c.put_answer-after.ensures.row after1 in
    let two =
    put_more settings seen first _ _ _ _ (h.answers ++ e.more) e.also ending.open_statement state c.put_answer-after.result c.put_answer.result one e.unended
    (led_state settings ((h.answers ++ e.more) ++ e.also) (bench_of ending.bench) e.led_on) c.put_answer.ensures.row after2 in
    ((h.answers ++ e.more) ++ e.also, two.text, e.ended, two.over, two.held)
