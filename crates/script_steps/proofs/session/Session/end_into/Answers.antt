use Rattle.std.proofs.Common.{◌≡◌, ◌∙◌, ◌++◌, map, ap, sym, subst, arith, append_assoc}
use Rattle.std.proofs.lemmas.List.{length-append, map-append}
use Rattle.vsm_model.specs.Standing.{nothing_stands}
use Rattle.macro_statements.specs.Requests.{asked_in}
use Rattle.macro_reader.specs.Scripts.{Answers, IsBehind, told_at_end}
use Rattle.script_steps.specs.Answers.{Tells, told_text}
use Rattle.script_steps.specs.Output.{AllMet, refusals}
use Rattle.script_steps.specs.Script.{columns, last_line}
use Rattle.bench_core.specs.Stands.{bench_of}
use Rattle.script_steps.specs.Taken.{AreAsked, answers_of}
use Rattle.script_steps.proofs.Asked.{asked_at_end}
use Rattle.script_steps.proofs.Standings.{tells_more, told_both, refused_both}
use Rattle.script_steps.proofs.session.Session.end_into.Goals as goal

pub returns-clause-told : goal.returns-clause-told
returns-clause-told c = λ settings given answers h.
    let b0 = bench_of c.args.self.bench in
    let b1 = bench_of c.take_last-last.new.bench in
    let shown = c.take_last-last.result in
    let shown2 = c.tell_end-open_statement.result in
    let bytes = c.take_last-last.new.shown.items in
    let at_end = told_at_end c.finish.result in
    let last = c.take_last-last.ensures.tells (map columns h.lines) (answers_of answers) h.rest h.told h.long (c.as_slice.ensures.value ∙ h.kept) in
    let tells : Tells settings b0 last.0 shown bytes b1 = subst (λ s. Tells s b0 last.0 shown bytes b1) h.under last.2 in
    let t = tells_more settings answers b0 b1 last.0 shown bytes h.led tells in
    let u = tells_more settings (answers ++ t.more) b1 b1 at_end shown2 bytes t.led (c.tell_end-open_statement.ensures settings b1 bytes) in
    let more = t.more ++ u.more in
    let all : (answers_of answers ++ last.0) ++ at_end ≡ answers_of (answers ++ more) =
    (λ i. (answers_of answers ++ sym t.answers i) ++ sym u.answers i)
    ∙ append_assoc (answers_of answers) (answers_of t.more) (answers_of u.more)
    ∙ ap (λ x. answers_of answers ++ x) (sym (map-append _ t.more u.more))
    ∙ sym (map-append _ answers more) in
    let size = length-append answers more in
    let size2 = length-append t.more u.more in
    let refused = refused_both settings answers t.more u.more in (
      more,
      told_both settings answers t.more u.more (told_text settings b1 bytes shown) (told_text settings b1 bytes shown2) t.text u.text,
      record {
        lines = h.lines;
        rest = h.rest;
        within = h.within;
        told = subst (Answers (map columns h.lines ++ last_line h.rest)) all (c.finish.ensures.answers _ _ last.1);
        met = subst (AllMet settings nothing_stands) (append_assoc answers t.more u.more) u.led.met;
      },
      (
        omega (arith, size, size2, h.statements, t.count, u.count, c.told_count.ensures.count, c.told_count-2.ensures.count),
        omega (arith, refused, h.refused, t.refused, u.refused, c.told_refused.ensures.count, c.told_refused-2.ensures.count),
      ),
    )

pub returns-clause-asks : goal.returns-clause-asks
returns-clause-asks c = λ settings given answers h.
    let b0 = bench_of c.args.self.bench in
    let b1 = bench_of c.take_last-last.new.bench in
    let shown = c.take_last-last.result in
    let shown2 = c.tell_end-open_statement.result in
    let bytes = c.take_last-last.new.shown.items in
    let at_end = told_at_end c.finish.result in
    let last = c.take_last-last.ensures.tells (map columns h.lines) (answers_of answers) h.rest h.told h.long (c.as_slice.ensures.value ∙ h.kept) in
    let tells : Tells settings b0 last.0 shown bytes b1 = subst (λ s. Tells s b0 last.0 shown bytes b1) h.under last.2 in
    let t = tells_more settings answers b0 b1 last.0 shown bytes h.led tells in
    let u = tells_more settings (answers ++ t.more) b1 b1 at_end shown2 bytes t.led (c.tell_end-open_statement.ensures settings b1 bytes) in
    let all : (answers_of answers ++ last.0) ++ at_end ≡ answers_of ((answers ++ t.more) ++ u.more) =
    (λ i. (answers_of answers ++ sym t.answers i) ++ sym u.answers i)
    ∙ ap (λ x. x ++ answers_of u.more) (sym (map-append _ answers t.more))
    ∙ sym (map-append _ (answers ++ t.more) u.more) in
    let size = length-append (answers ++ t.more) u.more in
    let size2 = length-append answers t.more in
    let refused = ap (refusals settings nothing_stands) (append_assoc answers t.more u.more) ∙ refused_both settings answers t.more u.more in
    record {
      brings = record {
        more = t.more;
        also = u.more;
        last = t.brings;
        shows = t.shows;
        unended = u.brings;
        shows_on = u.shows;
        led = t.led;
        led_on = u.led;
        ended = record {
          lines = h.lines;
          rest = h.rest;
          within = h.within;
          told = subst (Answers (map columns h.lines ++ last_line h.rest)) all (c.finish.ensures.answers _ _ last.1);
          met = u.led.met;
        };
        reader = c.take_last-last.new.reader;
        read = subst (λ said. IsBehind (map columns h.lines ++ last_line h.rest) said c.take_last-last.new.reader)
            (ap (λ x. answers_of answers ++ x) (sym t.answers) ∙ sym (map-append _ answers t.more)) last.1;
        counts = (
          omega (arith, size, size2, h.statements, t.count, u.count, c.told_count.ensures.count, c.told_count-2.ensures.count),
          omega (arith, refused, h.refused, t.refused, u.refused, c.told_refused.ensures.count, c.told_refused-2.ensures.count),
        );
      };
      last = subst (AreAsked (asked_in c.take_last-last.new.request)) (sym t.answers) last.3;
      unended = subst (AreAsked (asked_in c.take_last-last.new.request)) (sym u.answers) (asked_at_end c.finish.result (asked_in c.take_last-last.new.request));
    }
