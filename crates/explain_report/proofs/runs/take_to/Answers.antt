use Rattle.std.proofs.Common.{arith, refl, sym, ◌∙◌, ◌++◌}
use Rattle.explain_report.proofs.Following.{not_some, quiet_step, rest_none}
use Rattle.explain_report.proofs.Lines.{next_open}
use Rattle.explain_report.proofs.Reached.{line_is_silent, none_open, one_open, statement_ends, stays_same}
use Rattle.explain_report.proofs.Told.{silent_line}
use Rattle.explain_report.proofs.runs.take_to.Goals as goal

pub loop-at-init : goal.loop-at-init
loop-at-init g c = record { within = omega arith; begins = refl; stays = λ settings h. none_open settings c.args.script.now c.args.line _ _ c.requires h }

pub loop-at-preserved : goal.loop-at-preserved
loop-at-preserved g c =
    let place = rw c.in-Ok-Some.field-0-is at c.in-Ok-Some.ensures.place in
    let reaches = rw c.in-Ok-Some.field-0-is at c.in-Ok-Some.ensures.reaches in
    record {
      within = place.1.within;
      begins = next_open c.args.script.now c.loop-at.at c.in-Ok-Some.step.next place.1;
      stays = λ settings h.
          one_open settings c.args.script.now c.args.line c.loop-at.at c.in-Ok-Some.step.next c.loop-at.session c.take_step.new.session c.loop-at.last c.take_step.new.last place.1
          (c.loop-at.invariant.stays settings h) c.in-Ok-Some.step.told (reaches settings) (sym c.ends_by.ensures ∙ c.if-ends_by.false);
    }

pub returns-in-Err : goal.returns-in-Err
returns-in-Err g c = record {
  reaches = λ settings h. let r = (c.loop-at.invariant.stays settings h).reaches in c.in-Err.ensures.reaches settings r.0 r.1;
  rest = tt;
}

pub returns-in-Ok-None : goal.returns-in-Ok-None
returns-in-Ok-None g c =
    let place = rw c.in-Ok-None.field-0-is at c.in-Ok-None.ensures.place in
    let reaches = rw c.in-Ok-None.field-0-is at c.in-Ok-None.ensures.reaches in
    record {
      reaches = λ settings h.
          let stays = c.loop-at.invariant.stays settings h in
          stays_same settings c.args.script.now c.args.line c.loop-at.at c.loop-at.session c.take_step.new.session c.loop-at.last c.take_step.new.last stays
          (stays.reaches.0, reaches settings stays.reaches.0 stays.reaches.1);
      rest = (c.loop-at.invariant.within, place, c.loop-at.invariant.begins);
    }

pub returns : goal.returns
returns g c = record {
  reaches = c.loop-at.invariant.stays;
  rest = (c.loop-at.invariant.within, rest_none c.args.script.now c.loop-at.at c.loop-at-test.false, c.loop-at.invariant.begins);
}

pub returns-then-is_some-clause-reaches : goal.returns-then-is_some-clause-reaches
returns-then-is_some-clause-reaches g c =
    let place = rw c.in-Ok-Some.field-0-is at c.in-Ok-Some.ensures.place in
    let reaches = rw c.in-Ok-Some.field-0-is at c.in-Ok-Some.ensures.reaches in
    λ settings h.
    let stays = c.loop-at.invariant.stays settings h in
    let e = reaches settings stays.reaches.0 stays.reaches.1 in
    let end = statement_ends settings c.args.script.now c.args.line c.loop-at.at c.in-Ok-Some.step.next c.loop-at.session c.take_step.new.session c.loop-at.last c.take_step.new.last place.1
    stays e.0 c.in-Ok-Some.step.told e.1 e.2 (sym c.is_some.ensures ∙ c.if-is_some.true) (sym c.ends_by.ensures ∙ c.if-ends_by.true) in
    (stays.reaches.0 ++ e.0, e.2, end)

pub returns-then-is_some-clause-rest : goal.returns-then-is_some-clause-rest
returns-then-is_some-clause-rest g c = let place = rw c.in-Ok-Some.field-0-is at c.in-Ok-Some.ensures.place in place.1.within

pub returns-else-is_some-clause-reaches : goal.returns-else-is_some-clause-reaches
returns-else-is_some-clause-reaches g c =
    let place = rw c.in-Ok-Some.field-0-is at c.in-Ok-Some.ensures.place in
    let reaches = rw c.in-Ok-Some.field-0-is at c.in-Ok-Some.ensures.reaches in
    let why = c.unanswered.ensures c.loop-at.session.reader.mode c.stand-before.ensures in
    λ settings h.
    let stays = c.loop-at.invariant.stays settings h in
    silent_line settings c.args.script.now c.args.line c.take_step.new.session c.take_step.new.last c.loop-at.session.reader.mode c.unanswered.result why
    (line_is_silent settings c.args.script.now c.args.line c.loop-at.at c.in-Ok-Some.step.next c.loop-at.session c.take_step.new.session c.loop-at.last c.take_step.new.last c.unanswered.result
    place.1 stays (quiet_step settings stays.reaches.0 c.in-Ok-Some.step.told _ _ _ (reaches settings stays.reaches.0 stays.reaches.1) (not_some _ (sym c.is_some.ensures ∙ c.if-is_some.false))) (sym c.ends_by.ensures ∙ c.if-ends_by.true) why)
