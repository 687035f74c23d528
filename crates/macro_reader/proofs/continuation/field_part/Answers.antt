use Rattle.std.proofs.Common.{◌≡◌, ◌<◌, ◌==◌, ◌&&◌, not, false, length, get_or, ◌∙◌, arith}
use Rattle.std.proofs.lemmas.Bool.{and_left, and_right, and_from, ne_eqb, eq-eqb}
use Rattle.operand_texts.proofs.Above.{field_skips, field_goes_on, field_ends, field_over}
use Rattle.macro_reader.proofs.Above.{after_more, after_skips}
use Rattle.macro_reader.proofs.continuation.field_part.Goals as goal
use Rattle.macro_reader.proofs.continuation.field_part.Goals.{else-byte-eq32-via-then-byte-eq32+else-not-at, else-byte-eq32-via-else-byte-eq32}

pub returns-then-mark-text-clause-len : goal.returns-then-mark-text-clause-len
returns-then-mark-text-clause-len c =
    let l = c.marks in
    let run = c.end_of_run-mark.ensures in
    field_over l.at c.args.text.now _ _ (omega (arith, c.if-mark-text.true))
    (field_skips l.at c.args.text.now l.i _ _ run.ordered run.within run.above l.invariant.far)

pub returns-then-mark-text-clause-at : goal.returns-then-mark-text-clause-at
returns-then-mark-text-clause-at c =
    let l = c.marks in
    let run = c.end_of_run-mark.ensures in
    after_skips c.args.start l.at c.args.text.now l.i _ run.ordered run.within run.above l.invariant.at

pub returns-then-not-at-clause-len : goal.returns-then-not-at-clause-len
returns-then-not-at-clause-len c =
    let l = c.marks in
    let run = c.end_of_run-mark.ensures in
    field_ends l.at c.args.text.now c.end_of_run-mark.result _ (omega (arith, run.within, c.if-mark-text.false))
    (and_from _ _ (eq-eqb _ 32 c.if-byte-eq32.true) c.if-not-at.true)
    (field_skips l.at c.args.text.now l.i _ _ run.ordered run.within run.above l.invariant.far)

pub returns-then-not-at-clause-at : goal.returns-then-not-at-clause-at
returns-then-not-at-clause-at c =
    let l = c.marks in
    let run = c.end_of_run-mark.ensures in
    after_skips c.args.start l.at c.args.text.now l.i _ run.ordered run.within run.above l.invariant.at

pub marks-preserved : goal.marks-preserved
marks-preserved c =
    let l = c.marks in
    let mark = c.end_of_run-mark.result in
    let run = c.end_of_run-mark.ensures in
    let byte = get_or c.args.text.now mark 0 in
    let inside : mark < length c.args.text.now = omega (arith, run.within, c.if-mark-text.false) in
    let stays : (byte == 32 && not l.at.quoted) ≡ false =
    elim c.else-byte-eq32.branch [
      | else-byte-eq32-via-then-byte-eq32+else-not-at w ↦ and_right _ _ w.if-not-at.false
      | else-byte-eq32-via-else-byte-eq32 w ↦ and_left _ _ (ne_eqb _ 32 w.if-byte-eq32.false)
    ] in
    record {
      far = field_goes_on l.at c.past-at.result c.args.text.now mark _ inside c.past-at.ensures.value stays
          (field_skips l.at c.args.text.now l.i _ _ run.ordered run.within run.above l.invariant.far);
      at = c.past-at.ensures.value ∙ after_more c.args.start l.at c.args.text.now mark inside (after_skips c.args.start l.at c.args.text.now l.i _ run.ordered run.within run.above l.invariant.at);
      depth = omega (arith, c.past-at.ensures.depth, l.invariant.depth, run.ordered);
      within = omega arith;
    }
