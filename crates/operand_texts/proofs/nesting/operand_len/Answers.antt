use Rattle.std.proofs.Common.{◌≡◌, ◌<◌, ◌==◌, ◌&&◌, not, false, length, get_or, arith}
use Rattle.std.proofs.lemmas.Bool.{and_left, and_right, and_from, ne_eqb, eq-eqb}
use Rattle.operand_texts.proofs.Above.{operand_skips, operand_goes_on, operand_ends, operand_over}
use Rattle.operand_texts.proofs.nesting.operand_len.Goals as goal
use Rattle.operand_texts.proofs.nesting.operand_len.Goals.{else-byte-eq44-via-then-byte-eq44+then-not-at+else-at-eq0, else-byte-eq44-via-then-byte-eq44+else-not-at, else-byte-eq44-via-else-byte-eq44}

pub returns-then-mark-text-clause-value : goal.returns-then-mark-text-clause-value
returns-then-mark-text-clause-value c =
    let l = c.marks in
    let run = c.end_of_run-mark.ensures in
    operand_over l.at c.args.text.now _ _ (omega (arith, c.if-mark-text.true))
    (operand_skips l.at c.args.text.now l.i _ _ run.ordered run.within run.above l.invariant.far)

pub returns-then-at-eq0-clause-value : goal.returns-then-at-eq0-clause-value
returns-then-at-eq0-clause-value c =
    let l = c.marks in
    let run = c.end_of_run-mark.ensures in
    operand_ends l.at c.args.text.now c.end_of_run-mark.result _ (omega (arith, run.within, c.if-mark-text.false))
    (and_from _ _ (and_from _ _ (eq-eqb _ 44 c.if-byte-eq44.true) c.if-not-at.true) (eq-eqb _ 0 c.if-at-eq0.true))
    (operand_skips l.at c.args.text.now l.i _ _ run.ordered run.within run.above l.invariant.far)

pub marks-preserved : goal.marks-preserved
marks-preserved c =
    let l = c.marks in
    let mark = c.end_of_run-mark.result in
    let run = c.end_of_run-mark.ensures in
    let byte = get_or c.args.text.now mark 0 in
    let inside : mark < length c.args.text.now = omega (arith, run.within, c.if-mark-text.false) in
    let stays : (byte == 44 && not l.at.quoted && (l.at.depth == 0)) ≡ false =
    elim c.else-byte-eq44.branch [
      | else-byte-eq44-via-then-byte-eq44+then-not-at+else-at-eq0 w ↦ and_right _ _ (ne_eqb _ 0 w.if-at-eq0.false)
      | else-byte-eq44-via-then-byte-eq44+else-not-at w ↦ and_left _ _ (and_right _ _ w.if-not-at.false)
      | else-byte-eq44-via-else-byte-eq44 w ↦ and_left _ _ (and_left _ _ (ne_eqb _ 44 w.if-byte-eq44.false))
    ] in
    record {
      far = operand_goes_on l.at c.past-at.result c.args.text.now mark _ inside c.past-at.ensures.value stays
          (operand_skips l.at c.args.text.now l.i _ _ run.ordered run.within run.above l.invariant.far);
      depth = omega (arith, c.past-at.ensures.depth, l.invariant.depth, run.ordered);
      within = omega arith;
    }
