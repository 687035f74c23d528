use Rattle.std.proofs.Common.{◌≡◌, ◌+◌, ◌-◌, ◌∙◌, true, sym, ap, arith}
use Rattle.macro_reader.specs.Continuation.{begun, with_lines}
use Rattle.macro_reader.specs.Columns.{is_continued}
use Rattle.explain_who.specs.OneLine.{field_here, further_cards, line_here}
use Rattle.explain_faults.specs.Places.{joined_of}
use Rattle.explain_who.proofs.OneLine.{all_taken, last_taken, line_broken, line_taken}
use Rattle.explain_who.proofs.one_line.field_here.Goals as goal

pub loop-i-init : goal.loop-i-init
loop-i-init c = record {
  lines = c.begin-field.ensures.lines;
  joined = ap (λ j. with_lines j (further_cards 9 c.args.begins.now)) (c.begin-field.ensures.joined ∙ ap begun c.card_here.ensures);
}

pub take_line-requires : goal.take_line-requires
take_line-requires c = omega (arith, c.loop-i.invariant.lines, c.loop-i-test.true)

pub loop-i-preserved : goal.loop-i-preserved
loop-i-preserved c =
    let l = c.loop-i in
    let more : is_continued (line_here l.line.now) ≡ true = ap is_continued (sym c.line_here.ensures) ∙ sym c.is_continued.ensures ∙ c.if-not-is_continued.false in
    record {
      lines = c.in-Ok.ensures.lines ∙ ap (λ n. n + 1) l.invariant.lines;
      joined = line_taken l.line.now c.after_feed-line.result.now c.card_here-in-loop-i.result l.i (joined_of l.field) (field_here c.args.begins.now) c.loop-i-test.true more c.after_feed-line.ensures c.card_here-in-loop-i.ensures l.invariant.joined
          (joined_of c.take_line.new.self) c.in-Ok.ensures.joined;
    }

pub returns-then-not-is_continued : goal.returns-then-not-is_continued
returns-then-not-is_continued c =
    let l = c.loop-i in
    last_taken (9 - l.i) l.line.now (joined_of l.field) (field_here c.args.begins.now) (ap is_continued (sym c.line_here.ensures) ∙ sym c.is_continued.ensures ∙ c.if-not-is_continued.true) l.invariant.joined

pub returns-in-Err : goal.returns-in-Err
returns-in-Err c =
    let l = c.loop-i in
    let more : is_continued (line_here l.line.now) ≡ true = ap is_continued (sym c.line_here.ensures) ∙ sym c.is_continued.ensures ∙ c.if-not-is_continued.false in
    line_broken l.line.now c.after_feed-line.result.now c.card_here-in-loop-i.result l.i (joined_of l.field) (field_here c.args.begins.now) c.loop-i-test.true more c.after_feed-line.ensures c.card_here-in-loop-i.ensures l.invariant.joined
    c.in-Err.ensures.broken

pub returns : goal.returns
returns c =
    let l = c.loop-i in
    all_taken (9 - l.i) l.line.now (joined_of l.field) (field_here c.args.begins.now) (omega (arith, c.loop-i-test.false)) l.invariant.joined
