use Rattle.std.proofs.Common.{get_or, drop, flat_map, ◌+◌}
use Rattle.explain_report.specs.Csv.{value_text}
use Rattle.explain_report.proofs.Remaining.{remains_less, next_text}
use Rattle.explain_report.proofs.csv.put_numbers.Goals as goal

pub loop-number-preserved : goal.loop-number-preserved
loop-number-preserved g c =
    let xs = c.args.numbers.now in
    let i = c.loop-number.number-index in
    remains_less (g.W.Write.contents c.args.writer.now) (g.W.Write.contents c.loop-number.writer) (g.W.Write.contents c.put_value.new.writer)
    c.args.gathered.now c.loop-number.gathered c.put_value.new.gathered (flat_map value_text xs) (flat_map value_text (drop i xs)) (value_text (get_or xs i 0)) (flat_map value_text (drop (i + 1) xs))
    c.loop-number.invariant (next_text value_text xs i 0 c.loop-number-test.true) c.put_value.ensures
