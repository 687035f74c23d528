use Rattle.std.proofs.Common.{flat_map}
use Rattle.text_output.proofs.Gathering.{puts_both}
use Rattle.explain_report.specs.Csv.{value_text}
use Rattle.explain_report.specs.Values.{share_values}
use Rattle.explain_report.proofs.csv.put_shares.Goals as goal

pub returns : goal.returns
returns g c =
    puts_both (g.W.Write.contents c.args.writer.now) (g.W.Write.contents c.put_share.new.writer) (g.W.Write.contents c.put_share-2.new.writer)
    c.args.gathered.now c.put_share.new.gathered c.put_share-2.new.gathered
    (flat_map value_text (share_values c.args.row.now.low)) (flat_map value_text (share_values c.args.row.now.high))
    c.put_share.ensures c.put_share-2.ensures
