use Rattle.std.proofs.Common.{ℕ, List, flat_map, subst}
use Rattle.text_output.specs.Writing.{Puts}
use Rattle.explain_report.specs.Csv.{value_text}
use Rattle.explain_report.proofs.csv.put_share.Goals as goal

pub returns : goal.returns
returns g c =
    subst (λ (ns : List ℕ). Puts (g.W.Write.contents c.args.writer.now) (g.W.Write.contents c.put_numbers.new.writer) c.args.gathered.now c.put_numbers.new.gathered (flat_map value_text ns))
    c.share_values.ensures c.put_numbers.ensures
