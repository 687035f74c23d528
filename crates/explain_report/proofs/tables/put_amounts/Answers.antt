use Rattle.std.proofs.Common.{ℕ, List, [], ◌∷◌, ◌*◌, subst}
use Rattle.text_output.specs.Writing.{Puts}
use Rattle.explain_report.specs.Texts.{columns}
use Rattle.explain_report.proofs.tables.put_amounts.Goals as goal

pub returns : goal.returns
returns g c =
    let w0 = g.W.Write.contents c.args.writer.now in
    let w1 = g.W.Write.contents c.put_columns.new.writer in
    subst (λ (cells : List (ℕ × ℕ)). Puts w0 w1 c.args.gathered.now c.put_columns.new.gathered (columns cells))
    (λ i. (7, c.from.ensures i) ∷ (11, c.taken_of.ensures i) ∷ (11, 8 * c.from-2.ensures i) ∷ (7, c.from-3.ensures i) ∷ (11, 8 * c.from-4.ensures i) ∷ [])
    c.put_columns.ensures
