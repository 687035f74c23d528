use Rattle.std.proofs.Common.{◌++◌, codes, length}
use Rattle.text_output.proofs.Gathering.{puts_both}
use Rattle.explain_who.specs.LineTexts.{plural}
use Rattle.explain_check.specs.LeftTexts.{first_ten, more_lines}
use Rattle.explain_check.proofs.left_texts.put_lines.Goals as goal

pub returns : goal.returns
returns g c =
    let lines = c.args.lines.now in
    puts_both _ _ _ _ _ _ (codes ", of line" ++ plural (length lines) ++ codes " " ++ first_ten lines) (more_lines lines)
    (puts_both _ _ _ _ _ _ (codes ", of line" ++ plural (length lines) ++ codes " ") (first_ten lines)
    (puts_both _ _ _ _ _ _ (codes ", of line" ++ plural (length lines)) (codes " ")
    (puts_both _ _ _ _ _ _ (codes ", of line") (plural (length lines))
    c.put.ensures.puts
    c.put_plural.ensures)
    c.put-2.ensures.puts)
    c.put_ten.ensures)
    c.put_more.ensures
