use Rattle.explain_check.proofs.refusals.put_undefined.Goals as goal

pub returns : goal.returns
returns g c = (c.one_line.result.now, c.one_line.ensures, c.put_words.ensures)
