use Rattle.text_output.proofs.writing.nothing_taken.Goals as goal

pub returns : goal.returns
returns c = c.from.ensures
