use Rattle.explain_check.proofs.refusals.put_step.Goals as goal

pub returns : goal.returns
returns g c = (c.step_words.result.now, c.step_words.ensures, c.put_words.ensures)
