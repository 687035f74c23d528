use Rattle.macro_reader.proofs.continuation.is_indented.Goals as goal

pub returns : goal.returns
returns c = c.is_blank.ensures
