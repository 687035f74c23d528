use Rattle.std.proofs.Common.{◌∙◌, ◌==◌, ap, not}
use Rattle.std.specs.Int.RustNames.{bit_and}
use Rattle.operand_texts.proofs.Classes.{begins}
use Rattle.operand_texts.proofs.words.is_letter.Goals as goal

pub returns : goal.returns
returns c = c.intersects.ensures tt ∙ ap (λ n. not (bit_and n 7 == 0)) c.classes_of.ensures ∙ begins c.args.byte
