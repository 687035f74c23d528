use Rattle.std.proofs.Common.{◌∙◌, ◌==◌, ap, not}
use Rattle.std.specs.Int.RustNames.{bit_and}
use Rattle.operand_texts.proofs.Classes.{stands}
use Rattle.operand_texts.proofs.words.is_name_byte.Goals as goal

pub returns : goal.returns
returns c = c.intersects.ensures tt ∙ ap (λ n. not (bit_and n 15 == 0)) c.classes_of.ensures ∙ stands c.args.byte
