use Rattle.std.proofs.Common.{refl, ap, ◌∙◌, arith}
use Rattle.operand_texts.specs.declared.characters.TheConstants.{CLASSES}
use Rattle.operand_texts.proofs.ClassTable.{class_in, are_classes, class_at}
use Rattle.operand_texts.proofs.characters.classes_of.Goals as goal

pub returns : goal.returns
unfolding are_classes
returns c = ap (class_in CLASSES) c.from.ensures ∙ class_at CLASSES 256 refl c.args.byte (omega arith)
