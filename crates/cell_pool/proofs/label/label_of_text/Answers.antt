use Rattle.std.proofs.Common.{◌∙◌, ap, arith}
use Rattle.cell_pool.specs.Names.{spelled}
use Rattle.cell_pool.proofs.NameLemmas.{label_is, name_back, are_bytes}
use Rattle.cell_pool.proofs.label.label_of_text.Goals as goal

pub returns-clause-packed : goal.returns-clause-packed
returns-clause-packed c = label_is c.args.bytes.now c.seven_words.result c.seven_words-2.result c.seven_words-3.result c.seven_words.ensures c.seven_words-2.ensures c.seven_words-3.ensures

pub returns-clause-spelled : goal.returns-clause-spelled
returns-clause-spelled c =
    ap spelled (label_is c.args.bytes.now c.seven_words.result c.seven_words-2.result c.seven_words-3.result c.seven_words.ensures c.seven_words-2.ensures c.seven_words-3.ensures)
    ∙ name_back c.args.bytes.now (λ i. omega (arith, c.type_inv.bytes i)) c.requires

pub returns-clause-bytes : goal.returns-clause-bytes
returns-clause-bytes c = are_bytes c.args.bytes.now (λ i. omega (arith, c.type_inv.bytes i))
