use Rattle.std.proofs.Common.{arith}
use Rattle.cell_pool.proofs.NameLemmas.{header_is, are_bytes}
use Rattle.cell_pool.proofs.label.header_words.Goals as goal

pub returns-clause-words : goal.returns-clause-words
returns-clause-words c = header_is c.args.bytes.now c.seven_words.result c.word.result (λ i. omega (arith, c.type_inv.bytes i)) c.requires c.seven_words.ensures c.word.ensures

pub returns-clause-bytes : goal.returns-clause-bytes
returns-clause-bytes c = are_bytes c.args.bytes.now (λ i. omega (arith, c.type_inv.bytes i))
