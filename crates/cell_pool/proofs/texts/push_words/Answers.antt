use Rattle.std.proofs.Common.{rules, arith}
use Rattle.cell_pool.proofs.TextLemmas.{words_small}
use Rattle.cell_pool.proofs.texts.push_words.Goals as goal

pub push_word-requires : goal.push_word-requires
push_word-requires g c = (search rules, (words_small c.args.words c.loop-k.k (search rules) c.requires.bytes, omega (arith, c.loop-k.invariant.len, c.loop-k-test.true, c.requires.room)))
