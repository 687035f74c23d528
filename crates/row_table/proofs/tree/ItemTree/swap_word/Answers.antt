use Rattle.std.proofs.Common.{◌∙◌, arith}
use Rattle.std.proofs.lemmas.List.{get_or-set_same}
use Rattle.row_table.specs.Trees.{words_at}
use Rattle.vsm_elements.specs.Chain.{element}
use Rattle.row_table.proofs.TreeLemmas.{owned_live}
use Rattle.row_table.proofs.ItemSetLemmas.{writes_word, got_behind, six}
use Rattle.row_table.proofs.tree.ItemTree.swap_word.Goals as goal

pub swap_word-requires-clause-live : goal.swap_word-requires-clause-live
swap_word-requires-clause-live c = owned_live c.args.elements.now c.args.self c.requires.tree c.args.id c.requires.there

pub returns-clause-writes : goal.returns-clause-writes
returns-clause-writes c = writes_word c.args.elements.now c.swap_word.new.self c.args.self c.requires.tree c.args.id c.requires.there c.swap_word.ensures.seven c.swap_word.ensures.spares c.args.k c.args.word c.swap_word.ensures.updates

pub returns-clause-answer : goal.returns-clause-answer
returns-clause-answer c = c.swap_word.ensures.answer ∙ got_behind ((element c.args.elements.now c.args.id).words) c.args.k c.swap_word.ensures.seven

pub returns-clause-here : goal.returns-clause-here
returns-clause-here c =
    get_or-set_same (words_at c.args.elements.now c.args.id) c.args.k c.args.word 0
    (omega (arith, c.requires.place, six ((element c.args.elements.now c.args.id).words) c.swap_word.ensures.seven))
