use Rattle.std.proofs.Common.{◌<◌, ◌-◌, ◌/◌, ◌%◌, [], length, set, get_or, arith, ◌∙◌, ap}
use Rattle.std.proofs.lemmas.List.{get_or_default}
use Rattle.vsm_elements.specs.Store.{with_stored, stored, blank}
use Rattle.vsm_elements.specs.Words.{with_next, with_word}
use Rattle.vsm_elements.proofs.StoreLemmas.{in_table_bounds}
use Rattle.vsm_elements.proofs.elements.store_turn.Goals as goal

pub returns-clause-stored : goal.returns-clause-stored
unfolding with_stored stored
returns-clause-stored c =
    let b = in_table_bounds c.args.blocks.now.items c.args.id c.requires.id in
    let q : (c.args.id - 1) / 128 < length c.args.blocks.now.items = omega arith in
    ap (λ x. set c.args.blocks.now.items ((c.args.id - 1) / 128) x)
    (c.turn.ensures.value ∙ ap (λ x. set x ((c.args.id - 1) % 128) (with_next (with_word (get_or x ((c.args.id - 1) % 128) blank) c.args.k c.args.word) c.args.next)) (c.index_mut-block.ensures.value ∙ get_or_default _ _ _ [] q))

pub returns-clause-answer : goal.returns-clause-answer
unfolding stored
returns-clause-answer c =
    let b = in_table_bounds c.args.blocks.now.items c.args.id c.requires.id in
    let q : (c.args.id - 1) / 128 < length c.args.blocks.now.items = omega arith in
    c.turn.ensures.answer ∙ ap (λ x. (get_or x ((c.args.id - 1) % 128) blank).next) (c.index_mut-block.ensures.value ∙ get_or_default _ _ _ [] q)
