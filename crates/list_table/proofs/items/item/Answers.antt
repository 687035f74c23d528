use Rattle.vsm_elements.specs.Chain.{links}
use Rattle.list_table.proofs.ItemLemmas.{item_at}
use Rattle.list_table.proofs.items.item.Goals as goal

pub words-requires-clause-there : goal.words-requires-clause-there
words-requires-clause-there c = (c.args.k, (c.requires.within, c.next-id.ensures))

pub returns : goal.returns
returns c = item_at (links c.args.elements.now c.args.list) c.args.k c.next-id.result c.words.result (c.words.ensures c.args.k (c.requires.within, c.next-id.ensures))
