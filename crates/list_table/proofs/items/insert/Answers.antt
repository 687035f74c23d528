use Rattle.std.proofs.Common.{arith}
use Rattle.vsm_elements.specs.Chain.{links}
use Rattle.list_table.proofs.ItemLemmas.{put_items, in_count}
use Rattle.list_table.proofs.items.insert.Goals as goal

pub returns-clause-count : goal.returns-clause-count
returns-clause-count c = omega (arith, c.requires.chain.count, c.insert.ensures.chain.count, in_count (links c.args.elements.now c.args.list.now) (links c.insert.new.elements c.insert.new.self) c.args.k _ (omega (arith, c.requires.chain.count, c.requires.within)) c.insert.ensures.links)

pub returns-clause-items : goal.returns-clause-items
returns-clause-items c = put_items (links c.args.elements.now c.args.list.now) (links c.insert.new.elements c.insert.new.self) c.args.k c.insert.result c.args.words c.insert.ensures.links
