use Rattle.std.proofs.Common.{◌<◌, List, arith}
use Rattle.vsm_elements.specs.Chain.{Link, links}
use Rattle.list_table.specs.Stocks.{items_of}
use Rattle.list_table.proofs.ItemLemmas.{step_before, count_is, item_at}
use Rattle.cell_pool.proofs.PlaceLemmas.{items_step}
use Rattle.cell_pool.proofs.walks.ItemPlace.next.Goals as goal

pub words-words-requires-clause-there : goal.words-words-requires-clause-there
words-words-requires-clause-there c = let h : c.args.self.index < c.args.self.list.count = omega arith in (c.args.self.index, (h, c.next-id.ensures))

pub returns-clause-next : goal.returns-clause-next
returns-clause-next c =
    let ns : List Link = links c.args.elements.now c.args.self.list in
    let h : c.args.self.index < c.args.self.list.count = omega arith in
    items_step (items_of ns) c.args.self.index c.args.self.end c.words-words.result (omega arith)
    (item_at ns c.args.self.index c.next-id.result c.words-words.result (c.words-words.ensures c.args.self.index (h, c.next-id.ensures)))

pub returns-clause-place : goal.returns-clause-place
returns-clause-place c =
    let ns : List Link = links c.args.elements.now c.args.self.list in
    let h : c.args.self.index < c.args.self.list.count = omega arith in
    record {
      chain = c.requires.chain;
      within = omega arith;
      inside = c.requires.inside;
      behind = step_before ns c.args.self.index c.args.self.before c.next-id.result (count_is c.args.elements.now c.args.self.list c.requires.chain c.args.self.index h) c.next-id.ensures;
    }
