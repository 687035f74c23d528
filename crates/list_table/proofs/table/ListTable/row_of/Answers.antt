use Rattle.std.proofs.Common.{◌+◌, ◌++◌, ◌∷◌, ap, ◌∙◌, take, drop}
use Rattle.std.specs.Prelude.{map}
use Rattle.vsm_elements.specs.Chain.{Link, links}
use Rattle.list_table.specs.Entries.{Entry}
use Rattle.list_table.specs.Kept.{entry_in, place_of}
use Rattle.list_table.specs.ListTable.{entries, earlier, later, owned, owned_but, index_of, IsTable, IsTableBut}
use Rattle.list_table.proofs.IndexLemmas.{link_there}
use Rattle.list_table.proofs.TableLemmas.{hand_entry, hand_open, hand_leaves, hand_entries}
use Rattle.list_table.proofs.table.ListTable.row_of.Goals as goal

pub words-words-requires-clause-there : goal.words-words-requires-clause-there
unfolding entries IsTable
words-words-requires-clause-there c = (place_of c.args.id (links c.args.elements.now c.args.self.now.chain), link_there c.args.elements.now c.args.self.now.chain c.args.id c.requires.table.chain c.requires.there)

pub returns-clause-open : goal.returns-clause-open
unfolding entries owned_but index_of IsTable IsTableBut
returns-clause-open c =
    hand_open c.args.elements.now c.args.self.now c.requires.table (record { id = c.args.id; words = c.words-words.result }) (c.words-words.ensures (place_of c.args.id (links c.args.elements.now c.args.self.now.chain)) (link_there c.args.elements.now c.args.self.now.chain c.args.id c.requires.table.chain c.requires.there)) c.own_words.result c.stock_head.result c.stock_head.ensures

pub returns-clause-parts : goal.returns-clause-parts
unfolding entries earlier later index_of IsTable
returns-clause-parts c =
    let n : Link = record { id = c.args.id; words = c.words-words.result } in
    let k = place_of c.args.id (links c.args.elements.now c.args.self.now.chain) in
    hand_entries c.args.elements.now c.args.self.now.chain c.requires.table k n (c.words-words.ensures k (link_there c.args.elements.now c.args.self.now.chain c.args.id c.requires.table.chain c.requires.there))
    ∙ ap (λ (z : Entry). map (entry_in c.args.elements.now) (take k (links c.args.elements.now c.args.self.now.chain)) ++ z ∷ map (entry_in c.args.elements.now) (drop (k + 1) (links c.args.elements.now c.args.self.now.chain))) (hand_entry c.args.elements.now n c.own_words.result c.stock_head.result c.own_words.ensures c.stock_head.ensures)

pub returns-clause-owned : goal.returns-clause-owned
unfolding entries owned owned_but index_of IsTable
returns-clause-owned c t has f =
    let n : Link = record { id = c.args.id; words = c.words-words.result } in
    let k = place_of c.args.id (links c.args.elements.now c.args.self.now.chain) in
    hand_leaves c.args.elements.now c.args.self.now.chain c.requires.table k n (c.words-words.ensures k (link_there c.args.elements.now c.args.self.now.chain c.args.id c.requires.table.chain c.requires.there)) c.stock_head.result c.stock_head.ensures t has f
