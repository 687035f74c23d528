use Rattle.run_tree.proofs.OneLemmas.{writes_one, live_one}
use Rattle.run_tree.proofs.tree.RunTree.rewrite_one.Goals as goal

pub fill-rooms-requires-clause-live : goal.fill-rooms-requires-clause-live
fill-rooms-requires-clause-live c = live_one c.args.elements.now c.args.self c.requires.tree c.requires.one

pub returns : goal.returns
returns c =
    let s = c.args.elements.now in
    let none = c.empty-none in
    writes_one s c.args.self c.requires.tree c.requires.one c.fill-rooms.new.elements none.result c.args.run none.ensures.count (none.ensures.runs s) (none.ensures.owned s) c.fill-rooms.ensures.joins
