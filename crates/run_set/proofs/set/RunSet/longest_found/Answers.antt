use Rattle.std.proofs.Common.{◌≡◌, max, arith}
use Rattle.std.proofs.lemmas.Grind.{common_steps}
use Rattle.run_set.specs.Kept.{runs_of}
use Rattle.run_tree.proofs.TreeLemmas.{length-any}
use Rattle.run_set.proofs.RoomLemmas.{whole_between, found_none, found_first, found_middle, found_last}
use Rattle.run_set.proofs.set.RunSet.longest_found.Goals as goal

pub returns-then-low-count : goal.returns-then-low-count
returns-then-low-count c = found_none (runs_of c.args.elements.now c.args.self.now.tree) c.requires.kept.spaced c.args.region c.args.boundary c.args.self.now.tree.count (length-any c.args.elements.now c.args.self.now.tree) c.seek-low.result c.seek-low.ensures c.if-low-count.true

pub room_at-first-requires-clause-place : goal.room_at-first-requires-clause-place
room_at-first-requires-clause-place c = omega (arith, c.seek-low.ensures.within, length-any c.args.elements.now c.args.self.now.tree, c.if-low-count.false)

pub returns-then-high-low : goal.returns-then-high-low
returns-then-high-low c = found_first (runs_of c.args.elements.now c.args.self.now.tree) c.requires.kept.spaced c.args.region c.args.boundary c.args.self.now.tree.count (length-any c.args.elements.now c.args.self.now.tree) c.seek-low.result c.seek-low.ensures c.seek-high.result c.seek-high.ensures c.room_at-first.result c.room_at-first.ensures (omega (arith, c.if-high-low.true))

pub room_between-middle-requires-clause-place : goal.room_between-middle-requires-clause-place
room_between-middle-requires-clause-place c = (omega (arith, c.if-high-low.false), omega (arith, c.seek-high.ensures.within, length-any c.args.elements.now c.args.self.now.tree))

pub room_between-middle-requires-clause-whole : goal.room_between-middle-requires-clause-whole
room_between-middle-requires-clause-whole c i p q = whole_between (runs_of c.args.elements.now c.args.self.now.tree) c.requires.kept.spaced c.args.region c.args.boundary c.seek-low.result c.seek-high.result c.seek-low.ensures c.seek-high.ensures i p q

pub returns-then-high-count : goal.returns-then-high-count
returns-then-high-count c =
    let m : max c.room_at-first.result c.room_between-middle.result ≡ c.max.result = grind (arith, common_steps, c.max.ensures) in
    found_middle (runs_of c.args.elements.now c.args.self.now.tree) c.requires.kept.spaced c.args.region c.args.boundary c.args.self.now.tree.count (length-any c.args.elements.now c.args.self.now.tree) c.seek-low.result c.seek-low.ensures c.seek-high.result c.seek-high.ensures c.room_at-first.result c.room_at-first.ensures c.room_between-middle.result c.room_between-middle.ensures c.max.result c.if-high-count.true m

pub room_at-last-requires-clause-place : goal.room_at-last-requires-clause-place
room_at-last-requires-clause-place c = omega (arith, c.seek-high.ensures.within, length-any c.args.elements.now c.args.self.now.tree, c.if-high-count.false)

pub returns : goal.returns
returns c =
    let m : max (max c.room_at-first.result c.room_between-middle.result) c.room_at-last.result ≡ c.max-3.result = grind (arith, common_steps, c.max-2.ensures, c.max-3.ensures) in
    found_last (runs_of c.args.elements.now c.args.self.now.tree) c.requires.kept.spaced c.args.region c.args.boundary c.args.self.now.tree.count (length-any c.args.elements.now c.args.self.now.tree) c.seek-low.result c.seek-low.ensures c.seek-high.result c.seek-high.ensures c.room_at-first.result c.room_at-first.ensures c.room_between-middle.result c.room_between-middle.ensures c.room_at-last.result c.max-3.result c.room_at-last.ensures m
