use Rattle.std.proofs.Common.{◌≡◌, max, ◌∙◌, arith}
use Rattle.std.proofs.lemmas.Grind.{common_steps}
use Rattle.run_tree.specs.Shape.{plain, paged}
use Rattle.run_tree.proofs.RoomLemmas.{longest_with, total_with}
use Rattle.run_tree.proofs.shape.Rooms.with.Goals as goal

pub returns : goal.returns
returns c =
    let p : c.max.result ≡ max c.args.self.plain c.args.more.plain = grind (arith, common_steps, c.max.ensures) in
    let g : c.max-2.result ≡ max c.args.self.paged c.args.more.paged = grind (arith, common_steps, c.max-2.ensures) in
    λ xs new ys r m. (p ∙ longest_with plain xs new ys _ _ r.0 m.0, g ∙ longest_with paged xs new ys _ _ r.1 m.1, total_with xs new ys _ _ r.2 m.2)
