use Rattle.std.proofs.Common.{◌≡◌, ℕ, false, ◌⊎◌, inl, inr, arith, eqb, ap}
use Rattle.std.proofs.lemmas.Bool.{eqb-true}
use Rattle.run_set.specs.Kept.{runs_of}
use Rattle.run_set.proofs.RunLemmas.{not_both}
use Rattle.run_tree.proofs.TreeLemmas.{length-any}
use Rattle.run_set.proofs.RoomLemmas.{best_between}
use Rattle.run_set.proofs.set.RunSet.room_between.Goals as goal

plain_only : (boundary : ℕ) → (boundary ≡ 1) ⊎ (boundary ≡ 512) → eqb boundary 512 ≡ false → boundary ≡ 1
plain_only boundary (inl e) h = e
plain_only boundary (inr e) h = absurd (not_both (eqb boundary 512) (ap (λ (b : ℕ). eqb b 512) e) h)

pub returns : goal.returns
returns c =
    best_between (runs_of c.args.elements.now c.args.self.now.tree) c.requires.kept.spaced c.args.region c.args.boundary c.args.from c.args.to (omega (arith, c.requires.place.1, length-any c.args.elements.now c.args.self.now.tree)) c.requires.whole _ c.most_room.result
    (eqb-true c.args.boundary 512) (plain_only c.args.boundary c.requires.asked) c.most_room.ensures
