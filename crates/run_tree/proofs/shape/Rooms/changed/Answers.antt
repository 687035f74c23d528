use Rattle.run_tree.specs.Shape.{plain, paged}
use Rattle.run_tree.proofs.RoomLemmas.{longest_changed, total_changed}
use Rattle.run_tree.proofs.shape.Rooms.changed.Goals as goal

pub returns : goal.returns
returns c = λ xs old new ys r w n. (
  longest_changed plain xs old new ys _ _ _ _ c.in_ok-plain.ensures r.0 w.0 n.0,
  longest_changed paged xs old new ys _ _ _ _ c.in_ok-paged.ensures r.1 w.1 n.1,
  total_changed xs old new ys _ _ _ r.2 w.2 n.2,
)
