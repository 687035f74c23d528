use Rattle.std.proofs.Common.{ℕ, Bool, ◌+◌}
use Rattle.std.proofs.lemmas.Bool.{leb-true, le-leb}
use Rattle.descriptor_queue.specs.Extents.{has_page}
use Rattle.descriptor_queue.proofs.CoverLemmas.{covered, reached}
use Rattle.descriptor_queue.proofs.extents.Extents.covers.Goals as goal

pub returns : goal.returns
returns c =
    let set : ℕ → Bool = λ p. has_page c.args.elements.now c.args.self.now p in
    let run = c.args.run in
    let end = c.end_from-end.result in (
      (λ e. covered set run end c.end_from-end.ensures (leb-true (run.start + run.len) end e)),
      (λ all. le-leb (run.start + run.len) end (reached set run end c.end_from-end.ensures all)),
    )
