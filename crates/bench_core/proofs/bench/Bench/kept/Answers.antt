use Rattle.std.proofs.Common.{sym, ◌∙◌}
use Rattle.bench_core.proofs.Moves.{past_is}
use Rattle.bench_core.proofs.bench.Bench.kept.Goals as goal

pub returns : goal.returns
returns c =
    let b = c.args.self.now in
    c.kept.ensures.kept ∙ sym (past_is b.history.kept b.history.undone b.machine b.fits)
