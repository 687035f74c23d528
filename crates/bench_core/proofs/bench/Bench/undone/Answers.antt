use Rattle.std.proofs.Common.{sym, ◌∙◌}
use Rattle.bench_core.proofs.Moves.{later_is}
use Rattle.bench_core.proofs.bench.Bench.undone.Goals as goal

pub returns : goal.returns
returns c =
    let b = c.args.self.now in
    c.undone.ensures.undone ∙ sym (later_is b.history.kept b.history.undone b.machine b.fits)
