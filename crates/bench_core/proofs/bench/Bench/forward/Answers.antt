use Rattle.std.proofs.Common.{sym, ◌∙◌, ap}
use Rattle.bench_core.specs.Stands.{settings_in}
use Rattle.bench_core.proofs.Moves.{directed_of, forward_memory, forward_stays, forward_keeps}
use Rattle.bench_core.proofs.bench.Bench.forward.Goals as goal

pub forward-requires : goal.forward-requires
forward-requires c = c.args.self.now.fits

pub invariant_of-self : goal.invariant_of-self
invariant_of-self c =
    let b = c.args.self.now in
    let stays = forward_stays _ b.history c.forward.new.self b.machine c.forward.new.s (directed_of b) c.forward.result c.forward.ensures.ok c.forward.ensures.unchanged in
    record {
      fits = c.forward.ensures.fits;
      whole = c.forward.ensures.whole b.whole;
      kept_define_none = stays.1.kept_define_none;
      undone_undefine_none = stays.1.undone_undefine_none;
      limit = c.forward.ensures.limit ∙ b.limit ∙ sym (ap (λ settings. settings.history) stays.0);
    }

pub returns-clause-keeps : goal.returns-clause-keeps
returns-clause-keeps c =
    let h = c.args.self.now.history in
    let n = c.forward.new.self in
    forward_keeps (settings_in c.args.self.now) c.args.n h n c.args.self.now.machine c.forward.new.s c.forward.result
    c.args.self.now.fits c.forward.ensures.fits c.forward.ensures.states c.forward.ensures.accepted
    c.forward.ensures.steps c.forward.ensures.err c.forward.ensures.unchanged

pub returns-clause-settings : goal.returns-clause-settings
returns-clause-settings c =
    let b = c.args.self.now in
    (forward_stays _ b.history c.forward.new.self b.machine c.forward.new.s (directed_of b) c.forward.result c.forward.ensures.ok c.forward.ensures.unchanged).0

pub returns-clause-memory : goal.returns-clause-memory
returns-clause-memory c =
    let b = c.args.self.now in
    forward_memory _ b.history c.forward.new.self b.machine c.forward.new.s c.forward.result c.forward.ensures.ok c.forward.ensures.unchanged
