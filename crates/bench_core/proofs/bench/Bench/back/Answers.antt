use Rattle.std.proofs.Common.{sym, ◌∙◌, ap}
use Rattle.bench_core.specs.Stands.{settings_in}
use Rattle.bench_core.proofs.Moves.{directed_of, back_memory, back_stays, back_keeps}
use Rattle.bench_core.proofs.bench.Bench.back.Goals as goal

pub back-requires : goal.back-requires
back-requires c = c.args.self.now.fits

pub invariant_of-self : goal.invariant_of-self
invariant_of-self c =
    let b = c.args.self.now in
    let stays = back_stays _ b.history c.back.new.self b.machine c.back.new.s (directed_of b) c.back.result c.back.ensures.ok c.back.ensures.unchanged in
    record {
      fits = c.back.ensures.fits;
      whole = c.back.ensures.whole b.whole;
      kept_define_none = stays.1.kept_define_none;
      undone_undefine_none = stays.1.undone_undefine_none;
      limit = c.back.ensures.limit ∙ b.limit ∙ sym (ap (λ settings. settings.history) stays.0);
    }

pub returns-clause-keeps : goal.returns-clause-keeps
returns-clause-keeps c =
    let h = c.args.self.now.history in
    let n = c.back.new.self in
    back_keeps (settings_in c.args.self.now) c.args.n h n c.args.self.now.machine c.back.new.s c.back.result
    c.args.self.now.fits c.back.ensures.fits c.back.ensures.states c.back.ensures.accepted
    c.back.ensures.steps c.back.ensures.err c.back.ensures.unchanged

pub returns-clause-settings : goal.returns-clause-settings
returns-clause-settings c =
    let b = c.args.self.now in
    (back_stays _ b.history c.back.new.self b.machine c.back.new.s (directed_of b) c.back.result c.back.ensures.ok c.back.ensures.unchanged).0

pub returns-clause-memory : goal.returns-clause-memory
returns-clause-memory c =
    let b = c.args.self.now in
    back_memory _ b.history c.back.new.self b.machine c.back.new.s c.back.result c.back.ensures.ok c.back.ensures.unchanged
