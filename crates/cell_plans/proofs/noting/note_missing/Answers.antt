use Rattle.std.proofs.Common.{arith}
use Rattle.vsm_elements.proofs.OwnerLemmas.{calls_follow}
use Rattle.free_queue.specs.FreeQueue.{owned}
use Rattle.cell_plans.proofs.NotingLemmas.{one-more, still-spare}
use Rattle.cell_plans.proofs.noting.note_missing.Goals as goal

pub loop-doubleword-preserved : goal.loop-doubleword-preserved
loop-doubleword-preserved c =
    let s = c.args.elements.now in
    let q = c.args.noted.now in
    let t = c.loop-doubleword.elements in
    let r = c.loop-doubleword.noted in
    let u = c.note_doubleword.new.elements in
    let v = c.note_doubleword.new.noted in
    let its = c.loop-doubleword.invariant in
    let done = c.note_doubleword.ensures in
    record {
      queue = done.queue;
      set = one-more s t u q r v c.args.area.start c.loop-doubleword.doubleword its.from its.set done.set;
      leaves = calls_follow s t u (owned s q) (owned t r) (owned u v) its.leaves done.owned;
      spares = still-spare s t u q r v c.args.area.start c.loop-doubleword.doubleword its.from its.set done.set its.spares its.first done.spares done.joined;
      first = λ e. absurd (omega (arith, e, its.from));
      from = omega (arith, its.from);
      within = omega (arith, its.within, c.loop-doubleword-test.true);
    }
