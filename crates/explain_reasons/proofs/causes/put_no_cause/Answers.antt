use Rattle.std.proofs.Common.{sym, subst}
use Rattle.vsm_model.specs.Meaning.{service_in}
use Rattle.explain_reasons.specs.Told.{TellsEffect}
use Rattle.explain_reasons.proofs.Endings.{some_of}
use Rattle.explain_reasons.proofs.causes.put_no_cause.Goals as goal

pub returns-in-Obtain-clause-effect : goal.returns-in-Obtain-clause-effect
returns-in-Obtain-clause-effect g c =
    subst (λ z. TellsEffect c.args.storage.now (service_in z) (g.W.Write.contents c.args.writer.now) (g.W.Write.contents c.put_area.new.writer) c.args.gathered.now c.put_area.new.gathered)
    (sym c.in-Obtain.is) c.put_area.ensures.place

pub returns-in-Release-clause-effect : goal.returns-in-Release-clause-effect
returns-in-Release-clause-effect g c =
    subst (λ z. TellsEffect c.args.storage.now (service_in z) (g.W.Write.contents c.args.writer.now) (g.W.Write.contents c.put_released.new.writer) c.args.gathered.now c.put_released.new.gathered)
    (sym c.in-Release.is) c.put_released.ensures

pub returns-in-Whole-clause-effect : goal.returns-in-Whole-clause-effect
returns-in-Whole-clause-effect g c =
    subst (λ z. TellsEffect c.args.storage.now (service_in z) (g.W.Write.contents c.args.writer.now) (g.W.Write.contents c.put_seen.new.writer) c.args.gathered.now c.put_seen.new.gathered)
    (sym c.in-Whole.is) c.put_seen.ensures

pub returns-in-Attach-clause-effect : goal.returns-in-Attach-clause-effect
returns-in-Attach-clause-effect g c =
    subst (λ z. TellsEffect c.args.storage.now (service_in z) (g.W.Write.contents c.args.writer.now) (g.W.Write.contents c.put_task_count.new.writer) c.args.gathered.now c.put_task_count.new.gathered)
    (sym c.in-Attach.is) c.put_task_count.ensures

pub returns-in-Build-clause-effect : goal.returns-in-Build-clause-effect
returns-in-Build-clause-effect g c =
    subst (λ z. TellsEffect c.args.storage.now (service_in z) (g.W.Write.contents c.args.writer.now) (g.W.Write.contents c.put_first_extent.new.writer) c.args.gathered.now c.put_first_extent.new.gathered)
    (sym c.in-Build.is) c.put_first_extent.ensures

pub returns-in-Free-clause-effect : goal.returns-in-Free-clause-effect
returns-in-Free-clause-effect g c =
    subst (λ z. TellsEffect c.args.storage.now (service_in z) (g.W.Write.contents c.args.writer.now) (g.W.Write.contents c.put_text.new.writer) c.args.gathered.now c.put_text.new.gathered)
    (sym c.in-Free.is) c.put_text.ensures.text

pub returns-in-Delete-clause-effect : goal.returns-in-Delete-clause-effect
returns-in-Delete-clause-effect g c =
    subst (λ z. TellsEffect c.args.storage.now (service_in z) (g.W.Write.contents c.args.writer.now) (g.W.Write.contents c.put_no_pool.new.writer) c.args.gathered.now c.put_no_pool.new.gathered)
    (sym c.in-Delete.is) c.put_no_pool.ensures

pub returns-in-Release-clause-some : goal.returns-in-Release-clause-some
returns-in-Release-clause-some g c = some_of _ _ _ _ _ c.put_released.ensures
