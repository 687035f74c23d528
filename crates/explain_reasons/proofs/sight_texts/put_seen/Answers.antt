use Rattle.std.proofs.Common.{ℕ, Option, ap, ◌∙◌}
use Rattle.vsm_model.specs.declared.Subpool.{Subpool}
use Rattle.storage_core.specs.Meaning.{state_of}
use Rattle.explain_reasons.specs.SightTexts.{sight_text}
use Rattle.explain_text.proofs.Alike.{alike}
use Rattle.explain_reasons.proofs.sight_texts.put_seen.Goals as goal

pub returns : goal.returns
returns g c =
    let s = state_of c.args.storage.now in
    alike _ _ _ _ _ _
    (ap (λ (n : ℕ). sight_text n c.args.number c.seen.result c.args.note.now) (c.from-task.ensures ∙ c.current.ensures)
    ∙ ap (λ (o : Option Subpool). sight_text s.current c.args.number o c.args.note.now) c.seen.ensures) c.put_sight.ensures
