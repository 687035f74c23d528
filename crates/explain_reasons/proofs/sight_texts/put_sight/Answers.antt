use Rattle.std.proofs.Common.{ℕ, Option, sym, ap, ◌∙◌}
use Rattle.vsm_model.specs.declared.Subpool.{Subpool}
use Rattle.explain_reasons.specs.SightTexts.{owned_text, sight_text}
use Rattle.explain_text.proofs.Alike.{alike}
use Rattle.explain_reasons.proofs.sight_texts.put_sight.Goals as goal

pub returns-in-Some : goal.returns-in-Some
returns-in-Some g c =
    alike _ _ _ _ _ _
    (ap (λ (n : ℕ). owned_text c.args.task c.args.number n c.args.note.now) c.from.ensures
    ∙ ap (λ (o : Option Subpool). sight_text c.args.task c.args.number o c.args.note.now) (sym c.in-Some.is)) c.put_owned.ensures

pub returns-in-None : goal.returns-in-None
returns-in-None g c =
    alike _ _ _ _ _ _ (ap (λ (o : Option Subpool). sight_text c.args.task c.args.number o c.args.note.now) (sym c.in-None.is)) c.put_none_seen.ensures
