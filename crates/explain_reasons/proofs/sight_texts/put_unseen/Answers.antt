use Rattle.std.proofs.Common.{ℕ, ap, ◌∙◌}
use Rattle.explain_reasons.specs.SightTexts.{unseen_text}
use Rattle.explain_text.proofs.Alike.{alike}
use Rattle.explain_reasons.proofs.sight_texts.put_unseen.Goals as goal

pub returns : goal.returns
returns g c = alike _ _ _ _ _ _ (ap (λ (n : ℕ). unseen_text n c.args.number) (c.from.ensures ∙ c.current.ensures)) c.put_none_seen.ensures
