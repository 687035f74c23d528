use Rattle.std.proofs.Common.{Some, sym, ap, ◌∙◌}
use Rattle.explain_reasons.specs.Releases.{free_text}
use Rattle.explain_text.proofs.Alike.{alike}
use Rattle.explain_reasons.proofs.releases.put_free.Goals as goal

pub returns-in-Some : goal.returns-in-Some
returns-in-Some g c =
    alike _ _ _ _ _ _
    ((λ i. free_text c.args.address (Some (record { number = c.from.ensures i; owner = c.from-in-Some.ensures i })))
    ∙ ap (free_text c.args.address) (sym c.in-Some.is)) c.put_line.ensures.text

pub returns-in-None : goal.returns-in-None
returns-in-None g c = alike _ _ _ _ _ _ (ap (free_text c.args.address) (sym c.in-None.is)) c.put_line-in-None.ensures.text
