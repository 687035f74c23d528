use Rattle.std.proofs.Common.{inl, inr, refl}
use Rattle.vsm_explain.proofs.answers.named.Goals as goal

pub returns-in-Err : goal.returns-in-Err
returns-in-Err g c = inr (c.in-Err.ensures.none, refl)

pub returns : goal.returns
returns g c = inl (c.in-Ok.asked, c.in-Ok.ensures.subject, c.who-outcome.result, c.who-outcome.ensures.told, c.followed.ensures)
