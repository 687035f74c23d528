use Rattle.std.proofs.Common.{◌≡◌, ◌+◌, Bool, true, false, refl, ap, ◌∙◌}
use Rattle.vsm_explain.specs.Questions.{one_if}
use Rattle.vsm_explain.proofs.questions.count_asked.Goals as goal
use mir.Val.{bool_byte}

one : (b : Bool) → bool_byte b ≡ one_if b
one true = refl
one false = refl

pub returns : goal.returns
returns c =
    let register = c.from.ensures ∙ one c.is_given.result ∙ ap one_if c.is_given.ensures in
    let name = c.from-2.ensures ∙ one c.is_given-2.result ∙ ap one_if c.is_given-2.ensures in
    let subpool = c.from-3.ensures ∙ one c.is_given-3.result ∙ ap one_if c.is_given-3.ensures in
    let address = c.from-4.ensures ∙ one c.is_given-4.result ∙ ap one_if c.is_given-4.ensures in
    λ i. register i + name i + subpool i + address i
