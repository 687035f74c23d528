use Rattle.std.proofs.Common.{◌≡◌, ◌+◌, ◌-◌, ◌<◌, ◌≤◌, ◌∙◌, ℕ, List, Option, Some, Ok, Err, Result, OnOk, reverse, sym, ap, arith}
use Rattle.explain_areas.specs.Areas.{areas_to, joined}
use Rattle.explain_areas.specs.declared.parts.LineArea.{LineArea as AreaIn}
use Rattle.explain_areas.proofs.Joining.{part, some_on, none_on}
use Rattle.vsm_model.specs.declared.Subpool.{Subpool}
use Rattle.explain_areas.proofs.parts.add_part.Goals as goal

added : {E : Type 0} (r : Result (Unit {0}) E) (p : Subpool) (first end line : ℕ) (told : Option ℕ) (old new : List AreaIn) → first < end → told ≡ Some line →
    OnOk r (new ≡ joined (part p line first (end - first)) old) →
    OnOk r ((f : ℕ → Option ℕ) (others : List AreaIn) → ((d : ℕ) → first ≤ d → d < end → f d ≡ told) → old ≡ areas_to p f first others → new ≡ areas_to p f end others)
added (Err e) p first end line told old new some is joins = tt
added (Ok u) p first end line told old new some is joins = λ f others each before.
    let n = end - first - 1 in
    let e : end ≡ first + (n + 1) = omega (arith, some) in
    let m : end - first ≡ n + 1 = omega (arith, some) in
    joins ∙ ap (λ k. joined (part p line first k) old) m ∙ ap (joined (part p line first (n + 1))) before
    ∙ sym (ap (λ k. areas_to p f k others) e ∙ some_on p line f others first n (λ d from to. each d from (omega (arith, to, e)) ∙ is))

pub returns-in-Some : goal.returns-in-Some
returns-in-Some c =
    added c.add.result c.args.subpool c.args.first c.args.end c.in-Some.line c.args.line (reverse c.args.areas.now.items) (reverse c.add.new.areas.items) c.requires c.in-Some.is c.add.ensures

pub returns-in-None : goal.returns-in-None
returns-in-None c f others none before =
    let n = c.args.end - c.args.first in
    let e : c.args.end ≡ c.args.first + n = omega (arith, c.requires) in
    before ∙ sym (ap (λ k. areas_to c.args.subpool f k others) e ∙ none_on c.args.subpool f others c.args.first n (λ d from to. none d from (omega (arith, to, e)) ∙ c.in-None.is))
