use Rattle.std.proofs.Common.{◌≡◌, ◌+◌, ◌∙◌, ◌-◌, ◌∷◌, length, take, reverse, sym, ap, refl, arith}
use Rattle.std.specs.Vec.{vec_len}
use Rattle.explain_areas.specs.Areas.{joined}
use Rattle.explain_areas.specs.declared.parts.LineArea.{LineArea as AreaIn}
use Rattle.explain_areas.proofs.Joining.{from_end, set_at_end, goes}
use Rattle.explain_areas.proofs.parts.add.Goals as goal

pub returns-then-goes_on : goal.returns-then-goes_on
returns-then-goes_on c =
    let xs = c.args.areas.now.items in
    let n = vec_len c.args.areas.now - 1 in
    let last : AreaIn = c.in-Some.last.now in
    let more : AreaIn = record last { count = last.count + c.args.next.count } in
    let size : length xs ≡ n + 1 = omega (arith, c.in-Some.ensures.variant.0 refl) in
    let end : reverse xs ≡ last ∷ reverse (take n xs) = from_end xs n last size ∙ ap (λ a. a ∷ reverse (take n xs)) (sym c.in-Some.ensures.value) in
    set_at_end xs n more size ∙ sym (ap (joined c.args.next) end ∙ goes c.args.next last (reverse (take n xs)) (sym c.goes_on.ensures ∙ c.if-goes_on.true))
