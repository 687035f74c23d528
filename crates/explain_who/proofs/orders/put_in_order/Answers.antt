use Rattle.std.proofs.Common.{map, ap, sym, ◌∙◌}
use Rattle.explain_who.specs.Code.{difference_in}
use Rattle.explain_who.specs.Forms.{in_order}
use Rattle.explain_who.proofs.Ordering.{turned_map}
use Rattle.explain_who.proofs.orders.put_in_order.Goals as goal

pub returns-in-NewestFirst : goal.returns-in-NewestFirst
returns-in-NewestFirst c =
    let found = c.args.found.now.items in
    ap (map difference_in) c.reverse.ensures.items ∙ turned_map difference_in found
    ∙ ap (λ order. in_order order (map difference_in found)) (sym c.in-NewestFirst.is)
