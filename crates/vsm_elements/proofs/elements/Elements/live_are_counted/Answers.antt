use Rattle.std.proofs.Common.{arith, ap, sym, subst, length}
use Rattle.vsm_elements.specs.Store.{Store, AreLive}
use Rattle.vsm_elements.specs.contracts.elements.Elements.{the_view}
use Rattle.vsm_elements.proofs.LiveLemmas.{live_and_spare}
use Rattle.vsm_elements.proofs.elements.Elements.live_are_counted.Goals as goal

pub returns : goal.returns
returns c ids live =
    let P : Store → Type 0 = λ t. AreLive t ids in
    let seen : AreLive (the_view c.self.inside) ids = subst P (sym c.self.view_is) live in
    omega (arith, live_and_spare (the_view c.self.inside) ids c.self.invariant seen, ap (λ (t : Store). t.spare) c.self.view_is, ap (λ (t : Store). t.aside) c.self.view_is, ap (λ (t : Store). length t.blocks) c.self.view_is)
