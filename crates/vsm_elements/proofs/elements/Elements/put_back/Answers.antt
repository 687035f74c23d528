use Rattle.std.proofs.Common.{◌≤◌, ◌+◌, ap, arith}
use Rattle.std.proofs.lemmas.Grind.{common_steps}
use Rattle.vsm_elements.specs.Store.{Store}
use Rattle.vsm_elements.specs.contracts.elements.Elements.{the_view}
use Rattle.vsm_elements.proofs.StoreSteps.{split_sound, put_together, free_few}
use Rattle.vsm_elements.proofs.elements.Elements.put_back.Goals as goal

pub overflow_add-self : goal.overflow_add-self
overflow_add-self c =
    let few : c.self.inside.spare + c.self.inside.aside ≤ 4294967040 = free_few (the_view c.self.inside) c.self.invariant in
    let less = ap (λ v. v.aside) c.self.view_is in
    grind (arith, common_steps)

pub invariant_of-self : goal.invariant_of-self
invariant_of-self c = split_sound (the_view c.self.inside) _ _ c.self.invariant (omega (arith, ap (λ v. v.aside) c.self.view_is, c.requires))

pub returns : goal.returns
returns c =
    let le : c.args.n ≤ c.self.inside.aside = omega (arith, ap (λ (v : Store). v.aside) c.self.view_is, c.requires) in
    rw (← c.self.view_is) (put_together (the_view c.self.inside) c.args.n c.self.invariant le)
