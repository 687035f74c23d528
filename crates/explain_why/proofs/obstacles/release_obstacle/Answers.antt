use Rattle.std.proofs.Common.{Some, ap, ◌∙◌}
use Rattle.std.specs.Prelude.{option_map}
use Rattle.storage_core.specs.Meaning.{state_of}
use Rattle.explain_who.specs.Taken.{taken_at}
use Rattle.explain_why.specs.Obstacles.{area_obstacle}
use Rattle.explain_why.proofs.obstacles.release_obstacle.Goals as goal

pub returns-in-Some : goal.returns-in-Some
returns-in-Some c =
    let s = state_of c.args.storage.now in
    ap Some c.area_obstacle.ensures ∙ ap (option_map (λ address. area_obstacle address (taken_at s address))) c.in-Some.ensures

pub returns-in-None : goal.returns-in-None
returns-in-None c =
    let s = state_of c.args.storage.now in
    ap (option_map (λ address. area_obstacle address (taken_at s address))) c.in-None.ensures
