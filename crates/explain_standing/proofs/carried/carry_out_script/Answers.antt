use Rattle.explain_standing.proofs.Whole.{all_carried}
use Rattle.explain_standing.proofs.carried.carry_out_script.Goals as goal

pub returns-in-Ok-carry_out_all : goal.returns-in-Ok-carry_out_all
returns-in-Ok-carry_out_all g c =
    let settings = c.args.settings in
    all_carried settings c.args.script.now c.in-Ok.followed c.standing.result.now c.new-carried.result c.carry_out_all.new.self c.in-Ok.ensures c.standing.ensures
    (c.new-carried.ensures.carried settings c.in-Ok-new.ensures) c.in-Ok-carry_out_all.ensures
