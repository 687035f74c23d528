use Rattle.macro_statements.specs.Requests.{act_in}
use Rattle.vsm_machine.specs.Meaning.{settings_of}
use Rattle.bench_core.specs.Stands.{bench_of}
use Rattle.bench_core.specs.Sparing.{MakesForStatement}
use Rattle.bench_core.proofs.Accepted.{refused_as}
use Rattle.bench_core.proofs.Wanting.{if_ok, spares_wanting}
use Rattle.bench_core.proofs.bench.Bench.apply.Goals as goal

pub returns-in-Err-clause-keeps : goal.returns-in-Err-clause-keeps
returns-in-Err-clause-keeps c =
    let b = c.args.self.now in
    let is = c.in-Err.ensures in
    refused_as (settings_of b.machine.storage) (settings_of b.machine.storage).history (bench_of b) (act_in c.args.statement.now)
    c.in-Err.refusal is.0 is.1 is.2

pub carry_out-requires : goal.carry_out-requires
carry_out-requires c = (act_in c.args.statement.now, c.in-Ok.ensures)

pub returns-in-Ok-clause-made : goal.returns-in-Ok-clause-made
returns-in-Ok-clause-made c =
    let x = act_in c.args.statement.now in
    if_ok c.carry_out.result (MakesForStatement c.args.self.now.machine x c.carry_out.new.self.machine) (c.in-Ok.planned, c.in-Ok.ensures, c.carry_out.ensures.made x c.in-Ok.ensures)

pub returns-in-Ok-clause-sparing : goal.returns-in-Ok-clause-sparing
returns-in-Ok-clause-sparing c =
    let m = c.args.self.now.machine in
    let n = c.carry_out.new.self.machine in
    let x = act_in c.args.statement.now in
    spares_wanting m x n c.carry_out.result c.carry_out.ensures.wants (c.in-Ok.planned, c.in-Ok.ensures, c.carry_out.ensures.made x c.in-Ok.ensures)
