use Rattle.vsm_bench.proofs.help.write_help.Goals as goal

pub returns-in-Ok-write_both : goal.returns-in-Ok-write_both
returns-in-Ok-write_both g c = (c.as_str.result.now, c.in-Ok-write_both.ensures)

pub returns : goal.returns
returns g c = (c.as_str.result.now, c.in-Err.ensures)
