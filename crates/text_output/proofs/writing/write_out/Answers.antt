use Rattle.std.proofs.Common.{◌++◌, take}
use Rattle.text_output.proofs.Known.{appends_more, front_more}
use Rattle.text_output.proofs.writing.write_out.Goals as goal

pub loop-rest-preserved : goal.loop-rest-preserved
loop-rest-preserved g c =
    let n = c.in-Ok.n in
    let before = c.loop-rest.invariant in (
      before.0 ++ take n c.loop-rest.rest.now,
      front_more c.args.text.now before.0 c.loop-rest.rest.now n before.1,
      appends_more _ _ _ before.0 (take n c.loop-rest.rest.now) before.2 c.in-Ok.ensures.bytes,
    )
