use Rattle.std.proofs.Common.{◌++◌, take, sym, subst}
use Rattle.std.proofs.lemmas.Grind.{flat_map-append}
use Rattle.std.specs.List.{flat_map}
use Rattle.vsm_model.specs.Texts.{hexadecimal}
use Rattle.text_output.specs.Writing.{Puts}
use Rattle.text_output.proofs.Known.{front_more}
use Rattle.text_output.proofs.Gathering.{puts_both}
use Rattle.text_output.proofs.numbers.put_bytes.Goals as goal

pub loop-rest-preserved : goal.loop-rest-preserved
loop-rest-preserved g c =
    let l = c.loop-rest in
    let before = l.invariant in
    let n = c.min-n.result in
    let more = take n l.rest.now in
    let both = puts_both _ _ _ _ _ _ (flat_map (hexadecimal 2) before.0) (flat_map (hexadecimal 2) more) before.2 c.put_few.ensures in (
      before.0 ++ more,
      front_more c.args.bytes.now before.0 l.rest.now n before.1,
      subst (Puts _ _ _ _) (sym (flat_map-append (hexadecimal 2) before.0 more)) both,
    )
