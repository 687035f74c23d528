use Rattle.std.proofs.Common.{◌++◌, codes}
use Rattle.std.specs.Fmt.{decimal}
use Rattle.vsm_model.specs.Texts.{hexadecimal}
use Rattle.text_output.proofs.Gathering.{puts_both}
use Rattle.explain_check.proofs.found_texts.put_unset.Goals as goal

pub returns : goal.returns
returns g c =
    let front = codes "UNSET: nothing stored " in
    let address = hexadecimal 8 c.args.byte.address in
    let line = codes " since line " ++ decimal c.args.byte.line in
    puts_both _ _ _ _ _ _ (front ++ address ++ line) (codes " took it")
    (puts_both _ _ _ _ _ _ (front ++ address) line (puts_both _ _ _ _ _ _ front address c.put.ensures.puts c.put_hexadecimal.ensures) c.put_number.ensures)
    c.put-2.ensures.puts
