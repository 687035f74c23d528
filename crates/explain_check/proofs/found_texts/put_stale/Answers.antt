use Rattle.std.proofs.Common.{◌++◌, codes}
use Rattle.std.specs.Fmt.{decimal}
use Rattle.text_output.proofs.Gathering.{puts_both}
use Rattle.explain_text.specs.Json.{bytes_in}
use Rattle.explain_check.proofs.found_texts.put_stale.Goals as goal

pub returns : goal.returns
returns g c =
    puts_both _ _ _ _ _ _ (codes "STALE: what " ++ bytes_in c.args.form c.args.name.now) (codes " names was ended by line " ++ decimal c.args.line) c.put_name.ensures c.put_number.ensures
