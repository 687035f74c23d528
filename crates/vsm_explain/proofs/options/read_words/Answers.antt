use Rattle.std.proofs.Common.{map, rules}
use Rattle.std.specs.String.{string_bytes}
use Rattle.vsm_explain.proofs.CommandLines.{read_as}
use Rattle.vsm_explain.proofs.options.read_words.Goals as goal

pub returns-in_err-command_line : goal.returns-in_err-command_line
returns-in_err-command_line c = search rules

pub returns : goal.returns
returns c =
    read_as _ (map string_bytes c.args.words.now) c.try_get_matches_from.result c.in_ok-command_line.ensures
    c.try_get_matches_from.ensures.matches c.try_get_matches_from.ensures.kinds
