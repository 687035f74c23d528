use Rattle.std.proofs.Common.{rules, map}
use Rattle.std.specs.String.{string_bytes}
use Rattle.vsm_bench.proofs.Asked.{reads_as}
use Rattle.vsm_bench.proofs.options.read_words.Goals as goal

pub returns-in_err-command_line : goal.returns-in_err-command_line
returns-in_err-command_line c = search rules

pub returns : goal.returns
returns c =
    let line = c.in_ok-command_line.ensures in
    reads_as line.0 line.1 _ line.2 (map string_bytes c.args.words.now) c.try_get_matches_from.result
    c.try_get_matches_from.ensures.matches c.try_get_matches_from.ensures.kinds
