use Rattle.std.proofs.Common.{rules, ◌≡◌, ◌==◌}
use Rattle.storage_changes.proofs.WordLemmas.{obtain_with_both}
use Rattle.storage_changes.proofs.record.ObtainRecord.turned_words.Goals as goal

pub returns-clause-record_is : goal.returns-clause-record_is
returns-clause-record_is c words seven obtain =
    let free : (c.from-value.result == 1) ≡ c.args.free = search rules in
    obtain_with_both words c.from-value.result c.args.word c.args.free free seven obtain
