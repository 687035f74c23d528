use Rattle.std.proofs.Common.{rules, ◌≡◌, ◌==◌}
use Rattle.storage_changes.proofs.WordLemmas.{area_with_free}
use Rattle.storage_changes.proofs.record.AreaRecord.free_word.Goals as goal

pub returns-clause-record_is : goal.returns-clause-record_is
returns-clause-record_is c words seven area =
    let free : (c.from.result == 1) ≡ c.args.free = search rules in
    area_with_free words c.from.result c.args.free free seven area
