use Rattle.storage_changes.proofs.WordLemmas.{register_with_word}
use Rattle.storage_changes.proofs.record.RegisterRecord.register_word.Goals as goal

pub returns-clause-record_is : goal.returns-clause-record_is
returns-clause-record_is c words seven register = register_with_word words c.args.word seven register
