use Rattle.std.proofs.Common.{◌==◌, refl}
use Rattle.storage_changes.specs.Records.{record_of, word}
use Rattle.storage_changes.specs.declared.record.Record.TheVariants.{Pages, Own}
use Rattle.storage_changes.proofs.record.Record.from_words.Goals as goal

pub returns-in-2 : goal.returns-in-2
unfolding record_of
returns-in-2 c =
    rw c.in-2.is (λ i. Pages (record { run = c.run_of.ensures i; assigned = word c.args.words 5 == 1 }))

pub returns-in-3 : goal.returns-in-3
unfolding record_of
returns-in-3 c =
    rw c.in-3.is (λ i. Own (record { subpool = c.subpool_of-subpool.ensures i; present = word c.args.words 5 == 1 }))

pub returns-in-10 : goal.returns-in-10
unfolding record_of
returns-in-10 c = rw c.in-10.is refl
