use Rattle.storage_changes.proofs.record.subpool_of.Goals as goal

pub returns : goal.returns
returns c = λ i. record { number = c.low_byte.ensures i; owner = c.low_byte-2.ensures i }
