-- A write through the map's loan at a place is the word of its row.
use Rattle.std.proofs.Common.{arith, sym}
use Rattle.indexmap.proofs.CallerLemmas.{index_map_len-with_value_at}
use Rattle.vsm_machine.proofs.Entries.{rows-written, word-read}
use Rattle.vsm_machine.proofs.names.NameTable.exchange.Goals as goal

pub returns-in-Some-clause-rows : goal.returns-in-Some-clause-rows
returns-in-Some-clause-rows c = rows-written c.args.self.now.table.entries c.args.place c.args.word

pub returns-in-Some-clause-len : goal.returns-in-Some-clause-len
returns-in-Some-clause-len c = index_map_len-with_value_at c.args.self.now.table c.args.place c.args.word

pub returns-in-Some-clause-old : goal.returns-in-Some-clause-old
returns-in-Some-clause-old c = word-read c.args.self.now.table.entries c.args.place _ (sym c.in-Some.ensures.value)

-- no row is added
pub invariant_of-self : goal.invariant_of-self
invariant_of-self c = record { within = omega (arith, c.args.self.now.within, index_map_len-with_value_at c.args.self.now.table c.args.place c.args.word) }

pub returns-in-Some-clause-fits : goal.returns-in-Some-clause-fits
returns-in-Some-clause-fits c = omega (arith, c.len-len.ensures.len, c.len-len.ensures.small, index_map_len-with_value_at c.args.self.now.table c.args.place c.args.word)
