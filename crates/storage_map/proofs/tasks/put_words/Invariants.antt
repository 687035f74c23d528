use Rattle.std.proofs.Common.{◌+◌}
use Rattle.storage_core.specs.Meaning.{state_of}
use Rattle.storage_map.specs.Lines.{register_words}
use Rattle.storage_map.proofs.Remaining.{Remains}
use Rattle.storage_map.proofs.tasks.put_words.Given as goal

abbrev pub invariant-loop-register : goal.invariant-loop-register
invariant-loop-register g l =
    Remains (g.W.Write.contents l.fn.writer) (g.W.Write.contents l.writer) l.fn.gathered l.gathered
    (register_words (state_of l.storage) l.fn.row.task l.fn.row.first (l.fn.row.first + 8)) (register_words (state_of l.storage) l.fn.row.task l.register (l.fn.row.first + 8))
