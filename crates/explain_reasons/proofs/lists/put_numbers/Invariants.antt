use Rattle.std.proofs.Common.{take}
use Rattle.storage_core.specs.Meaning.{state_of}
use Rattle.text_output.specs.Writing.{Puts}
use Rattle.explain_reasons.specs.Tasks.{numbers_text}
use Rattle.explain_reasons.proofs.lists.put_numbers.Given as goal

abbrev pub invariant-loop-k : goal.invariant-loop-k
invariant-loop-k g l =
    Puts (g.W.Write.contents l.fn.writer) (g.W.Write.contents l.writer) l.fn.gathered l.gathered
    (numbers_text (state_of l.storage) l.list.word.now l.list.by_owner l.first l.list.before.now
    (take l.k l.list.numbers.now))
