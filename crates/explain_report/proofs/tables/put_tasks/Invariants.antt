use Rattle.std.proofs.Common.{flat_map, length}
use Rattle.storage_core.specs.Meaning.{state_of}
use Rattle.storage_core.specs.Walks.{sharers_left}
use Rattle.vsm_model.specs.Map.{sharers}
use Rattle.explain_report.specs.Texts.{tasks_text}
use Rattle.storage_map.specs.Lines.{sharer_text}
use Rattle.explain_report.proofs.Remaining.{Remains}
use Rattle.explain_report.proofs.tables.put_tasks.Given as goal

abbrev pub invariant-loop-task : goal.invariant-loop-task
invariant-loop-task g l =
    let p = l.subpool in
    record {
      text : Remains (g.W.Write.contents l.fn.writer) (g.W.Write.contents l.writer) l.fn.gathered l.gathered
          (tasks_text l.none (sharers (state_of l.storage) p.number p.owner)) (flat_map sharer_text (sharers_left l.storage l.place p));
    }

abbrev pub decreases-loop-task : goal.decreases-loop-task
decreases-loop-task g l = length (sharers_left l.storage l.place l.subpool)
