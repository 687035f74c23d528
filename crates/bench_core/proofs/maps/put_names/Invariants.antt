use Rattle.std.proofs.Common.{◌-◌, length, take}
use Rattle.vsm_machine.specs.NameTable.{rows_of}
use Rattle.vsm_model.specs.Map.{name_lines}
use Rattle.text_output.specs.Writing.{Puts}
use Rattle.bench_core.proofs.maps.put_names.Given as goal

abbrev pub invariant-loop-row : goal.invariant-loop-row
invariant-loop-row g l =
    Puts (g.W.Write.contents l.fn.writer) (g.W.Write.contents l.writer) l.fn.gathered l.gathered
    (name_lines (take l.index (rows_of l.names)))

abbrev pub decreases-loop-row : goal.decreases-loop-row
decreases-loop-row g l = length (rows_of l.names) - l.index
