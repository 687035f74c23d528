use Rattle.std.proofs.Common.{◌++◌, codes, sym, subst}
use Rattle.storage_core.specs.Meaning.{state_of}
use Rattle.text_output.specs.Writing.{Puts}
use Rattle.text_output.proofs.Gathering.{puts_both, puts_none}
use Rattle.vsm_model.specs.Map.{register_line}
use Rattle.storage_map.specs.Lines.{task_line}
use Rattle.storage_map.proofs.Shown.{task_there, task_absent}
use Rattle.storage_map.proofs.tasks.put_task.Goals as goal

pub returns-in_default : goal.returns-in_default
returns-in_default g c =
    let w = g.W.Write.contents c.args.writer.now in
    subst (Puts w w c.args.gathered.now c.args.gathered.now) (sym (task_absent (state_of c.args.storage.now) c.args.task (sym c.in_default.ensures)))
    (puts_none w c.args.gathered.now)

pub returns : goal.returns
returns g c =
    let s = state_of c.args.storage.now in
    let task = c.args.task in
    let w0 = g.W.Write.contents c.args.writer.now in
    let w1 = g.W.Write.contents c.put_task_line.new.writer in
    let w2 = g.W.Write.contents c.put_registers.new.writer in
    let w3 = g.W.Write.contents c.put_registers-2.new.writer in
    let g0 = c.args.gathered.now in
    let g1 = c.put_task_line.new.gathered in
    let g2 = c.put_registers.new.gathered in
    let g3 = c.put_registers-2.new.gathered in
    let low = register_line s task (codes "  R0") 0 in
    let high = register_line s task (codes "  R8") 8 in
    subst (Puts w0 w3 g0 g3) (sym (task_there s task c.in-Some.parent (sym c.in-Some.ensures)))
    (puts_both w0 w2 w3 g0 g2 g3 (task_line s task c.in-Some.parent ++ low) high
    (puts_both w0 w1 w2 g0 g1 g2 (task_line s task c.in-Some.parent) low c.put_task_line.ensures c.put_registers.ensures) c.put_registers-2.ensures)
