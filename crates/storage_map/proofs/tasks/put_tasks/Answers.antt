use Rattle.std.proofs.Common.{◌+◌, flat_map, refl, ap}
use Rattle.storage_core.specs.Meaning.{state_of}
use Rattle.vsm_model.specs.Map.{numbers, task_lines}
use Rattle.storage_map.proofs.Remaining.{remains_all, remains_less, all_put}
use Rattle.storage_map.proofs.Shown.{numbers_next, numbers_end}
use Rattle.storage_map.proofs.tasks.put_tasks.Goals as goal

pub loop-task-init : goal.loop-task-init
loop-task-init g c =
    let lines = task_lines (state_of c.args.storage.now) in
    remains_all (g.W.Write.contents c.args.writer.now) c.args.gathered.now (flat_map lines (numbers 1 65)) (flat_map lines (numbers 1 65)) refl

pub loop-task-preserved : goal.loop-task-preserved
loop-task-preserved g c =
    let lines = task_lines (state_of c.args.storage.now) in
    let k = c.loop-task.task in
    remains_less (g.W.Write.contents c.args.writer.now) (g.W.Write.contents c.loop-task.writer) (g.W.Write.contents c.put_task.new.writer)
    c.args.gathered.now c.loop-task.gathered c.put_task.new.gathered
    (flat_map lines (numbers 1 65)) (flat_map lines (numbers k 65)) (lines k) (flat_map lines (numbers (k + 1) 65))
    c.loop-task.invariant (ap (flat_map lines) (numbers_next k 65 c.loop-task-test.true)) c.put_task.ensures

pub returns : goal.returns
returns g c =
    let lines = task_lines (state_of c.args.storage.now) in
    let k = c.loop-task.task in
    all_put (g.W.Write.contents c.args.writer.now) (g.W.Write.contents c.loop-task.writer) c.args.gathered.now c.loop-task.gathered
    (flat_map lines (numbers 1 65)) (flat_map lines (numbers k 65)) c.loop-task.invariant (ap (flat_map lines) (numbers_end k 65 c.loop-task-test.false))
