use Rattle.std.proofs.Common.{ℕ, List, flat_map, refl, sym, ap, ◌∙◌, subst}
use Rattle.std.specs.Fmt.{decimal}
use Rattle.storage_core.specs.Meaning.{state_of}
use Rattle.storage_core.specs.Walks.{sharers_left}
use Rattle.vsm_model.specs.Map.{sharers}
use Rattle.explain_report.specs.Texts.{tasks_text}
use Rattle.text_output.specs.Writing.{Puts}
use Rattle.storage_map.specs.Lines.{sharer_text}
use Rattle.explain_report.proofs.Remaining.{remains_all, remains_less, all_put, shorter}
use Rattle.explain_report.proofs.Remaining.{sharers_begin}
use Rattle.explain_report.proofs.tables.put_tasks.Goals as goal

pub returns-in_default : goal.returns-in_default
returns-in_default g c =
    let s = c.args.storage.now in
    let front = c.first_sharer_place-front in
    let none = sharers_begin c.subpools_are_shown.ensures.sharers s front.result c.args.subpool (front.ensures s c.args.subpool) ∙ c.in_default.ensures.none in
    subst (λ (tasks : List ℕ). Puts (g.W.Write.contents c.args.writer.now) (g.W.Write.contents c.put.new.writer) c.args.gathered.now c.put.new.self (tasks_text c.args.none.now tasks))
    (sym none) c.put.ensures.puts

pub loop-task-init : goal.loop-task-init
loop-task-init g c =
    let s = c.args.storage.now in
    let p = c.args.subpool in
    let front = c.first_sharer_place-front in
    let now = g.W.Write.contents c.args.writer.now in
    let new = g.W.Write.contents c.put_decimal.new.writer in
    let all = tasks_text c.args.none.now (sharers (state_of s) p.number p.owner) in
    let shown = sharers_begin c.subpools_are_shown.ensures.sharers s front.result p (front.ensures s p) ∙ c.in-Some.ensures.next in
    record {
      text = remains_less now now new c.args.gathered.now c.args.gathered.now c.put_decimal.new.gathered all all (decimal c.in-Some.first)
          (flat_map sharer_text (sharers_left s c.in-Some.second p))
          (remains_all now c.args.gathered.now all all refl) (ap (tasks_text c.args.none.now) shown)
          (subst (λ (n : ℕ). Puts now new c.args.gathered.now c.put_decimal.new.gathered (decimal n)) c.from.ensures c.put_decimal.ensures);
    }

pub loop-task-smaller : goal.loop-task-smaller
loop-task-smaller g c =
    let s = c.args.storage.now in
    let p = c.args.subpool in
    shorter (sharers_left s c.loop-task.place p) (sharers_left s c.in-Some-next_sharer.behind p) c.in-Some-next_sharer.task c.in-Some-next_sharer.ensures.next

pub loop-task-preserved : goal.loop-task-preserved
loop-task-preserved g c =
    let s = c.args.storage.now in
    let p = c.args.subpool in
    record {
      text = remains_less (g.W.Write.contents c.args.writer.now) (g.W.Write.contents c.loop-task.writer) (g.W.Write.contents c.put_sharer.new.writer)
          c.args.gathered.now c.loop-task.gathered c.put_sharer.new.gathered
          (tasks_text c.args.none.now (sharers (state_of s) p.number p.owner)) (flat_map sharer_text (sharers_left s c.loop-task.place p))
          (sharer_text c.in-Some-next_sharer.task) (flat_map sharer_text (sharers_left s c.in-Some-next_sharer.behind p))
          c.loop-task.invariant.text (ap (flat_map sharer_text) c.in-Some-next_sharer.ensures.next) c.put_sharer.ensures;
    }

pub returns : goal.returns
returns g c =
    let s = c.args.storage.now in
    let p = c.args.subpool in
    all_put (g.W.Write.contents c.args.writer.now) (g.W.Write.contents c.loop-task.writer) c.args.gathered.now c.loop-task.gathered
    (tasks_text c.args.none.now (sharers (state_of s) p.number p.owner)) (flat_map sharer_text (sharers_left s c.loop-task.place p))
    c.loop-task.invariant.text (ap (flat_map sharer_text) c.in_default-next_sharer.ensures.none)
