use Rattle.std.proofs.Common.{◌≡◌, ap, ◌∙◌}
use Rattle.vsm_model.specs.State.{State}
use Rattle.explain_standing.specs.Carried.{is_get, line_act, taken_when}
use Rattle.explain_standing.specs.Newly.{taken_by}
use Rattle.explain_standing.specs.NumberMaps.{number_in}
use Rattle.explain_standing.specs.declared.carried.Carried.{Carried}
use Rattle.explain_standing.proofs.Kept.{carries_more, reply_is}
use Rattle.explain_standing.proofs.NumberMaps.{put_at}
use Rattle.explain_standing.proofs.carried.Carried.carry_out.Goals as goal

pub returns : goal.returns
returns c = λ settings older known.
    let x = line_act c.args.entry.now in
    let old = c.args.self.now in
    let reply = c.in_ok-reply.reply in
    let after : Carried = record {
      bench = c.apply.new.bench;
      lines = c.take_runs.new.lines;
      cells = c.take_cell.new.cells;
      askers = c.take.new.self;
      births = c.begin_task.new.births;
    } in
    let runs_taken : c.as_slice.result.now ≡ taken_by reply (taken_when c.is_get-gets.result old.bench) (taken_when c.is_get-gets.result after.bench) =
    c.as_slice.ensures.value ∙ c.taken_by-runs.ensures ∙ (λ i. taken_by reply (c.taken_when-before.ensures i) (c.taken_when-after.ensures i)) in
    let told : c.as_slice.result.now ≡ taken_by reply (taken_when (is_get x.1) old.bench) (taken_when (is_get x.1) after.bench) =
    runs_taken ∙ (λ i. taken_by reply (taken_when (c.is_get-gets.ensures i) old.bench) (taken_when (c.is_get-gets.ensures i) after.bench)) in (
      carries_more settings older x old after reply known c.in_ok-reply.ensures.settings c.in_ok-reply.ensures.accepted
          c.taken_by_the_reply.ensures c.cell_is_in_the_reply.ensures c.task_is_in_the_reply.ensures c.as_slice.result.now c.from.result
          told c.in_ok-take_runs.ensures c.in_ok-take_cell.ensures c.in_ok-begin_task.ensures (c.from.ensures ∙ c.current-task.ensures ∙ ap (λ (s : State). s.current) c.storage.ensures.state)
          (put_at x.0 c.from.result (number_in old.askers) (number_in after.askers) c.in_ok-take.ensures),
      reply_is settings older x old after reply known c.in_ok-reply.ensures.settings c.in_ok-reply.ensures.accepted,
    )
