use Rattle.std.proofs.Common.{refl, ap, subst, ◌∙◌}
use Rattle.text_output.proofs.Known.{appends_nothing}
use Rattle.vsm_model.specs.Names.{NamedState}
use Rattle.explain_areas.specs.RowTexts.{listed_text}
use Rattle.explain_areas.specs.Told.{HasTask, LacksTask, WritesText}
use Rattle.explain_areas.proofs.Told.{after_told}
use Rattle.explain_areas.proofs.output.write_after.Goals as goal

pub returns-in-Some : goal.returns-in-Some
returns-in-Some g c = λ settings xs carried. (c.in-Some.ensures.lacks, appends_nothing (g.W.Write.contents c.args.out.now))

pub returns-in-Some-lacks_task : goal.returns-in-Some-lacks_task
returns-in-Some-lacks_task g c = λ settings xs carried. (
  subst (λ s. LacksTask s c.args.asked.now.listed c.in-Some-lacks_task.task) (c.storage.ensures.state ∙ ap (λ (k : NamedState). k.storage) carried.present)
      c.in-Some-lacks_task.ensures.lacks,
  appends_nothing (g.W.Write.contents c.args.out.now),
)

pub returns-in-Ok : goal.returns-in-Ok
returns-in-Ok g c = λ settings xs carried.
    let asked = c.args.asked.now in
    let script = c.args.script.now in
    let old = g.W.Write.contents c.args.out.now in
    let new = g.W.Write.contents c.write_found-outcome.new.out in
    let r = c.write_found-outcome.result in
    let state = c.storage.ensures.state ∙ ap (λ (k : NamedState). k.storage) carried.present in
    let is = c.in-Ok.ensures settings xs carried in
    after_told settings script asked old new xs r
    (c.in_default.ensures.has, subst (λ s. HasTask s asked.listed) state c.in_default-lacks_task.ensures.has)
    (subst (λ text. WritesText text old new r) (λ i. listed_text asked.form asked.listed script (is.0 i) (is.1 i)) c.write_found-outcome.ensures)

pub returns-in-Err : goal.returns-in-Err
returns-in-Err g c = λ settings xs carried.
    let state = c.storage.ensures.state ∙ ap (λ (k : NamedState). k.storage) carried.present in (
      (c.in_default.ensures.has, subst (λ s. HasTask s c.args.asked.now.listed) state c.in_default-lacks_task.ensures.has),
      (refl, appends_nothing (g.W.Write.contents c.args.out.now)),
    )
