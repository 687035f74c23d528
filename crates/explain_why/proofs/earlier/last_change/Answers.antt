use Rattle.std.proofs.Common.{◌≡◌, map, reverse, take, sym, ap, subst, ◌∙◌, ◌∷◌, arith}
use Rattle.std.proofs.lemmas.List.{take_all}
use Rattle.explain_standing.specs.Carried.{line_act}
use Rattle.explain_standing.proofs.Firsts.{firsts_more}
use Rattle.explain_why.specs.Obstacles.{is_there, last_change}
use Rattle.explain_why.proofs.Bringers.{IsKnown, more_known, none_known}
use Rattle.explain_why.proofs.earlier.last_change.Goals as goal

pub loop-entry-init : goal.loop-entry-init
loop-entry-init c = λ settings new.
    none_known settings c.args.obstacle.now c.new-carried.result c.storage.result.now c.is_there-was_there.result (c.new-carried.ensures.carried settings new)
    c.storage.ensures.state c.storage.ensures.settings c.is_there-was_there.ensures

pub loop-entry-preserved : goal.loop-entry-preserved
loop-entry-preserved c = λ settings new.
    let entries = c.args.entries.now in
    let i = c.loop-entry.entry-index in
    let older = reverse (map line_act (take i entries)) in
    let known = c.loop-entry.invariant settings new in
    let more = c.in_ok-carry_out.ensures settings older known.carried in
    subst (λ xs. IsKnown settings c.args.obstacle.now xs c.carry_out.new.self c.is_there-is_there.result c.since-line.result)
    (ap (λ e. line_act e ∷ older) c.entry-item.is ∙ sym (firsts_more line_act entries i c.entry-item.result (omega (arith, c.loop-entry-test.true))))
    (more_known settings c.args.obstacle.now older _ c.loop-entry.carried c.carry_out.new.self c.storage-in-loop-entry.result.now
    c.loop-entry.was_there c.is_there-is_there.result c.loop-entry.line c.since-line.result known more.0 c.storage-in-loop-entry.ensures.state c.storage-in-loop-entry.ensures.settings
    c.is_there-is_there.ensures c.since-line.ensures)

pub returns : goal.returns
returns c = λ settings new.
    subst (λ xs. c.loop-entry.line ≡ last_change settings (is_there settings c.args.obstacle.now) (reverse (map line_act xs)))
    (take_all c.loop-entry.entry-index c.args.entries.now c.loop-entry-test.false) (c.loop-entry.invariant settings new).line_is
