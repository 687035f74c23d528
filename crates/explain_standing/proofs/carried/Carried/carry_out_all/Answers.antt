use Rattle.std.proofs.Common.{map, reverse, take, sym, ap, subst, ◌∙◌, ◌∷◌, arith}
use Rattle.std.proofs.lemmas.List.{take_all}
use Rattle.explain_standing.specs.Carried.{IsCarried, line_act}
use Rattle.explain_standing.proofs.Firsts.{firsts_more}
use Rattle.explain_standing.proofs.carried.Carried.carry_out_all.Goals as goal

pub loop-entry-preserved : goal.loop-entry-preserved
loop-entry-preserved c = λ settings new.
    let entries = c.args.entries.now in
    let i = c.loop-entry.entry-index in
    let older = reverse (map line_act (take i entries)) in
    let more = c.in_ok-carry_out.ensures settings older (c.loop-entry.invariant settings new) in
    subst (λ xs. IsCarried settings xs c.carry_out.new.self)
    (ap (λ e. line_act e ∷ older) c.entry-item.is ∙ sym (firsts_more line_act entries i c.entry-item.result (omega (arith, c.loop-entry-test.true)))) more.0

pub returns : goal.returns
returns c = λ settings new.
    subst (λ es. IsCarried settings (reverse (map line_act es)) c.loop-entry.self) (take_all c.loop-entry.entry-index c.args.entries.now (omega (arith, c.loop-entry-test.false)))
    (c.loop-entry.invariant settings new)
