use Rattle.std.proofs.Common.{◌≡◌, [], ◌∷◌, ◌+◌, ◌++◌, map, take, get_or, sym, ap, subst, ◌∙◌, arith}
use Rattle.std.proofs.lemmas.List.{map-append, take_all, take_more}
use Rattle.explain_standing.specs.Carried.{line_act}
use Rattle.explain_standing.specs.Trails.{seen_along}
use Rattle.explain_who.specs.Traced.{reading_alone}
use Rattle.explain_who.proofs.Traced.{IsReadTo, read_more}
use Rattle.explain_who.proofs.tracing.read_along.Goals as goal

pub loop-entry-preserved : goal.loop-entry-preserved
loop-entry-preserved c = λ settings new.
    let asked = c.args.asked.now in
    let entries = c.args.entries.now in
    let i = c.loop-entry.entry-index in
    let e = c.entry-item.result in
    let xs = map line_act (take i entries) in
    let bench = c.apply.new.bench in
    let more = read_more settings asked xs (line_act e) c.loop-entry.bench bench c.loop-entry.seen.items c.read.result c.in_ok-apply.field-0 (c.loop-entry.invariant settings new)
    c.in_ok-apply.ensures.accepted c.in_ok-apply.ensures.settings c.read.ensures in
    let grown : map line_act (take (i + 1) entries) ≡ xs ++ line_act e ∷ [] =
    ap (map line_act) (take_more entries i e (omega (arith, c.loop-entry-test.true))) ∙ map-append line_act (take i entries) (get_or entries i e ∷ [])
    ∙ ap (λ y. xs ++ line_act y ∷ []) (sym c.entry-item.is) in
    subst (λ seen. IsReadTo settings asked (map line_act (take (i + 1) entries)) bench seen) (sym c.in_ok-push.ensures.items)
    (subst (λ ys. IsReadTo settings asked ys bench (c.loop-entry.seen.items ++ record { line = e.line; seen = c.read.result } ∷ [])) (sym grown) more)

pub returns : goal.returns
returns c = λ settings new.
    let its = c.loop-entry.invariant settings new in
    its.along
    ∙ ap (λ es. seen_along (reading_alone settings c.args.asked.now) [] (map line_act es)) (take_all c.loop-entry.entry-index c.args.entries.now (omega (arith, c.loop-entry-test.false)))
