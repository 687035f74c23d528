use Rattle.std.proofs.Common.{◌≡◌, [], ◌++◌, ◌+◌, ◌∙◌, ap, append_assoc, length, take, get_or, subst, sym, arith}
use Rattle.std.proofs.lemmas.List.{append-nil, take_all}
use Rattle.explain_list.specs.Pages.{fault_at, marks_in, shown_of}
use Rattle.explain_list.specs.Rows.{marks_on}
use Rattle.explain_list.proofs.Marked.{marks_next, marks_none}
use Rattle.explain_check.specs.Findings.{found_to, if_on, left_to, unless_before}
use Rattle.explain_check.specs.Lines.{PutsChecks, manner_of}
use Rattle.explain_check.proofs.Said.{checks_each}
use Rattle.explain_check.proofs.SaidFound.{before_all, before_next, before_none, if_before}
use Rattle.explain_check.proofs.page_checks.put_checks.Goals as goal

pub loop-index-init : goal.loop-index-init
loop-index-init g c =
    let e = c.put_refusal_check.ensures in
    let manner = manner_of c.args.manner in
    let old = g.W.Write.contents c.args.writer.now in
    let new = g.W.Write.contents c.put_left_check.new.writer in
    let before = c.args.gathered.now in
    let after = c.put_left_check.new.gathered in
    let lefts = left_to c.args.answered.now in (
      omega arith,
      e.0,
      e.1,
      subst (λ fs. PutsChecks manner (marks_in [] c.args.page.now.fault) e.0 fs old new before after)
          (sym (append-nil lefts) ∙ ap (λ fs. lefts ++ fs) (sym (before_none c.found_place.result.line (found_to c.args.answered.now))))
          (subst (λ ms. PutsChecks manner ms e.0 lefts old new before after) (marks_none c.args.page.now.fault)
          (subst (λ rs. PutsChecks manner [] rs lefts old new before after) (append-nil e.0)
          (checks_each manner [] [] e.0 [] [] lefts _ _ _ _ _ _ e.2 c.put_left_check.ensures))),
    )

pub loop-index-preserved : goal.loop-index-preserved
loop-index-preserved g c =
    let its = c.args.page.now in
    let e = c.loop-index.invariant in
    let said = e.1 in
    let shown = c.lines-lines.result.now in
    let i = c.loop-index.index in
    let name = manner_of c.args.manner in
    let lefts = left_to c.args.answered.now in
    let old = g.W.Write.contents c.args.writer.now in
    let new = g.W.Write.contents c.put_line_checks.new.writer in
    let before = c.args.gathered.now in
    let after = c.put_line_checks.new.gathered in
    let place = c.found_place.result.line in
    let finds = found_to c.args.answered.now in
    let both = marks_in (take i shown) its.fault ++ marks_on (get_or shown i _) (fault_at its.fault i) in (
      omega (arith, c.loop-index-test.true),
      said,
      e.2,
      subst (λ fs. PutsChecks name (marks_in (take (i + 1) shown) its.fault) said fs old new before after)
          (append_assoc lefts (if_before place i finds) (if_on place i finds) ∙ ap (λ fs. lefts ++ fs) (before_next place i finds))
          (subst (λ ms. PutsChecks name ms said ((lefts ++ if_before place i finds) ++ if_on place i finds) old new before after) (marks_next shown _ i its.fault c.loop-index-test.true)
          (subst (λ rs. PutsChecks name both rs ((lefts ++ if_before place i finds) ++ if_on place i finds) old new before after) (append-nil said)
          (checks_each name (marks_in (take i shown) its.fault) (marks_on (get_or shown i _) (fault_at its.fault i)) said [] (lefts ++ if_before place i finds) (if_on place i finds) _ _ _ _ _ _ e.3 c.put_line_checks.ensures))),
    )

pub returns : goal.returns
returns g c =
    let e = c.loop-index.invariant in
    let its = c.args.page.now in
    let name = manner_of c.args.manner in
    let lefts = left_to c.args.answered.now in
    let said = e.1 in
    let shown = c.lines-lines.result.now in
    let i = c.loop-index.index in
    let n = length shown in
    let old = g.W.Write.contents c.args.writer.now in
    let new = g.W.Write.contents c.put_found_elsewhere.new.writer in
    let before = c.args.gathered.now in
    let after = c.put_found_elsewhere.new.gathered in
    let place = c.found_place.result.line in
    let finds = found_to c.args.answered.now in
    let same : i ≡ n = omega (arith, e.0, c.loop-index-test.false) in
    let first = marks_in (take i shown) its.fault in
    let both = (lefts ++ if_before place i finds) ++ unless_before place n finds in
    let all = checks_each name first [] said [] (lefts ++ if_before place i finds) (unless_before place n finds) _ _ _ _ _ _ e.3 c.put_found_elsewhere.ensures in (
      said,
      e.2,
      subst (λ fs. PutsChecks name (marks_in (shown_of its) its.fault) said fs old new before after)
          (append_assoc lefts (if_before place i finds) (unless_before place n finds)
          ∙ ap (λ fs. lefts ++ fs) (ap (λ k. if_before place k finds ++ unless_before place n finds) same ∙ before_all place n finds))
          (subst (λ rs. PutsChecks name (marks_in (shown_of its) its.fault) rs both old new before after) (append-nil said)
          (subst (λ ms. PutsChecks name ms (said ++ []) both old new before after)
          (append-nil first ∙ ap (λ ls. marks_in ls its.fault) (take_all i shown c.loop-index-test.false ∙ c.lines-lines.ensures)) all)),
    )
