use Rattle.std.proofs.Common.{◌+◌, ◌≢◌, [], IfNone, IfSome, arith, inl, refl, subst, sym}
use Rattle.std.proofs.lemmas.Result.{err_from_is_err_and}
use Rattle.explain_why.specs.Explained.{IsPlaceOf}
use Rattle.explain_why.specs.Faults.{HasLineCount, IsBeyond}
use Rattle.explain_why.proofs.Counts.{count_at_end, line_more, none_yet}
use Rattle.explain_why.proofs.Faulted.{beyond_next, beyond_none, fault_of_last, fault_of_place}
use Rattle.explain_why.proofs.Found.{found_at}
use Rattle.explain_why.proofs.lines.seek.Goals as goal

pub loop-init : goal.loop-init
loop-init g c = (omega arith, inl refl, λ settings took. ([], took, beyond_none c.args.line c.args.session.now.lines (none_yet settings [] c.args.session.now took)))

pub loop-preserved : goal.loop-preserved
loop-preserved g c =
    let taken = c.in_ok-at.ensures.taken in
    let other = subst (λ o. IfNone o (c.args.line ≢ c.loop.session.lines + 1)) c.in_default.is c.in_ok-place.ensures.none in (
      taken.within,
      taken.starts,
      λ settings took.
          let before = c.loop.invariant.2 settings took in
          let after = taken.took settings before.0 before.1 in (
            after.0,
            after.1,
            beyond_next c.args.line c.loop.session.lines c.take_next.new.session.lines before.2 other
                (line_more settings c.args.script.now c.loop.at c.in_ok-at.at before.0 after.0 c.loop.session c.take_next.new.session taken.line before.1 after.1),
          ),
    )

pub returns-in-Some-clause-found : goal.returns-in-Some-clause-found
returns-in-Some-clause-found g c = λ settings took.
    let before = c.loop.invariant.2 settings took in
    found_at settings c.args.script.now c.loop.at c.args.line c.loop.session c.in-Some.place
    (subst (λ o. IfSome o (IsPlaceOf c.loop.session c.args.script.now c.loop.at c.args.line)) c.in-Some.is c.in_ok-place.ensures.found)
    c.loop.invariant.1 (before.0, before.1)

pub returns-then-at-script-clause-fault : goal.returns-then-at-script-clause-fault
returns-then-at-script-clause-fault g c = λ settings took.
    let before = c.loop.invariant.2 settings took in
    subst (λ n. HasLineCount c.args.script.now n × IsBeyond c.args.line n) (sym c.lines.ensures)
    (count_at_end settings c.args.script.now c.loop.at before.0 c.loop.session c.loop.invariant.0 c.loop.invariant.1 before.1 (omega arith), before.2)

pub returns-in_err-place-clause-fault : goal.returns-in_err-place-clause-fault
returns-in_err-place-clause-fault g c = λ settings took.
    let before = c.loop.invariant.2 settings took in
    let says = fault_of_place settings c.args.script.now c.loop.at c.args.line before.0 c.loop.session c.loop.invariant.0 c.loop.invariant.1 (omega arith) before.1
    c.in_err-place.field-0.0 c.in_err-place.ensures.fault in
    let p = err_from_is_err_and c.from_residual.result c.from_residual.ensures.1 in rw (p.1, p.2) says

pub returns-in_err-at-clause-fault : goal.returns-in_err-at-clause-fault
returns-in_err-at-clause-fault g c = λ settings took.
    let before = c.loop.invariant.2 settings took in
    let other = subst (λ o. IfNone o (c.args.line ≢ c.loop.session.lines + 1)) c.in_default.is c.in_ok-place.ensures.none in
    let says = fault_of_last settings c.args.script.now c.loop.at c.args.line before.0 c.loop.session c.loop.invariant.0 c.loop.invariant.1 (omega arith) before.1
    c.in_err-at.field-0.0 (beyond_next c.args.line c.loop.session.lines (c.loop.session.lines + 1) before.2 other refl) c.in_err-at.ensures.fault in
    let p = err_from_is_err_and c.from_residual-in_err-at.result c.from_residual-in_err-at.ensures.1 in rw (p.1, p.2) says
