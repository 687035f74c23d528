use Rattle.std.proofs.Common.{drop, sym, refl, subst, arith}
use Rattle.std.proofs.lemmas.List.{drop_all}
use Rattle.explain_who.specs.ScriptLines.{LinesBegin, after_feed}
use Rattle.explain_who.proofs.Places.{line_begins}
use Rattle.explain_who.proofs.starts.line_starts.Goals as goal

pub loop-at-init : goal.loop-at-init
loop-at-init c =
    let script = c.args.script.now in
    (omega arith, subst (λ places. LinesBegin script script places script) (sym c.new-starts.ensures.items) refl)

pub loop-at-preserved : goal.loop-at-preserved
loop-at-preserved c =
    let script = c.args.script.now in
    let l = c.loop-at in (
      c.next_start-at.ensures.within,
      subst (LinesBegin script script c.push.new.self.items) (sym c.next_start-at.ensures.next)
          (subst (λ ps. LinesBegin script script ps (after_feed (drop l.at script))) (sym c.in_ok-push.ensures.items)
          (line_begins script script l.starts.items (drop l.at script) l.at l.invariant.1 refl)),
    )

pub returns : goal.returns
returns c =
    let script = c.args.script.now in
    let l = c.loop-at in
    subst (LinesBegin script script l.starts.items) (drop_all l.at script (omega (arith, c.loop-at-test.false))) l.invariant.1
