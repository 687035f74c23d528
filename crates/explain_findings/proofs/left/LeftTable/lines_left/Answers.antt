use Rattle.std.proofs.Common.{ℕ, Global, Vec, true, false, [], ◌∷◌, ◌++◌, map, sym, take, ap, ◌∙◌, arith}
use Rattle.std.specs.Prelude.{filter}
use Rattle.std.proofs.lemmas.List.{append-nil}
use Rattle.macro_operands.specs.declared.requests.Statement.{Statement}
use Rattle.explain_standing.specs.declared.trail.TrailEntry.{TrailEntry}
use Rattle.explain_findings.proofs.LeftLists.{lines_more}
use Rattle.explain_findings.proofs.left.LeftTable.lines_left.Goals as goal
use Rattle.explain_findings.proofs.left.LeftTable.lines_left.Goals.{then-is_left+in_ok-push, else-is_left}

abbrev line_of : TrailEntry Statement → ℕ
line_of e = e.line

pub loop-entry-preserved : goal.loop-entry-preserved
loop-entry-preserved c = λ test agree.
    let all = c.args.entries.now in
    let i = c.loop-entry.entry-index in
    let its = c.entry-item.result in
    let below = c.loop-entry-test.true in
    let before = c.loop-entry.invariant test agree in
    let tested = c.is_left.ensures ∙ agree its.line (omega arith) in
    elim c.if-is_left.branch [
      | then-is_left+in_ok-push w ↦
          ap (λ (v : Vec ℕ Global). v.items) w.lines-is ∙ w.in_ok-push.ensures.items ∙ ap (λ xs. xs ++ its.line ∷ []) before
          ∙ lines_more line_of test all i its true below c.entry-item.is (sym tested ∙ w.if-is_left.true)
      | else-is_left w ↦
          ap (λ (v : Vec ℕ Global). v.items) w.lines-is ∙ before ∙ sym (append-nil (filter test (map line_of (take i all))))
          ∙ lines_more line_of test all i its false below c.entry-item.is (sym tested ∙ w.if-is_left.false)
    ]
