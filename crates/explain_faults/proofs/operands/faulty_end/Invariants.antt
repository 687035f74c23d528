use Rattle.std.proofs.Common.{◌≡◌, ◌≢◌, ◌≤◌, ◌<◌, ℕ, true, Err, take}
use Rattle.macro_statements.specs.Statements.{statement_with}
use Rattle.operand_texts.specs.Field.{outside}
use Rattle.explain_faults.specs.Operands.{front, is_counted, is_end, nesting_behind}
use Rattle.explain_faults.proofs.operands.faulty_end.Given as goal

abbrev pub invariant-loop-i : goal.invariant-loop-i
invariant-loop-i l = record {
  at : l.at ≡ nesting_behind outside (take l.i l.text);
  deep : l.at.depth ≤ l.i;
  first : (j : ℕ) → j < l.i → is_end l.text j ≡ true → is_counted l.text j ≡ true → statement_with l.card (front l.text j) ≢ Err l.kind;
}
