use Rattle.std.proofs.Common.{◌≡◌, ◌≤◌, drop}
use Rattle.operand_texts.specs.Field.{outside, is_balanced}
use Rattle.operand_texts.proofs.nesting.is_balanced.Given as goal

abbrev pub invariant-loop-byte : goal.invariant-loop-byte
invariant-loop-byte l = record {
  rest : is_balanced l.at (drop l.byte-index l.text) ≡ is_balanced outside l.text;
  depth : l.at.depth ≤ l.byte-index;
}
