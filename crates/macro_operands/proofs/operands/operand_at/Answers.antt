use Rattle.std.proofs.Common.{◌≡◌, Some, sym, rules}
use Rattle.macro_operands.specs.Rows.{position}
use Rattle.macro_operands.specs.Keywords.{operand_at}
use Rattle.macro_operands.proofs.operands.operand_at.Goals as goal

pub returns : goal.returns
returns c =
    let by_place : operand_at c.args.place c.args.text.now ≡ Some (record { key = position c.args.place; text = c.args.text.now }) = search rules in
    sym by_place
