use Rattle.std.proofs.Common.{◌∙◌, Some, Ok, ap}
use Rattle.std.proofs.lemmas.List.{map-set}
use Rattle.std.specs.Option.{option_map}
use Rattle.macro_operands.specs.Said.{unsaid_fault}
use Rattle.macro_operands.specs.Slots.{said_in, slots_in, filled}
use Rattle.macro_operands.proofs.operands.fill.Goals as goal

pub returns-in-Some : goal.returns-in-Some
returns-in-Some c =
    ap Ok (map-set (option_map said_in) c.args.said.now c.args.i (Some c.in-Some.value))
    ∙ ap (λ x. filled (slots_in c.args.said.now) c.args.i (unsaid_fault c.args.kind c.args.text.now) x) c.in-Some.ensures
