use Rattle.std.proofs.Common.{◌≡◌, ◌∙◌, ◌||◌, ◌==◌, ◌++◌, ap, sym, refl, length, take, arith}
use Rattle.std.proofs.lemmas.Grind.{common_steps}
use Rattle.operand_texts.specs.Field.{outside, field_len, nesting_after}
use Rattle.macro_reader.specs.Continuation.{ends_with_comma}
use Rattle.macro_reader.proofs.Above.{after_both}
use Rattle.macro_reader.proofs.modes.OpenField.take_part.Goals as goal

pub returns-clause-joined : goal.returns-clause-joined
returns-clause-joined c =
    let start = c.args.self.now.at in
    let text = c.args.self.now.text.items in
    let part = c.args.part.now in
    let n = field_len start part in
    let found = c.field_part-n.ensures in
    let goes_on : c.if-n-part.self ≡ ((n == length part) || ends_with_comma (text ++ take n part)) = grind (arith, common_steps) in
    rw (c.append.ensures ∙ ap (λ k. text ++ take k part) found.len, found.at ∙ ap (λ k. nesting_after start (take k part)) found.len, goes_on) refl

pub invariant_of-self-clause-nested : goal.invariant_of-self-clause-nested
invariant_of-self-clause-nested c =
    let field = c.args.self.now in
    let found = c.field_part-n.ensures in
    let part = take c.field_part-n.result.0 c.args.part.now in
    found.at ∙ ap (λ n. nesting_after n part) field.nested ∙ sym (ap (nesting_after outside) c.append.ensures ∙ after_both outside field.text.items part)
