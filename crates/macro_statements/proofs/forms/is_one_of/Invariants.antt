use Rattle.std.proofs.Common.{◌≡◌, map, drop}
use Rattle.std.specs.List.{list_any}
use Rattle.operand_texts.specs.Words.{is_word}
use Rattle.macro_statements.proofs.forms.is_one_of.Given as goal

abbrev pub invariant-loop-one : goal.invariant-loop-one
invariant-loop-one l =
    list_any (λ w. is_word l.word w) (map (λ w. w.now) (drop l.one-index l.words)) ≡ list_any (λ w. is_word l.word w) (map (λ w. w.now) l.words)
