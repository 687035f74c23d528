use Rattle.std.proofs.Common.{◌∙◌, ◌++◌, List, ℕ, ap, sym, arith, subst, length}
use Rattle.std.specs.Prelude.{IsUtf8}
use Rattle.cell_pool.proofs.TextLemmas.{first_bytes, second_bytes, third_bytes, three_runs}
use Rattle.cell_pool.proofs.texts.name_of.Goals as goal

pub push_words-requires : goal.push_words-requires
push_words-requires c = (omega arith, (first_bytes c.args.label c.requires.bytes, omega (arith, ap length c.new-bytes.ensures)))

pub push_words-requires-2 : goal.push_words-requires-2
push_words-requires-2 c = (omega arith, (second_bytes c.args.label c.requires.bytes, omega (arith, ap length c.new-bytes.ensures, c.push_words.ensures.len)))

pub push_words-requires-3 : goal.push_words-requires-3
push_words-requires-3 c = (omega arith, (third_bytes c.args.label c.requires.bytes, omega (arith, ap length c.new-bytes.ensures, c.push_words.ensures.len, c.push_words-2.ensures.len)))

pub returns-in-Ok : goal.returns-in-Ok
returns-in-Ok c =
    c.push_str.ensures.bytes ∙ ap (λ (z : List ℕ). z ++ c.in-Ok.text.now) c.new-name.ensures ∙ c.in-Ok.ensures.cases.0 ∙ c.as_slice.ensures.value
    ∙ three_runs c.args.label c.new-bytes.result.items c.push_words.new.text.items c.push_words-2.new.text.items c.push_words-3.new.text.items c.new-bytes.ensures c.push_words.ensures.bytes c.push_words-2.ensures.bytes c.push_words-3.ensures.bytes

pub returns-in_default : goal.returns-in_default
returns-in_default c =
    let P : List ℕ → Type 0 = IsUtf8 in
    absurd (c.in_default.ensures.cases.0 (subst P (sym (c.as_slice.ensures.value ∙ three_runs c.args.label c.new-bytes.result.items c.push_words.new.text.items c.push_words-2.new.text.items c.push_words-3.new.text.items c.new-bytes.ensures c.push_words.ensures.bytes c.push_words-2.ensures.bytes c.push_words-3.ensures.bytes)) c.requires.text))
