use Rattle.std.proofs.Common.{sym, ap, arith, length, ◌==◌, ℕ}
use Rattle.list_table.specs.Entries.{word}
use Rattle.cell_pool.proofs.EntryLemmas.{eqb_false}
use Rattle.cell_pool.proofs.TextLemmas.{no_header, front_bytes, last_small, header_runs}
use Rattle.cell_pool.proofs.texts.header_of.Goals as goal

pub returns-then-form-eq0 : goal.returns-then-form-eq0
returns-then-form-eq0 c = sym (no_header c.args.front c.args.form (ap (λ (z : ℕ). z == 0) c.if-form-eq0.true))

pub push_words-requires : goal.push_words-requires
push_words-requires c =
    (omega arith, (front_bytes c.args.front c.args.form (eqb_false 0 (word c.args.form 1) (λ e. c.if-form-eq0.false (sym e))) c.requires, omega (arith, ap length c.new-text.ensures)))

pub push_word-requires : goal.push_word-requires
push_word-requires c =
    (omega arith, (last_small c.args.front c.args.form (eqb_false 0 (word c.args.form 1) (λ e. c.if-form-eq0.false (sym e))) c.requires, omega (arith, ap length c.new-text.ensures, c.push_words.ensures.len)))

pub returns : goal.returns
returns c =
    header_runs c.args.front c.args.form (eqb_false 0 (word c.args.form 1) (λ e. c.if-form-eq0.false (sym e))) c.requires c.new-text.result.items c.push_words.new.text.items c.push_word.new.text.items c.new-text.ensures c.push_words.ensures.bytes c.push_word.ensures.bytes
