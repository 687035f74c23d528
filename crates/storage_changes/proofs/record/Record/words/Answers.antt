use Rattle.std.proofs.Common.{rules, ◌≡◌, ◌%◌, ◌<◌, ◌==◌, if◌then◌else◌, ap, sym, ◌∙◌, arith}
use Rattle.storage_changes.specs.Records.{record_of}
use Rattle.storage_changes.specs.declared.record.Record.TheVariants.{Register, Cell}
use Rattle.storage_changes.proofs.record.Record.words.Goals as goal

pub returns-in-Register : goal.returns-in-Register
unfolding record_of
returns-in-Register c =
    let low_task : c.in-Register.r.task < 256 = search rules in
    let low_register : c.in-Register.r.register < 256 = search rules in
    let task : c.from.result % 256 ≡ c.in-Register.r.task = omega (arith, c.from.ensures, low_task) in
    let register : c.from-in-Register.result % 256 ≡ c.in-Register.r.register = omega (arith, c.from-in-Register.ensures, low_register) in
    (λ i. Register (record { task = task i; register = register i; word = c.in-Register.r.word })) ∙ sym c.in-Register.is

pub returns-in-Cell : goal.returns-in-Cell
unfolding record_of
returns-in-Cell c =
    let r = c.in-Cell.r in
    let free : ((if r.free then 1 else 0) == 1) ≡ r.free = search rules in
    ap record_of c.cell_words-in-Cell.ensures
    ∙ (λ i. Cell (record { pool = r.pool; cell = (c.one_cell.ensures i).start; free = free i }))
    ∙ sym c.in-Cell.is
