use Rattle.std.proofs.Common.{◌≡◌, ◌+◌, ◌*◌, length, sym, ap, ◌∙◌, arith}
use Rattle.row_table.specs.Rows.{word}
use Rattle.row_table.specs.RowTable.{rows}
use Rattle.cell_pool.proofs.NumberLemmas.{last_number, none_last}
use Rattle.cell_pool.proofs.extents.next_number.Goals as goal

pub overflow_mul-result : goal.overflow_mul-result
overflow_mul-result c =
    let n : word c.in-Some.row.words 1 * 256 + word c.in-Some.row.words 0 + 1 ≡ length (rows c.args.elements.now c.args.extents.now) = last_number (rows c.args.elements.now c.args.extents.now) c.in-Some.row c.requires.numbered (sym c.last.ensures.last ∙ c.in-Some.is) in
    omega (arith, n, c.last.ensures.few)

pub overflow_add-result : goal.overflow_add-result
overflow_add-result c =
    let n : word c.in-Some.row.words 1 * 256 + word c.in-Some.row.words 0 + 1 ≡ length (rows c.args.elements.now c.args.extents.now) = last_number (rows c.args.elements.now c.args.extents.now) c.in-Some.row c.requires.numbered (sym c.last.ensures.last ∙ c.in-Some.is) in
    omega (arith, n, c.last.ensures.few)

pub overflow_add-result-in-Some : goal.overflow_add-result-in-Some
overflow_add-result-in-Some c =
    let n : word c.in-Some.row.words 1 * 256 + word c.in-Some.row.words 0 + 1 ≡ length (rows c.args.elements.now c.args.extents.now) = last_number (rows c.args.elements.now c.args.extents.now) c.in-Some.row c.requires.numbered (sym c.last.ensures.last ∙ c.in-Some.is) in
    omega (arith, n, c.last.ensures.few)

pub returns-in-Some : goal.returns-in-Some
returns-in-Some c = last_number (rows c.args.elements.now c.args.extents.now) c.in-Some.row c.requires.numbered (sym c.last.ensures.last ∙ c.in-Some.is)

pub returns-in-None : goal.returns-in-None
returns-in-None c = sym (ap length (none_last (rows c.args.elements.now c.args.extents.now) (sym c.last.ensures.last ∙ c.in-None.is)))
