use Rattle.std.proofs.Common.{◌≡◌, ◌+◌, ◌/◌, ◌%◌, ◌∷◌, [], ℕ, true, List, length, sym, ap, ◌∙◌, subst, arith}
use Rattle.std.specs.Prelude.{map}
use Rattle.row_table.specs.declared.row.Row.{Row}
use Rattle.row_table.specs.RowTable.{rows}
use Rattle.row_table.proofs.RowLemmas.{same_self}
use Rattle.row_table.proofs.TableLemmas.{rows_ascend}
use Rattle.list_table.specs.Stocks.{rows_of}
use Rattle.cell_pool.specs.Items.{extent_of}
use Rattle.cell_pool.specs.Notes.{is_at, AreNumbered}
use Rattle.cell_pool.proofs.NumberLemmas.{none_there, numbered_more, rows_more, extents_more}
use Rattle.cell_pool.proofs.extents.push.Goals as goal

pub insert-requires-clause-absent : goal.insert-requires-clause-absent
insert-requires-clause-absent c =
    let n = c.next_number-number.result in
    (rows_ascend c.args.elements.now c.args.extents.now c.requires.table).1 (n % 256) (n / 256)
    ∙ none_there 0 n (rows c.args.elements.now c.args.extents.now) c.requires.numbered (omega (arith, c.next_number-number.ensures))

pub returns-clause-numbered : goal.returns-clause-numbered
returns-clause-numbered c =
    let all = rows c.args.elements.now c.args.extents.now in
    let n = c.next_number-number.result in
    let x : Row = record { id = c.insert.result; words = n % 256 ∷ n / 256 ∷ c.args.extent.start ∷ c.args.extent.count ∷ 0 ∷ 0 ∷ 0 ∷ [] } in
    let at : is_at (length all) x.words ≡ true = ap (λ (z : ℕ). is_at z x.words) (sym c.next_number-number.ensures) ∙ same_self (n % 256) (n / 256) in
    let e : 0 + length all ≡ length all = omega arith in
    let P : List Row → Type 0 = λ z. AreNumbered 0 (rows_of z) in
    subst P (sym (rows_more c.args.elements.now c.insert.new.elements c.args.extents.now c.insert.new.self c.requires.table c.insert.ensures.table c.requires.numbered x at c.insert.ensures.rows))
    (numbered_more 0 all x c.requires.numbered (ap (λ (z : ℕ). is_at z x.words) e ∙ at))

pub returns-clause-extents : goal.returns-clause-extents
returns-clause-extents c =
    let all = rows c.args.elements.now c.args.extents.now in
    let n = c.next_number-number.result in
    let x : Row = record { id = c.insert.result; words = n % 256 ∷ n / 256 ∷ c.args.extent.start ∷ c.args.extent.count ∷ 0 ∷ 0 ∷ 0 ∷ [] } in
    let at : is_at (length all) x.words ≡ true = ap (λ (z : ℕ). is_at z x.words) (sym c.next_number-number.ensures) ∙ same_self (n % 256) (n / 256) in
    ap (λ (z : List Row). map extent_of (rows_of z)) (rows_more c.args.elements.now c.insert.new.elements c.args.extents.now c.insert.new.self c.requires.table c.insert.ensures.table c.requires.numbered x at c.insert.ensures.rows)
    ∙ extents_more all x
