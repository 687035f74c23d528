use Rattle.std.proofs.Common.{ℕ, List, Option, Some, ap, subst, ◌∙◌, ◌∷◌}
use Rattle.std.specs.Prelude.{if◌then◌else◌}
use Rattle.vsm_elements.specs.Store.{among}
use Rattle.vsm_elements.specs.Ownership.{Leaves}
use Rattle.row_table.specs.declared.row.Row.{Row}
use Rattle.row_table.specs.Rows.{word, is_under}
use Rattle.row_table.specs.RowTable.{owned}
use Rattle.row_table.proofs.TableLemmas.{tables_kept, tables_stand}
use Rattle.row_table.proofs.CallLemmas.{fresh_out, fresh_same, taken_first}
use Rattle.row_table.proofs.table.RowTable.insert.Goals as goal

pub put_in-requires-clause-table : goal.put_in-requires-clause-table
put_in-requires-clause-table c = (tables_kept c.args.elements.now c.take-id.new.self c.args.self.now c.requires.table (fresh_same c.args.elements.now c.take-id.new.self (owned c.args.elements.now c.args.self.now) c.take-id.result _ (tables_stand c.args.elements.now c.args.self.now c.requires.table).0.live c.take-id.ensures.fresh c.take-id.ensures.updates)).0

pub put_in-requires-clause-absent : goal.put_in-requires-clause-absent
put_in-requires-clause-absent c = (tables_kept c.args.elements.now c.take-id.new.self c.args.self.now c.requires.table (fresh_same c.args.elements.now c.take-id.new.self (owned c.args.elements.now c.args.self.now) c.take-id.result _ (tables_stand c.args.elements.now c.args.self.now c.requires.table).0.live c.take-id.ensures.fresh c.take-id.ensures.updates)).1 (word c.args.words 0) (word c.args.words 1) ∙ c.requires.absent

pub put_in-requires-clause-out : goal.put_in-requires-clause-out
put_in-requires-clause-out c = ap (among c.take-id.result) (tables_kept c.args.elements.now c.take-id.new.self c.args.self.now c.requires.table (fresh_same c.args.elements.now c.take-id.new.self (owned c.args.elements.now c.args.self.now) c.take-id.result _ (tables_stand c.args.elements.now c.args.self.now c.requires.table).0.live c.take-id.ensures.fresh c.take-id.ensures.updates)).2 ∙ fresh_out c.args.elements.now (owned c.args.elements.now c.args.self.now) c.take-id.result (tables_stand c.args.elements.now c.args.self.now c.requires.table).0.live c.take-id.ensures.fresh

pub returns-clause-rows : goal.returns-clause-rows
returns-clause-rows c a b =
    c.put_in.ensures.rows a b
    ∙ ap (λ (z : Option Row). if is_under a b c.args.words then Some (record { id = c.take-id.result; words = c.args.words }) else z) ((tables_kept c.args.elements.now c.take-id.new.self c.args.self.now c.requires.table (fresh_same c.args.elements.now c.take-id.new.self (owned c.args.elements.now c.args.self.now) c.take-id.result _ (tables_stand c.args.elements.now c.args.self.now c.requires.table).0.live c.take-id.ensures.fresh c.take-id.ensures.updates)).1 a b)

pub returns-clause-owned : goal.returns-clause-owned
returns-clause-owned c =
    let P : List ℕ → Type 0 = λ z. Leaves c.take-id.new.self c.put_in.new.elements (c.take-id.result ∷ z) (owned c.put_in.new.elements c.put_in.new.self) in
    taken_first c.args.elements.now c.take-id.new.self c.put_in.new.elements c.take-id.result _ (owned c.args.elements.now c.args.self.now) _ c.take-id.ensures.fresh c.take-id.ensures.updates c.take-id.ensures.spares (subst P (tables_kept c.args.elements.now c.take-id.new.self c.args.self.now c.requires.table (fresh_same c.args.elements.now c.take-id.new.self (owned c.args.elements.now c.args.self.now) c.take-id.result _ (tables_stand c.args.elements.now c.args.self.now c.requires.table).0.live c.take-id.ensures.fresh c.take-id.ensures.updates)).2 c.put_in.ensures.owned)
