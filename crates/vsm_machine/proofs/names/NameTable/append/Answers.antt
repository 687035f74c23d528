-- A new name is another row after all others.
use Rattle.std.proofs.Common.{◌≡◌, ◌≤◌, true≢false, None, [], ◌∷◌, is_some, length, map, take, ap, sym, ◌∙◌, arith}
use Rattle.std.specs.Map.{lookup}
use Rattle.std.proofs.lemmas.List.{take-append-le, map-append}
use Rattle.indexmap.proofs.CallerLemmas.{insert_entry-new}
use Rattle.vsm_machine.specs.NameTable.{row_of, all_rows}
use Rattle.vsm_machine.proofs.Entries.{same_key, lookup-is, length-rows, none-is}
use Rattle.vsm_machine.proofs.names.NameTable.append.Goals as goal

pub returns-in-Ok-clause-ok : goal.returns-in-Ok-clause-ok
returns-in-Ok-clause-ok c =
    let t = c.args.self.now in
    let key = c.args.name.now in
    let none : lookup (same_key key) t.table.entries ≡ None = none-is (lookup (same_key key) t.table.entries) (ap is_some (lookup-is key t.table.entries) ∙ c.requires) in
    ap (map row_of) (c.in-Ok.ensures.entries ∙ insert_entry-new same_key t.table key 0 none) ∙ map-append row_of t.table.entries ((key, 0) ∷ [])

pub returns-in-Ok-clause-rows : goal.returns-in-Ok-clause-rows
returns-in-Ok-clause-rows c =
    let t = c.args.self.now in
    let within : t.defined ≤ length (all_rows t) = omega (arith, t.within, length-rows t.table.entries) in
    ap (take t.defined) (returns-in-Ok-clause-ok c) ∙ take-append-le t.defined (all_rows t) ((c.args.name.now.bytes, 0) ∷ []) within

pub returns-in-Err-clause-needless : goal.returns-in-Err-clause-needless
returns-in-Err-clause-needless c more = absurd (true≢false (sym (c.in-Err.ensures.succeeds more)))
