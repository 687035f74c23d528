-- A name that the table holds is no other name, and a new one is another row after all others.
use Rattle.std.proofs.Common.{inl, inr, true≢false, is_some, ap, sym, ◌∙◌}
use Rattle.vsm_model.specs.Names.{word_of}
use Rattle.vsm_machine.specs.NameTable.{all_rows}
use Rattle.vsm_machine.proofs.Entries.{lookup-is}
use Rattle.vsm_machine.proofs.TableRows.{knows-again, knows-more}
use Rattle.vsm_machine.proofs.names.NameTable.reserve.Goals as goal

pub returns-then-contains_key-clause-ok : goal.returns-then-contains_key-clause-ok
returns-then-contains_key-clause-ok c other =
    let t = c.args.self.now in
    let known = ap is_some (sym (lookup-is c.args.name.now t.table.entries)) ∙ sym c.contains_key.ensures ∙ c.if-contains_key.true in
    knows-again (all_rows t) c.args.name.now.bytes other known

pub append-requires : goal.append-requires
append-requires c = ap is_some (sym (lookup-is c.args.name.now c.args.self.now.table.entries)) ∙ sym c.contains_key.ensures ∙ c.if-contains_key.false

pub returns-clause-ok : goal.returns-clause-ok
returns-clause-ok c other =
    ap (λ l. is_some (word_of l other)) c.in_ok-append.ensures.ok ∙ knows-more (all_rows c.args.self.now) c.args.name.now.bytes other 0

-- if it isn't held and memory is refused, there was no room
pub returns-in_err-append-clause-needless : goal.returns-in_err-append-clause-needless
returns-in_err-append-clause-needless c room = elim room [
  | inl known ↦ absurd (true≢false (sym known ∙ sym (ap is_some (lookup-is c.args.name.now c.args.self.now.table.entries)) ∙ sym c.contains_key.ensures ∙ c.if-contains_key.false))
  | inr more ↦ absurd (true≢false (sym (c.in_err-append.ensures.needless more)))
]
