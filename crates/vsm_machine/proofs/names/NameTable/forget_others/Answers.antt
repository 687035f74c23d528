-- What is cut off is after the defined names and, if it is undone, the one that is kept.
use Rattle.std.proofs.Common.{◌+◌, ◌&&◌, not, true≢false, is_some, sym, ◌∙◌, arith}
use Rattle.std.proofs.lemmas.Bool.{and_parts}
use Rattle.vsm_model.specs.Names.{word_of}
use Rattle.vsm_machine.specs.NameTable.{rows_of, knows}
use Rattle.vsm_machine.proofs.Entries.{rows-kept, next-kept, left-with-next, left-without}
use Rattle.vsm_machine.specs.SameName.{same_name-self}
use Rattle.vsm_machine.proofs.TableRows.{own-kept}
use Rattle.vsm_machine.proofs.names.NameTable.forget_others.Goals as goal

pub returns-then-put_next-clause-rows : goal.returns-then-put_next-clause-rows
returns-then-put_next-clause-rows c =
    let s = c.put_next.new.self in
    rows-kept s.table.entries c.truncate.new.self.entries s.defined (s.defined + 1) (omega arith) c.truncate.ensures.entries ∙ c.put_next.ensures.rows

pub returns-then-put_next-clause-others : goal.returns-then-put_next-clause-others
returns-then-put_next-clause-others c =
    let t = c.args.self.now in
    let s = c.put_next.new.self in
    let name = c.args.own.now.bytes in
    let known = (and_parts (not (is_some (word_of (rows_of t) name))) (knows t name) (sym c.put_next.ensures.undone ∙ c.if-put_next.true)).1 in
    let next = c.put_next.ensures.next c.if-put_next.true in
    left-with-next s.table.entries c.truncate.new.self.entries s.defined (rows_of t) (knows t) name next.0 c.truncate.ensures.entries next.1 c.put_next.ensures.rows known

pub returns-then-put_next-clause-own : goal.returns-then-put_next-clause-own
returns-then-put_next-clause-own c =
    let name = c.args.own.now.bytes in
    own-kept _ _ _ _ (returns-then-put_next-clause-others c name) (same_name-self name)

pub returns-then-put_next-clause-next : goal.returns-then-put_next-clause-next
returns-then-put_next-clause-next c = λ none known.
    let s = c.put_next.new.self in
    let next = c.put_next.ensures.next c.if-put_next.true in
    (next.0, next-kept s.table.entries c.truncate.new.self.entries s.defined (c.args.own.now.bytes, next.0) c.truncate.ensures.entries next.1)

pub returns-else-put_next-clause-rows : goal.returns-else-put_next-clause-rows
returns-else-put_next-clause-rows c =
    let s = c.put_next.new.self in
    rows-kept s.table.entries c.truncate-else-put_next.new.self.entries s.defined s.defined (omega arith) c.truncate-else-put_next.ensures.entries
    ∙ c.put_next.ensures.rows

pub returns-else-put_next-clause-others : goal.returns-else-put_next-clause-others
returns-else-put_next-clause-others c =
    let t = c.args.self.now in
    let s = c.put_next.new.self in
    let none = sym c.if-put_next.false ∙ c.put_next.ensures.undone in
    left-without s.table.entries c.truncate-else-put_next.new.self.entries s.defined (rows_of t) (knows t) c.args.own.now.bytes
    c.truncate-else-put_next.ensures.entries c.put_next.ensures.rows none

pub returns-else-put_next-clause-own : goal.returns-else-put_next-clause-own
returns-else-put_next-clause-own c =
    let name = c.args.own.now.bytes in
    own-kept _ _ _ _ (returns-else-put_next-clause-others c name) (same_name-self name)

-- it would be undone
pub returns-else-put_next-clause-next : goal.returns-else-put_next-clause-next
returns-else-put_next-clause-next c = λ none known.
    let other = sym c.if-put_next.false ∙ c.put_next.ensures.undone in
    absurd (true≢false (sym (other ∙ (λ i. not (is_some (none i)) && known i))))
