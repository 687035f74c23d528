-- A name that is found after the defined ones is undone, and is moved next to them; no other row is exchanged.
use Rattle.std.proofs.Common.{◌≡◌, ℕ, ◌+◌, ◌&&◌, not, is_some, [], ◌∷◌, ◌++◌, map, take, sym, ap, subst, ◌∙◌}
use Rattle.std.proofs.Math.Bool.{and-false}
use Rattle.arrayvec.specs.ArrayString.{ArrayString}
use Rattle.vsm_model.specs.Names.{word_of}
use Rattle.vsm_machine.specs.NameTable.{row_of, rows_of, knows}
use Rattle.vsm_machine.proofs.Entries.{lookup-is, front-found, front-lacks, name-next, rows-moved}
use Rattle.vsm_machine.proofs.names.NameTable.put_next.Goals as goal

pub returns-then-index-self-clause-undone : goal.returns-then-index-self-clause-undone
returns-then-index-self-clause-undone c =
    let es = c.args.self.now.table.entries in
    let key = c.args.name.now in
    let front = front-found key es c.args.self.now.defined c.in-Some.index (sym c.in-Some.ensures.index) c.if-index-self.true in
    ap (λ b. not b && knows c.args.self.now key.bytes) (c.in-Some.ensures.found ∙ sym (ap is_some front))

pub returns-else-index-self-clause-rows : goal.returns-else-index-self-clause-rows
returns-else-index-self-clause-rows c =
    ap (λ l. take c.args.self.now.defined (map row_of l)) c.move_index.ensures.entries
    ∙ rows-moved c.args.self.now.table.entries c.args.self.now.defined c.in-Some.index c.if-index-self.false c.in-Some.ensures.within

pub returns-else-index-self-clause-same : goal.returns-else-index-self-clause-same
returns-else-index-self-clause-same c other =
    let key : ArrayString = record { bytes = other; spare = [] } in
    ap is_some (sym (lookup-is key c.move_index.new.self.entries) ∙ c.move_index.ensures.reordered.2 key ∙ lookup-is key c.args.self.now.table.entries)

pub returns-else-index-self-clause-undone : goal.returns-else-index-self-clause-undone
returns-else-index-self-clause-undone c =
    let es = c.args.self.now.table.entries in
    let key = c.args.name.now in
    let lacks = front-lacks key es c.args.self.now.defined c.in-Some.index (sym c.in-Some.ensures.index) c.if-index-self.false in
    let known = c.in-Some.ensures.found ∙ ap is_some (lookup-is key es) in
    λ i. not (is_some (sym lacks i)) && known i

pub returns-else-index-self-clause-next : goal.returns-else-index-self-clause-next
returns-else-index-self-clause-next c _ =
    let es = c.args.self.now.table.entries in
    let n = c.args.self.now.defined in
    let key = c.args.name.now in
    subst (λ l. (word : ℕ) × (take (n + 1) (map row_of l) ≡ take n (map row_of l) ++ (key.bytes, word) ∷ [])) (sym c.move_index.ensures.entries)
    (name-next key es n c.in-Some.index (sym c.in-Some.ensures.index) c.if-index-self.false)

pub returns-in-None-clause-undone : goal.returns-in-None-clause-undone
returns-in-None-clause-undone c =
    let key = c.args.name.now in
    let unknown = c.in-None.ensures.found ∙ ap is_some (lookup-is key c.args.self.now.table.entries) in
    let lacks = not (is_some (word_of (rows_of c.args.self.now) key.bytes)) in
    sym (and-false lacks) ∙ ap (λ k. lacks && k) unknown
