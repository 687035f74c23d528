-- A new name is the only row after the defined ones; one that may be undone is the only one that stays.
use Rattle.std.proofs.Common.{◌||◌, is_some, ap, ◌∙◌, arith}
use Rattle.vsm_model.specs.Names.{same_name, word_of}
use Rattle.vsm_machine.specs.NameTable.{all_rows, knows}
use Rattle.vsm_machine.specs.SameName.{same_name-self}
use Rattle.vsm_machine.proofs.Entries.{all-defined}
use Rattle.vsm_machine.proofs.TableRows.{knows-more}
use Rattle.vsm_machine.proofs.names.NameTable.make_next.Goals as goal

pub returns-in_ok-append-clause-others : goal.returns-in_ok-append-clause-others
returns-in_ok-append-clause-others c other =
    let t = c.args.self.now in
    let name = c.args.name.now.bytes in
    ap (λ l. is_some (word_of l other)) c.in_ok-append.ensures.ok ∙ knows-more (all_rows t) name other 0
    ∙ ap (λ l. same_name name other || is_some (word_of l other)) (all-defined t (omega (arith, c.len.ensures.len, c.if-len-self.true)))

pub returns-in_ok-reserve-clause-next : goal.returns-in_ok-reserve-clause-next
returns-in_ok-reserve-clause-next c =
    let name = c.args.name.now.bytes in
    c.forget_others.ensures.next (ap (λ l. word_of l name) c.in_ok-reserve.ensures.rows ∙ c.requires)
    (c.in_ok-reserve.ensures.ok name ∙ ap (λ b. b || knows c.args.self.now name) (same_name-self name))
