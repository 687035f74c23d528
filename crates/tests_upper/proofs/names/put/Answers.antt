-- A name that the table holds, as the next one if it isn't defined, can be given a word.
use Rattle.std.proofs.Common.{◌≡◌, true, ◌||◌, ap, sym, subst, ◌∙◌}
use Rattle.vsm_model.specs.Names.{word_of}
use Rattle.vsm_machine.specs.NameChanges.{Gives}
use Rattle.vsm_machine.specs.NameTable.{knows, rows_of}
use Rattle.vsm_machine.specs.SameName.{same_name-self}
use Rattle.vsm_machine.specs.StepsBack.{step_to_gives}
use Rattle.vsm_machine.proofs.TableSteps.{given-fits}
use Rattle.tests_upper.proofs.names.put.Goals as goal

pub turn-requires : goal.turn-requires
turn-requires g c =
    let t = c.forget_others.new.self in
    let name = c.args.name.bytes in
    let known : knows c.reserve.new.self name ≡ true = c.in-Ok.ensures.ok name ∙ ap (λ b. b || knows c.args.table.now name) (same_name-self name) in
    given-fits t name c.change_to-change.result
    (subst (Gives (rows_of t)) (sym c.change_to-change.ensures) (step_to_gives (rows_of t) name c.args.word))
    (λ none. c.forget_others.ensures.next (ap (λ l. word_of l name) (sym c.forget_others.ensures.rows) ∙ none) known)
