use Rattle.std.proofs.Common.{sym, ◌∷◌, [], ◌∙◌, List, OnErr, length, subst}
use Rattle.storage_changes.specs.Ending.{owned_in}
use Rattle.task_plans.specs.Sights.{row_of}
use Rattle.task_plans.proofs.EmptyingRecords.{own_is, not_own}
use Rattle.task_plans.proofs.Parks.{parks_one, parks_no}
use Rattle.storage_swap.specs.Growth.{MakesElements}
use Rattle.vsm_model.specs.declared.Subpool.{Subpool}
use Rattle.task_plans.proofs.end.park_one.Goals as goal

pub returns-then-is_own-clause-ok : goal.returns-then-is_own-clause-ok
returns-then-is_own-clause-ok c =
    let row = row_of c.args.seen in
    parks_one c.args.storage.now c.args.builder.now c.args.seen.subpool (owned_in (row ∷ [])) c.park.new.storage c.park.new.self
    (own_is row (sym c.if-is_own.true ∙ c.is_own.ensures)) c.park.result c.park.ensures.ok

pub returns-clause-ok : goal.returns-clause-ok
returns-clause-ok c =
    let row = row_of c.args.seen in
    parks_no c.args.storage.now c.args.builder.now (owned_in (row ∷ [])) (not_own row (sym c.if-is_own.false ∙ c.is_own.ensures))

pub returns-then-is_own-clause-made : goal.returns-then-is_own-clause-made
returns-then-is_own-clause-made c =
    let P : List Subpool → Type 0 = λ names. OnErr c.park.result (MakesElements c.args.storage.now.elements c.park.new.storage.elements (length names)) in
    subst P (sym (own_is (row_of c.args.seen) (sym c.if-is_own.true ∙ c.is_own.ensures))) c.park.ensures.made
