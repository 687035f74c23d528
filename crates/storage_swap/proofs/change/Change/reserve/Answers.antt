use Rattle.std.proofs.Common.{◌≡◌, ◌≤◌, true, List, length, IfSome, ap, sym, ◌∙◌, subst, arith}
use Rattle.run_set.specs.Runs.{Run}
use Rattle.subpool_storage.specs.Subpools.{Subpools, is_there}
use Rattle.subpool_storage.specs.SubpoolStorage.{subpools_of}
use Rattle.storage_changes.specs.Changes.{change_from}
use Rattle.storage_swap.specs.Reserve.{Reserves, elements_for, emptied_extents}
use Rattle.storage_swap.proofs.GrowthLemmas.{pages-still}
use Rattle.storage_swap.proofs.ReserveLemmas.{grown-stands, grown-once, grown-frameless, grown-unassigned, grown-subpools, grown-extents, grown-reserves}
use Rattle.storage_swap.proofs.change.Change.reserve.Goals as goal

pub make-requires-clause-stands : goal.make-requires-clause-stands
make-requires-clause-stands c = grown-stands c.args.storage.now c.grow.new.storage c.requires.stands c.requires.once c.grow.ensures.grown

pub make-requires-clause-once : goal.make-requires-clause-once
make-requires-clause-once c = grown-once c.args.storage.now c.grow.new.storage c.requires.stands c.requires.once c.grow.ensures.grown

pub make-requires-clause-frameless : goal.make-requires-clause-frameless
make-requires-clause-frameless c = grown-frameless c.args.storage.now c.grow.new.storage c.requires.stands c.requires.once c.grow.ensures.grown c.requires.frameless

pub make-requires-clause-unassigned : goal.make-requires-clause-unassigned
make-requires-clause-unassigned c = grown-unassigned c.args.storage.now c.grow.new.storage c.requires.stands c.requires.once c.grow.ensures.grown c.args.fresh c.requires.unassigned

pub make-requires-clause-there : goal.make-requires-clause-there
make-requires-clause-there c =
    let P : Subpools → Type 0 = λ m. IfSome c.args.emptied (λ p. is_there m p ≡ true) in
    subst P (sym (grown-subpools c.args.storage.now c.grow.new.storage c.requires.stands c.requires.once c.grow.ensures.grown)) c.requires.there

pub elements_needed-elements-requires-clause-few : goal.elements_needed-elements-requires-clause-few
elements_needed-elements-requires-clause-few c = omega (arith, c.count.ensures c.args.storage.now.elements, c.extents_emptied-pages.ensures.few)

pub make-requires-clause-extents : goal.make-requires-clause-extents
make-requires-clause-extents c = (grown-extents c.args.storage.now c.grow.new.storage c.requires.stands c.requires.once c.grow.ensures.grown c.extents_emptied-pages.result c.extents_emptied-pages.ensures.extents).0

pub make-requires-clause-runs : goal.make-requires-clause-runs
make-requires-clause-runs c =
    (grown-extents c.args.storage.now c.grow.new.storage c.requires.stands c.requires.once c.grow.ensures.grown c.extents_emptied-pages.result c.extents_emptied-pages.ensures.extents).1 ∙ c.extents_emptied-pages.ensures.runs
    ∙ sym (ap (λ (m : Subpools). emptied_extents m c.args.emptied) (grown-subpools c.args.storage.now c.grow.new.storage c.requires.stands c.requires.once c.grow.ensures.grown))

pub make-requires-clause-few : goal.make-requires-clause-few
make-requires-clause-few c =
    omega (arith, ap (λ (rs : List Run). length rs) (grown-extents c.args.storage.now c.grow.new.storage c.requires.stands c.requires.once c.grow.ensures.grown c.extents_emptied-pages.result c.extents_emptied-pages.ensures.extents).1, c.extents_emptied-pages.ensures.few)

pub make-requires-clause-spare : goal.make-requires-clause-spare
make-requires-clause-spare c =
    let P : Subpools → Type 0 = λ m. elements_for m c.args.emptied (length c.args.records.now) c.args.blanks ≤ c.grow.new.storage.elements.spare in
    subst P (sym (grown-subpools c.args.storage.now c.grow.new.storage c.requires.stands c.requires.once c.grow.ensures.grown)) (omega (
      arith,
      c.elements_needed-elements.ensures (subpools_of c.args.storage.now.elements c.args.storage.now.subpools) (c.count.ensures c.args.storage.now.elements ∙ ap (λ (rs : List Run). length rs) c.extents_emptied-pages.ensures.runs),
      c.in_ok-grow.ensures.elements,
    ))

pub returns-clause-ok : goal.returns-clause-ok
returns-clause-ok c =
    let P : Subpools → Type 0 = λ m. Reserves c.grow.new.storage (change_from m c.args.emptied c.args.records.now c.args.blanks c.args.fresh) c.make.result c.make.new.storage in
    grown-reserves c.args.storage.now c.grow.new.storage c.requires.stands c.requires.once c.grow.ensures.grown (change_from (subpools_of c.args.storage.now.elements c.args.storage.now.subpools) c.args.emptied c.args.records.now c.args.blanks c.args.fresh) c.make.result c.make.new.storage
    (subst P (grown-subpools c.args.storage.now c.grow.new.storage c.requires.stands c.requires.once c.grow.ensures.grown) c.make.ensures.reserves)

pub returns-clause-uses : goal.returns-clause-uses
returns-clause-uses c =
    let same = ap (λ (m : Subpools). elements_for m c.args.emptied (length c.args.records.now) c.args.blanks)
    (grown-subpools c.args.storage.now c.grow.new.storage c.requires.stands c.requires.once c.grow.ensures.grown) in
    omega (arith, same, c.grow.ensures.more, c.make.ensures.spare)

pub returns-clause-live : goal.returns-clause-live
returns-clause-live c =
    let same = ap (λ (m : Subpools). elements_for m c.args.emptied (length c.args.records.now) c.args.blanks)
    (grown-subpools c.args.storage.now c.grow.new.storage c.requires.stands c.requires.once c.grow.ensures.grown) in
    omega (arith, same, c.grow.ensures.live, c.make.ensures.spare, c.make.ensures.as_many)

pub returns-clause-made_for_pages : goal.returns-clause-made_for_pages
returns-clause-made_for_pages c =
    pages-still c.args.storage.now.region c.grow.new.storage.region c.make.new.storage.region c.args.fresh c.grow.ensures.made_for_pages c.make.ensures.as_many_frames c.make.ensures.tables.tables
