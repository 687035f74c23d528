use Rattle.std.proofs.Common.{◌≡◌, Some, None, sym, ap, ◌∙◌}
use Rattle.storage_changes.specs.PoolTable.{extent_of}
use Rattle.storage_map.specs.Cells.{cell_pool, extents_left}
use Rattle.explain_who.proofs.CellPools.{each, extent_found, extent_passed, fact_of, first_of, shorter, starts_before}
use Rattle.explain_who.proofs.cells.extent_with.Goals as goal

pub loop-extent-init : goal.loop-extent-init
loop-extent-init c =
    let s = c.args.storage.now in
    let first = c.first_cell_extent-place in
    let f = first_of c.args.size c.args.address in
    record {
      place = first.ensures.place;
      left = each (cell_pool s c.args.id) (λ p. f (extents_left s first.result) ≡ f p.extents)
          (λ p there. ap f (fact_of (λ p. extents_left s first.result ≡ p.extents) (cell_pool s c.args.id) p there first.ensures.all));
    }

pub returns-then-has_address-clause-first : goal.returns-then-has_address-clause-first
returns-then-has_address-clause-first c =
    let s = c.args.storage.now in
    let x = c.in-Some.extent in
    let f = first_of c.args.size c.args.address in
    let left = extents_left s c.loop-extent.place in
    each (cell_pool s c.args.id) (λ p. Some (extent_of x) ≡ f p.extents)
    (λ p there. sym (extent_found c.args.size c.args.address x left (extents_left s c.in-Some.behind) c.in-Some.ensures.next (sym c.has_address.ensures ∙ c.if-has_address.true))
    ∙ fact_of (λ p. f left ≡ f p.extents) (cell_pool s c.args.id) p there c.loop-extent.invariant.left)

pub returns-then-has_address-clause-before : goal.returns-then-has_address-clause-before
returns-then-has_address-clause-before c =
    starts_before c.args.size c.args.address (extent_of c.in-Some.extent) (sym c.has_address.ensures ∙ c.if-has_address.true)

pub loop-extent-smaller : goal.loop-extent-smaller
loop-extent-smaller c =
    let s = c.args.storage.now in
    shorter (extents_left s c.loop-extent.place) (extents_left s c.in-Some.behind) c.in-Some.extent c.in-Some.ensures.next

pub loop-extent-preserved : goal.loop-extent-preserved
loop-extent-preserved c =
    let s = c.args.storage.now in
    let f = first_of c.args.size c.args.address in
    let left = extents_left s c.loop-extent.place in
    let rest = extents_left s c.in-Some.behind in
    record {
      place = c.in-Some.ensures.place;
      left = each (cell_pool s c.args.id) (λ p. f rest ≡ f p.extents)
          (λ p there. sym (extent_passed c.args.size c.args.address c.in-Some.extent left rest c.in-Some.ensures.next (sym c.has_address.ensures ∙ c.if-has_address.false))
          ∙ fact_of (λ p. f left ≡ f p.extents) (cell_pool s c.args.id) p there c.loop-extent.invariant.left);
    }

pub returns-clause-first : goal.returns-clause-first
returns-clause-first c =
    let s = c.args.storage.now in
    let f = first_of c.args.size c.args.address in
    let left = extents_left s c.loop-extent.place in
    each (cell_pool s c.args.id) (λ p. None ≡ f p.extents)
    (λ p there. sym (ap f c.in_default.ensures.none) ∙ fact_of (λ p. f left ≡ f p.extents) (cell_pool s c.args.id) p there c.loop-extent.invariant.left)
