use Rattle.std.proofs.Common.{◌≡◌, ◌*◌, Some, None, sym, ap, ◌∙◌}
use Rattle.cell_pool.specs.declared.settings.CellSettings.{CellSettings}
use Rattle.cell_pool.specs.Pools.{overlaps}
use Rattle.storage_changes.specs.PoolTable.{extent_of}
use Rattle.vsm_model.specs.Regions.{doublewords}
use Rattle.storage_map.specs.Cells.{cell_pool, extents_left}
use Rattle.explain_reasons.proofs.Extents.{extent_found, extent_passed, first_of}
use Rattle.explain_reasons.proofs.Rows.{each, fact_of, shorter}
use Rattle.explain_reasons.proofs.cells.extent_in.Goals as goal

pub loop-extent-init : goal.loop-extent-init
loop-extent-init c =
    let s = c.args.storage.now in
    let first = c.first_cell_extent-place in
    let a = c.args.r.address in
    let n = 8 * doublewords c.args.r.length in
    record {
      place = first.ensures.place;
      left = each (cell_pool s c.args.id) (λ p. first_of p a n (extents_left s first.result) ≡ first_of p a n p.extents)
          (λ p there. ap (first_of p a n) (fact_of (λ p. extents_left s first.result ≡ p.extents) (cell_pool s c.args.id) p there first.ensures.all));
    }

pub returns-then-overlaps : goal.returns-then-overlaps
returns-then-overlaps c =
    let s = c.args.storage.now in
    let o = cell_pool s c.args.id in
    let x = c.in-Some.extent in
    let a = c.args.r.address in
    let n = 8 * doublewords c.args.r.length in
    let left = extents_left s c.loop-extent.place in
    let size = c.cell_pool_settings-size in
    each o (λ p. Some (extent_of x) ≡ first_of p a n p.extents)
    (λ p there. sym (extent_found p a n x left (extents_left s c.in-Some.after) c.in-Some.ensures.next
    (ap (λ (z : CellSettings). overlaps z.size a n x) (sym (fact_of (λ p. size.result ≡ p.settings) o p there size.ensures)) ∙ sym c.overlaps.ensures ∙ c.if-overlaps.true))
    ∙ fact_of (λ p. first_of p a n left ≡ first_of p a n p.extents) o p there c.loop-extent.invariant.left)

pub loop-extent-smaller : goal.loop-extent-smaller
loop-extent-smaller c =
    let s = c.args.storage.now in
    shorter (extents_left s c.loop-extent.place) (extents_left s c.in-Some.after) c.in-Some.extent c.in-Some.ensures.next

pub loop-extent-preserved : goal.loop-extent-preserved
loop-extent-preserved c =
    let s = c.args.storage.now in
    let o = cell_pool s c.args.id in
    let x = c.in-Some.extent in
    let a = c.args.r.address in
    let n = 8 * doublewords c.args.r.length in
    let left = extents_left s c.loop-extent.place in
    let rest = extents_left s c.in-Some.after in
    let size = c.cell_pool_settings-size in
    record {
      place = c.in-Some.ensures.place;
      left = each o (λ p. first_of p a n rest ≡ first_of p a n p.extents)
          (λ p there. sym (extent_passed p a n x left rest c.in-Some.ensures.next
          (ap (λ (z : CellSettings). overlaps z.size a n x) (sym (fact_of (λ p. size.result ≡ p.settings) o p there size.ensures)) ∙ sym c.overlaps.ensures ∙ c.if-overlaps.false))
          ∙ fact_of (λ p. first_of p a n left ≡ first_of p a n p.extents) o p there c.loop-extent.invariant.left);
    }

pub returns : goal.returns
returns c =
    let s = c.args.storage.now in
    let o = cell_pool s c.args.id in
    let a = c.args.r.address in
    let n = 8 * doublewords c.args.r.length in
    let left = extents_left s c.loop-extent.place in
    each o (λ p. None ≡ first_of p a n p.extents)
    (λ p there. sym (ap (first_of p a n) c.in_default.ensures.none) ∙ fact_of (λ p. first_of p a n left ≡ first_of p a n p.extents) o p there c.loop-extent.invariant.left)
