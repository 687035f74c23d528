use Rattle.std.proofs.Common.{◌≡◌, ◌++◌, ◌/◌, ℕ, All, sym, ap, ◌∙◌, subst}
use Rattle.std.specs.Prelude.{unwrap_or}
use Rattle.std.proofs.lemmas.List.{append-nil}
use Rattle.std.proofs.lemmas.List.Elements.{All-head, All-tail}
use Rattle.cell_pool.specs.declared.settings.CellSettings.{CellSettings}
use Rattle.storage_changes.specs.PoolTable.{cell_pool_of}
use Rattle.storage_map.specs.Cells.{cell_pool, extents_left}
use Rattle.vsm_model.specs.CellPools.{cells_from}
use Rattle.explain_who.proofs.CellPools.{each, fact_of, shorter}
use Rattle.explain_areas.specs.Cells.{cells_among, cells_in_use}
use Rattle.explain_standing.specs.NumberMaps.{number_in}
use Rattle.explain_areas.proofs.CellWalks.{Ends, Remain, all_end, end_fits, extent_added, of_extents}
use Rattle.explain_areas.proofs.cells.add_pool.Goals as goal

pub loop-extent-init : goal.loop-extent-init
loop-extent-init c =
    let s = c.args.storage.now in
    let o = cell_pool s c.args.id in
    let first = c.first_cell_extent-place in
    let lines : ℕ → ℕ = λ cell. unwrap_or (number_in c.args.lines.now (cell / 4)) 0 in
    let old = c.args.cells.now.items in
    record {
      place = first.ensures.place;
      ends = all_end o c.cell_pool_settings.result (extents_left s first.result) c.requires first.ensures.end c.cell_pool_settings.ensures first.ensures.all;
      left = each o (Remain lines old old (extents_left s first.result))
          (λ its there. ap (λ xs. old ++ of_extents lines its xs) (fact_of (λ p. extents_left s first.result ≡ p.extents) o its there first.ensures.all));
    }

pub add_extent-requires-clause-pool : goal.add_extent-requires-clause-pool
add_extent-requires-clause-pool c =
    let o = cell_pool c.args.storage.now c.args.id in (
      c.requires,
      each o (λ its. (c.cell_pool_name-name.result.bytes ≡ its.name) × (c.cell_pool_settings.result ≡ its.settings))
          (λ its there. (
            fact_of (λ its. c.cell_pool_name-name.result.bytes ≡ its.name) o its there c.cell_pool_name-name.ensures,
            fact_of (λ its. c.cell_pool_settings.result ≡ its.settings) o its there c.cell_pool_settings.ensures,
          )),
    )

pub add_extent-requires-clause-end : goal.add_extent-requires-clause-end
add_extent-requires-clause-end c =
    let size = c.cell_pool_settings.result.size in
    end_fits size c.in-Some.extent
    (All-head (Ends size) c.in-Some.extent (extents_left c.args.storage.now c.in-Some.after) (subst (All (Ends size)) c.in-Some.ensures.next c.loop-extent.invariant.ends))

pub loop-extent-smaller : goal.loop-extent-smaller
loop-extent-smaller c =
    let s = c.args.storage.now in
    shorter (extents_left s c.loop-extent.place) (extents_left s c.in-Some.after) c.in-Some.extent c.in-Some.ensures.next

pub loop-extent-preserved : goal.loop-extent-preserved
loop-extent-preserved c =
    let s = c.args.storage.now in
    let o = cell_pool s c.args.id in
    let x = c.in-Some.extent in
    let settings = c.cell_pool_settings.result in
    let lines : ℕ → ℕ = λ cell. unwrap_or (number_in c.args.lines.now (cell / 4)) 0 in
    let old = c.args.cells.now.items in
    let now = c.loop-extent.cells.items in
    let new = c.add_extent.new.cells.items in
    let left = extents_left s c.loop-extent.place in
    let rest = extents_left s c.in-Some.after in
    record {
      place = c.in-Some.ensures.place;
      ends = All-tail (Ends settings.size) x rest (subst (All (Ends settings.size)) c.in-Some.ensures.next c.loop-extent.invariant.ends);
      left = each o (Remain lines old new rest)
          (λ its there.
          extent_added lines old now new x left rest its c.in-Some.ensures.next
          (subst (λ (z : CellSettings). new ≡ now ++ cells_among lines its.name (cell_pool_of its) (cells_from z.size x.start x.count))
          (fact_of (λ its. settings ≡ its.settings) o its there c.cell_pool_settings.ensures)
          (fact_of (λ its. new ≡ now ++ cells_among lines its.name (cell_pool_of its) (cells_from settings.size x.start x.count)) o its there c.in_ok-add_extent.ensures))
          (fact_of (Remain lines old now left) o its there c.loop-extent.invariant.left));
    }

pub returns : goal.returns
returns c =
    let s = c.args.storage.now in
    let o = cell_pool s c.args.id in
    let lines : ℕ → ℕ = λ cell. unwrap_or (number_in c.args.lines.now (cell / 4)) 0 in
    let old = c.args.cells.now.items in
    let now = c.loop-extent.cells.items in
    let left = extents_left s c.loop-extent.place in
    each o (λ its. now ≡ old ++ cells_in_use lines its.name (cell_pool_of its))
    (λ its there. sym (append-nil now) ∙ ap (λ xs. now ++ of_extents lines its xs) (sym c.in_default.ensures.none) ∙ fact_of (Remain lines old now left) o its there c.loop-extent.invariant.left)
