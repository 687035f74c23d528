use Rattle.std.proofs.Common.{◌∷◌, flat_map, sym, ap, ◌∙◌}
use Rattle.vsm_model.specs.declared.Subpool.{Subpool}
use Rattle.storage_core.specs.Meaning.{state_in_place}
use Rattle.storage_core.specs.Walks.{subpools_left, subpool_before}
use Rattle.explain_report.proofs.Areas.{all_free_few, none_gathered, gathered_room, one_gathered, all_gathered, shorter}
use Rattle.explain_report.specs.Tallies.{tally_of}
use Rattle.explain_report.proofs.Shown.{areas_shown, subpools_shown}
use Rattle.explain_report.proofs.walks.all_free_areas.Goals as goal

pub loop-behind-init : goal.loop-behind-init
loop-behind-init c =
    let s = c.args.storage.now in
    record {
      place = c.first_subpool_place-place.ensures.place s;
      gathered = none_gathered (state_in_place s).subpools (subpools_left s c.first_subpool_place-place.result) (c.first_subpool_place-place.ensures.all s);
    }

pub with_free_areas-tally-requires-clause-total : goal.with_free_areas-tally-requires-clause-total
with_free_areas-tally-requires-clause-total c =
    let s = c.args.storage.now in
    (gathered_room (state_in_place s).subpools (subpools_left s c.loop-behind.place) (subpools_left s c.in-Some.behind) (subpool_before s c.in-Some.behind) c.loop-behind.tally
    (all_free_few c.totals_are_sums.ensures.few s) c.loop-behind.invariant.gathered
    (c.in-Some.ensures.next ∙ ap (λ (q : Subpool). q ∷ subpools_left s c.in-Some.behind) (sym c.in-Some.ensures.before))).0

pub with_free_areas-tally-requires-clause-count : goal.with_free_areas-tally-requires-clause-count
with_free_areas-tally-requires-clause-count c =
    let s = c.args.storage.now in
    (gathered_room (state_in_place s).subpools (subpools_left s c.loop-behind.place) (subpools_left s c.in-Some.behind) (subpool_before s c.in-Some.behind) c.loop-behind.tally
    (all_free_few c.totals_are_sums.ensures.few s) c.loop-behind.invariant.gathered
    (c.in-Some.ensures.next ∙ ap (λ (q : Subpool). q ∷ subpools_left s c.in-Some.behind) (sym c.in-Some.ensures.before))).1

pub loop-behind-smaller : goal.loop-behind-smaller
loop-behind-smaller c =
    let s = c.args.storage.now in
    shorter (subpools_left s c.loop-behind.place) (subpools_left s c.in-Some.behind) (subpool_before s c.in-Some.behind)
    (c.in-Some.ensures.next ∙ ap (λ (q : Subpool). q ∷ subpools_left s c.in-Some.behind) (sym c.in-Some.ensures.before))

pub loop-behind-preserved : goal.loop-behind-preserved
loop-behind-preserved c =
    let s = c.args.storage.now in
    record {
      place = c.in-Some.ensures.place;
      gathered =
          one_gathered (state_in_place s).subpools (subpools_left s c.loop-behind.place) (subpools_left s c.in-Some.behind) (subpool_before s c.in-Some.behind) c.loop-behind.tally _
          c.loop-behind.invariant.gathered
          (c.in-Some.ensures.next ∙ ap (λ (q : Subpool). q ∷ subpools_left s c.in-Some.behind) (sym c.in-Some.ensures.before)) c.with_free_areas-tally.ensures;
    }

pub returns : goal.returns
returns c =
    let s = c.args.storage.now in
    all_gathered (state_in_place s).subpools (subpools_left s c.loop-behind.place) c.loop-behind.tally c.loop-behind.invariant.gathered c.in_default.ensures.none
    ∙ (λ i. tally_of (flat_map (λ p. areas_shown s c.runs_are_shown.ensures.areas p i) (subpools_shown s i)))
