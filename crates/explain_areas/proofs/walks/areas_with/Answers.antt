use Rattle.std.proofs.Common.{◌++◌, List, flat_map, length, append_assoc, sym, ap, ◌∙◌, arith}
use Rattle.std.proofs.lemmas.List.{append-nil}
use Rattle.vsm_model.specs.declared.Subpool.{Subpool}
use Rattle.storage_core.specs.Walks.{subpools_left}
use Rattle.explain_areas.specs.Areas.{areas_of}
use Rattle.explain_areas.specs.declared.parts.LineArea.{LineArea}
use Rattle.explain_areas.proofs.walks.areas_with.Goals as goal

pub loop-subpool-init : goal.loop-subpool-init
loop-subpool-init c =
    let s = c.args.storage.now in
    record {
      place = c.first_subpool_place-place.ensures.place s;
      areas = λ f lines.
          ap (λ xs. xs ++ flat_map (λ (p : Subpool). areas_of p (f p)) (subpools_left s c.first_subpool_place-place.result)) c.new-areas.ensures.items
          ∙ ap (flat_map (λ (p : Subpool). areas_of p (f p))) (c.first_subpool_place-place.ensures.all s);
    }

pub loop-subpool-smaller : goal.loop-subpool-smaller
loop-subpool-smaller c = let size = ap length c.in-Some.ensures.next in omega (arith, size)

pub loop-subpool-preserved : goal.loop-subpool-preserved
loop-subpool-preserved c =
    let s = c.args.storage.now in
    let old = c.loop-subpool.areas.items in
    record {
      place = c.in-Some.ensures.place;
      areas = λ f lines.
          let all : Subpool → List LineArea = λ (p : Subpool). areas_of p (f p) in
          let rest = flat_map all (subpools_left s c.in-Some.after) in
          ap (λ xs. xs ++ rest) (c.in_ok-add_subpool.ensures (f c.in-Some.subpool) (lines c.in-Some.subpool))
          ∙ append_assoc old (all c.in-Some.subpool) rest
          ∙ ap (λ ps. old ++ flat_map all ps) (sym c.in-Some.ensures.next)
          ∙ c.loop-subpool.invariant.areas f lines;
    }

pub returns : goal.returns
returns c = λ f lines.
    let all : Subpool → List LineArea = λ (p : Subpool). areas_of p (f p) in
    let items = c.loop-subpool.areas.items in
    sym (append-nil items) ∙ ap (λ ps. items ++ flat_map all ps) (sym c.in_default.ensures.none) ∙ c.loop-subpool.invariant.areas f lines
