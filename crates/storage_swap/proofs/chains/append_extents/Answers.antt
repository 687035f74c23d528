use Rattle.std.proofs.Common.{◌≡◌, ◌<◌, List, length, Some, None, sym, ap, ◌∙◌, arith}
use Rattle.std.specs.Prelude.{slice_get}
use Rattle.vsm_elements.specs.Chain.{owned}
use Rattle.vsm_elements.proofs.OwnerLemmas.{calls_follow}
use Rattle.run_set.specs.Runs.{Run}
use Rattle.run_set.specs.RunSet.{place_index}
use Rattle.descriptor_queue.specs.Extents.{extents}
use Rattle.descriptor_queue.proofs.PageLemmas.{extent_places_stay}
use Rattle.storage_swap.specs.Beside.{records_of}
use Rattle.storage_swap.proofs.AppendLemmas.{beside, beside-apart, next-in, more, all-in, no-more}
use Rattle.storage_swap.proofs.chains.append_extents.Goals as goal

pub next_run-requires-clause-queue : goal.next_run-requires-clause-queue
next_run-requires-clause-queue c = (beside c.args.elements.now c.loop-run.elements (owned c.args.elements.now c.args.chain.now) (owned c.loop-run.elements c.loop-run.chain) c.args.emptied_extents c.loop-run.invariant.owned c.requires.extents c.requires.apart).0

pub append-before-requires-clause-room : goal.append-before-requires-clause-room
append-before-requires-clause-room c =
    let same : extents c.loop-run.elements c.args.emptied_extents ≡ extents c.args.elements.now c.args.emptied_extents = (beside c.args.elements.now c.loop-run.elements (owned c.args.elements.now c.args.chain.now) (owned c.loop-run.elements c.loop-run.chain) c.args.emptied_extents c.loop-run.invariant.owned c.requires.extents c.requires.apart).1 in
    let got : slice_get (extents c.args.elements.now c.args.emptied_extents) (place_index c.loop-run.place) ≡ Some c.in-Some.run' = ap (λ (rs : List Run). slice_get rs (place_index c.loop-run.place)) (sym same) ∙ sym c.in-Some.ensures.run in
    omega (arith, c.loop-run.invariant.spare, c.requires.room, more (extents c.args.elements.now c.args.emptied_extents) (place_index c.loop-run.place) c.in-Some.run' got)

pub loop-run-smaller : goal.loop-run-smaller
loop-run-smaller c =
    let same : extents c.loop-run.elements c.args.emptied_extents ≡ extents c.args.elements.now c.args.emptied_extents = (beside c.args.elements.now c.loop-run.elements (owned c.args.elements.now c.args.chain.now) (owned c.loop-run.elements c.loop-run.chain) c.args.emptied_extents c.loop-run.invariant.owned c.requires.extents c.requires.apart).1 in
    let got : slice_get (extents c.args.elements.now c.args.emptied_extents) (place_index c.loop-run.place) ≡ Some c.in-Some.run' = ap (λ (rs : List Run). slice_get rs (place_index c.loop-run.place)) (sym same) ∙ sym c.in-Some.ensures.run in
    omega (arith, c.in-Some.ensures.next.1, more (extents c.args.elements.now c.args.emptied_extents) (place_index c.loop-run.place) c.in-Some.run' got)

pub loop-run-preserved : goal.loop-run-preserved
loop-run-preserved c =
    let same : extents c.loop-run.elements c.args.emptied_extents ≡ extents c.args.elements.now c.args.emptied_extents = (beside c.args.elements.now c.loop-run.elements (owned c.args.elements.now c.args.chain.now) (owned c.loop-run.elements c.loop-run.chain) c.args.emptied_extents c.loop-run.invariant.owned c.requires.extents c.requires.apart).1 in
    let got : slice_get (extents c.args.elements.now c.args.emptied_extents) (place_index c.loop-run.place) ≡ Some c.in-Some.run' = ap (λ (rs : List Run). slice_get rs (place_index c.loop-run.place)) (sym same) ∙ sym c.in-Some.ensures.run in
    let less : place_index c.loop-run.place < length (extents c.args.elements.now c.args.emptied_extents) = more (extents c.args.elements.now c.args.emptied_extents) (place_index c.loop-run.place) c.in-Some.run' got in
    record {
      chain = c.append-before.ensures.chain;
      last = c.append-before.ensures.last;
      within = omega (arith, less, c.in-Some.ensures.next.1);
      place = extent_places_stay c.loop-run.elements c.append-before.new.elements (owned c.loop-run.elements c.loop-run.chain) (owned c.append-before.new.elements c.append-before.new.chain) c.args.emptied_extents c.in-Some.next c.append-before.ensures.owned
          (beside c.args.elements.now c.loop-run.elements (owned c.args.elements.now c.args.chain.now) (owned c.loop-run.elements c.loop-run.chain) c.args.emptied_extents c.loop-run.invariant.owned c.requires.extents c.requires.apart).0
          (beside-apart c.args.elements.now c.loop-run.elements (owned c.args.elements.now c.args.chain.now) (owned c.loop-run.elements c.loop-run.chain) c.args.emptied_extents c.loop-run.invariant.owned c.requires.extents c.requires.apart)
          c.in-Some.ensures.next.0;
      records = next-in (records_of c.args.elements.now c.args.chain.now) (records_of c.loop-run.elements c.loop-run.chain) (records_of c.append-before.new.elements c.append-before.new.chain) (extents c.args.elements.now c.args.emptied_extents) (place_index c.loop-run.place) (place_index c.in-Some.next) c.in-Some.run' c.loop-run.invariant.records got c.append-before.ensures.records c.in-Some.ensures.next.1;
      owned = calls_follow c.args.elements.now c.loop-run.elements c.append-before.new.elements (owned c.args.elements.now c.args.chain.now) (owned c.loop-run.elements c.loop-run.chain) (owned c.append-before.new.elements c.append-before.new.chain) c.loop-run.invariant.owned c.append-before.ensures.owned;
      spare = omega (arith, c.loop-run.invariant.spare, c.append-before.ensures.spare, c.in-Some.ensures.next.1);
    }

pub returns-clause-records : goal.returns-clause-records
returns-clause-records c =
    let same : extents c.loop-run.elements c.args.emptied_extents ≡ extents c.args.elements.now c.args.emptied_extents = (beside c.args.elements.now c.loop-run.elements (owned c.args.elements.now c.args.chain.now) (owned c.loop-run.elements c.loop-run.chain) c.args.emptied_extents c.loop-run.invariant.owned c.requires.extents c.requires.apart).1 in
    let none : slice_get (extents c.args.elements.now c.args.emptied_extents) (place_index c.loop-run.place) ≡ None = ap (λ (rs : List Run). slice_get rs (place_index c.loop-run.place)) (sym same) ∙ sym c.in_default.ensures.run in
    all-in (records_of c.args.elements.now c.args.chain.now) (records_of c.loop-run.elements c.loop-run.chain) (extents c.args.elements.now c.args.emptied_extents) (place_index c.loop-run.place) c.loop-run.invariant.records none

pub returns-clause-spare : goal.returns-clause-spare
returns-clause-spare c =
    let same : extents c.loop-run.elements c.args.emptied_extents ≡ extents c.args.elements.now c.args.emptied_extents = (beside c.args.elements.now c.loop-run.elements (owned c.args.elements.now c.args.chain.now) (owned c.loop-run.elements c.loop-run.chain) c.args.emptied_extents c.loop-run.invariant.owned c.requires.extents c.requires.apart).1 in
    let none : slice_get (extents c.args.elements.now c.args.emptied_extents) (place_index c.loop-run.place) ≡ None = ap (λ (rs : List Run). slice_get rs (place_index c.loop-run.place)) (sym same) ∙ sym c.in_default.ensures.run in
    omega (arith, c.loop-run.invariant.spare, c.loop-run.invariant.within, no-more (extents c.args.elements.now c.args.emptied_extents) (place_index c.loop-run.place) none)
