use Rattle.std.proofs.Common.{Bool, ◌||◌, length, sym, ap, ◌∙◌, arith}
use Rattle.std.specs.List.{list_any}
use Rattle.storage_core.proofs.Owners.{has, its_owner, no_owner}
use Rattle.storage_core.specs.Walks.{subpools_left}
use Rattle.storage_core.proofs.storage.Storage.subpool_of_page.Goals as goal

pub loop-subpool-init : goal.loop-subpool-init
loop-subpool-init c = record {
  place = c.first_subpool_place-place.ensures.place c.args.self.now;
  rest = ap (list_any (has c.args.self.now c.args.page)) (sym (c.first_subpool_place-place.ensures.all c.args.self.now));
}

pub next_subpool-requires : goal.next_subpool-requires
next_subpool-requires c = c.loop-subpool.invariant.place

pub loop-subpool-smaller : goal.loop-subpool-smaller
loop-subpool-smaller c = (let k = ap length c.in-Some.ensures.next in omega (arith, k))

pub loop-subpool-preserved : goal.loop-subpool-preserved
loop-subpool-preserved c =
    let s = c.args.self.now in
    let rest = list_any (has s c.args.page) (subpools_left s c.in-Some.after) in
    let its = ap (has s c.args.page) (sym c.in-Some.ensures.before) ∙ sym (c.extents_at-extents.ensures.pages c.args.page) ∙ sym c.contains.ensures in
    record {
      place = c.in-Some.ensures.place;
      rest = c.loop-subpool.invariant.rest ∙ ap (list_any (has s c.args.page)) c.in-Some.ensures.next
          ∙ ap (λ (b : Bool). b || rest) (its ∙ c.if-contains.false);
    }

pub returns-then-contains : goal.returns-then-contains
returns-then-contains c =
    let s = c.args.self.now in
    let its = ap (has s c.args.page) (sym c.in-Some.ensures.before) ∙ sym (c.extents_at-extents.ensures.pages c.args.page) ∙ sym c.contains.ensures in
    its_owner s c.args.page c.in-Some.subpool (its ∙ c.if-contains.true)

pub returns : goal.returns
returns c = no_owner c.args.self.now c.args.page (c.loop-subpool.invariant.rest ∙ ap (list_any (has c.args.self.now c.args.page)) c.in_default.ensures.none)
