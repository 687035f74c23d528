use Rattle.std.proofs.Common.{◌≡◌, List, [], ◌∷◌, OnOk, refl, sym, ap, ◌∙◌, subst, length, ◌≤◌, arith, OnErr}
use Rattle.std.specs.Prelude.{map}
use Rattle.storage_changes.specs.declared.record.Record.{Record}
use Rattle.storage_changes.specs.Ending.{SightRow, ended_below, rows_with, unshared}
use Rattle.storage_swap.specs.Storage.{state_of}
use Rattle.storage_swap.specs.Builder.{Pushes}
use Rattle.storage_swap.proofs.BuilderLemmas.{builds-none, pushes-none}
use Rattle.task_plans.specs.Sights.{row_of}
use Rattle.task_plans.proofs.EmptyingRecords.{own_goes, others_goes, stays_goes}
use Rattle.storage_swap.specs.Growth.{MakesElements}
use Rattle.task_plans.proofs.end.push_unseen.Goals as goal

pub returns-then-is_own : goal.returns-then-is_own
returns-then-is_own c =
    let p = c.args.storage.now in
    let m = state_of p in
    let is = own_goes m.subpools (ended_below m.tasks.parents c.args.ending.now.tree.top) (row_of c.args.seen) (sym c.if-is_own.true ∙ c.is_own.ensures) in
    let done = c.push_sharers in
    let P : List SightRow → Type 0 = λ rows. OnOk done.result (Pushes p c.args.builder.now (map unshared rows) done.new.storage done.new.builder) in
    record {
      builds = done.ensures.builds;
      ok = subst P (sym is) done.ensures.ok;
      made = (let Q : List SightRow → Type 0 = λ rows. OnErr done.result (MakesElements p.elements done.new.storage.elements (length (map unshared rows))) in subst Q (sym is) done.ensures.made);
      needless = λ room. done.ensures.needless (let Q : List SightRow → Type 0 = λ rows. length (map unshared rows) ≤ p.elements.spare in subst Q is room);
    }

pub returns-then-is_ended : goal.returns-then-is_ended
returns-then-is_ended c =
    let p = c.args.storage.now in
    let m = state_of p in
    let is = others_goes m.subpools (ended_below m.tasks.parents c.args.ending.now.tree.top) (row_of c.args.seen) (sym c.if-is_own.false ∙ c.is_own.ensures) (sym c.if-is_ended.true ∙ c.is_ended.ensures) in
    let P : List SightRow → Type 0 = λ rows. Pushes p c.args.builder.now (map unshared rows) p c.args.builder.now in
    record {
      builds = builds-none _ _ c.requires.building;
      ok = subst P (sym is) (pushes-none p c.args.builder.now);
      made = tt;
      needless = λ room. refl;
    }

pub returns : goal.returns
returns c =
    let p = c.args.storage.now in
    let m = state_of p in
    let is : map unshared (rows_with m.subpools (ended_below m.tasks.parents c.args.ending.now.tree.top) (row_of c.args.seen)) ≡ c.unseen.result ∷ [] =
    ap (map unshared) (stays_goes m.subpools (ended_below m.tasks.parents c.args.ending.now.tree.top) (row_of c.args.seen) (sym c.if-is_own.false ∙ c.is_own.ensures) (sym c.if-is_ended.false ∙ c.is_ended.ensures))
    ∙ ap (λ (r : Record). r ∷ []) (sym c.unseen.ensures) in
    let done = c.push in
    let P : List Record → Type 0 = λ rs. OnOk done.result (Pushes p c.args.builder.now rs done.new.storage done.new.self) in
    record {
      builds = done.ensures.builds;
      ok = subst P (sym is) done.ensures.ok;
      made = (let Q : List Record → Type 0 = λ rs. OnErr done.result (MakesElements p.elements done.new.storage.elements (length rs)) in subst Q (sym is) done.ensures.made);
      needless = λ room. done.ensures.needless (omega (arith, room, ap length is));
    }
