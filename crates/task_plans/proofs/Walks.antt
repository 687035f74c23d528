-- Walks over the storage while a change of it is made: a place stays one, with what is left after it.
use Rattle.std.proofs.Common.{◌≡◌, ℕ, suc, ◌+◌, ◌<◌, ◌≤◌, Bool, true, false, List, [], ◌∷◌, ◌++◌, length, map, drop, Some, None, refl, sym, ap, ◌∙◌, subst, arith}
use Rattle.std.specs.Prelude.{filter, slice_get, if◌then◌else◌}
use Rattle.std.specs.List.{flat_map}
use Rattle.std.proofs.lemmas.Grind.{flat_map-append}
use Rattle.std.proofs.lemmas.List.{append-nil, map-append}
use Rattle.std.proofs.lemmas.Option.{slice_get_within}
use Rattle.vsm_elements.specs.Store.{at}
use Rattle.vsm_elements.specs.Owners.{times}
use Rattle.vsm_elements.proofs.TimesLemmas.{times-some}
use Rattle.run_set.specs.Runs.{Run}
use Rattle.run_set.specs.declared.places.RunPlace.{RunPlace}
use Rattle.run_set.specs.RunSet.{place_index}
use Rattle.descriptor_queue.specs.declared.extents.Extents.{Extents as TheExtents}
use Rattle.descriptor_queue.specs.Extents.{extents, IsExtents, IsPlace}
use Rattle.descriptor_queue.specs.Extents
use Rattle.descriptor_queue.proofs.PageLemmas.{extents_kept, extent_places_kept}
use Rattle.vsm_model.specs.declared.Subpool.{Subpool}
use Rattle.subpool_set.specs.declared.sharers.SharerPlace.{SharerPlace}
use Rattle.subpool_storage.specs.declared.storage.SubpoolStorage.{SubpoolStorage as TheSubpools}
use Rattle.subpool_storage.specs.SubpoolStorage.{sharers_left}
use Rattle.subpool_storage.specs.SubpoolStorage
use Rattle.subpool_storage.proofs.PlaceStays.{places_stay}
use Rattle.storage_changes.specs.declared.record.Record.{Record}
use Rattle.storage_changes.specs.declared.record.Record.TheVariants.{Pages}
use Rattle.storage_changes.specs.Changes.{unassigned_records}
use Rattle.storage_swap.specs.declared.storage.Parts.{Parts}
use Rattle.storage_swap.specs.Storage.{hold, state_of, Stand}
use Rattle.storage_swap.specs.declared.builder.ChangeBuilder.{ChangeBuilder}
use Rattle.storage_swap.specs.Builder.{IsBuilding, Keeps, Builds, Pushes}
use Rattle.storage_swap.proofs.BuilderLemmas.{Leads, leads-none, leads-all}
use Rattle.storage_changes.specs.State.{StorageState}
use Rattle.storage_changes.specs.Ending.{SightRow, ended_below, is_own, owned_in, seen_by_these, sharer_rows, emptying_records, removed, rows_with, unshared}
use Rattle.task_plans.specs.declared.sights.SightPlace.{SightPlace}
use Rattle.task_plans.specs.Sights.{seen_left}
use Rattle.task_plans.proofs.Rests.{drop_next, drop_none}
use Rattle.task_plans.proofs.Steps.{Next, next_is, next_more}

-- What a walk over the rows of sight adds: for rows, and for one of them.
pub record RowRecords : Type 0 where
  pub all : StorageState → List SightRow → List Record
  pub one : StorageState → SightRow → List Record
  pub first : (m : StorageState) (x : SightRow) (xs : List SightRow) → all m (x ∷ xs) ≡ one m x ++ all m xs
  pub none : (m : StorageState) → all m [] ≡ []

-- Of the records of what the tasks of a subtree see, those from the place on are left.
pub record Walk (g : RowRecords) (top : ℕ) (s : Parts) (a : ChangeBuilder) (t : Parts) (b : ChangeBuilder) (place : SightPlace) : Type 0 where
  pub leads : Leads s a (g.all (state_of s) (seen_by_these (state_of s).subpools (ended_below (state_of s).tasks.parents top))) t b (g.all (state_of s) (seen_left (state_of s) top place))

pub walk_none : {s : Parts} {a : ChangeBuilder} (g : RowRecords) (top : ℕ) (place : SightPlace) → IsBuilding s a
    → seen_left (state_of s) top place ≡ seen_by_these (state_of s).subpools (ended_below (state_of s).tasks.parents top) → Walk g top s a s a place
walk_none {s} {a} g top place building is =
    let all = g.all (state_of s) (seen_by_these (state_of s).subpools (ended_below (state_of s).tasks.parents top)) in
    let P : List SightRow → Type 0 = λ rows. Leads s a all s a (g.all (state_of s) rows) in
    record { leads = subst P (sym is) (leads-none s a all building) }

module _ {g : RowRecords} {top : ℕ} {s t : Parts} {a b : ChangeBuilder} {place : SightPlace} (w : Walk g top s a t b place) where
  abbrev all : List Record
  all = g.all (state_of s) (seen_by_these (state_of s).subpools (ended_below (state_of s).tasks.parents top))

  abbrev left : StorageState → SightPlace → List Record
  left m place = g.all m (seen_left m top place)

  -- the state stays as it is while a change of it is made
  same_left : (place : SightPlace) → left (state_of t) place ≡ left (state_of s) place
  same_left place = ap (λ (m : StorageState). left m place) w.leads.builds.keeps.shows

  pub walk_all : seen_left (state_of t) top place ≡ [] → Pushes s a all t b
  walk_all none = leads-all s t a b all (left (state_of s) place) w.leads (sym (same_left place) ∙ ap (g.all (state_of t)) none ∙ g.none (state_of t))

  -- to a place from which as much is left
  pub walk_over : (next : SightPlace) → left (state_of t) place ≡ left (state_of t) next → Walk g top s a t b next
  walk_over next is =
      let P : List Record → Type 0 = λ rs. Leads s a all t b rs in
      record { leads = subst P (sym (same_left place) ∙ is ∙ same_left next) w.leads }

  -- the next one
  module _ (next : SightPlace) {x : SightRow} (is : seen_left (state_of t) top place ≡ x ∷ seen_left (state_of t) top next) where
    pub walk_next : Next s a all t b (g.one (state_of t) x) (left (state_of s) next)
    walk_next =
        next_is w.leads (g.one (state_of t) x) (left (state_of s) next)
        (sym (same_left place) ∙ ap (g.all (state_of t)) is ∙ g.first (state_of t) x (seen_left (state_of t) top next) ∙ ap (λ (z : List Record). g.one (state_of t) x ++ z) (same_left next))

    pub walk_more : {u : Parts} {c : ChangeBuilder} → Builds t b u c → Pushes t b (g.one (state_of t) x) u c → Walk g top s a u c next
    walk_more builds pushes = record { leads = next_more walk_next builds pushes }

-- fewer are left after the next one
pub walk_less : {t u : Parts} {b c : ChangeBuilder} (top : ℕ) (place next : SightPlace) {x : SightRow} → seen_left (state_of t) top place ≡ x ∷ seen_left (state_of t) top next → Builds t b u c
    → length (seen_left (state_of u) top next) < length (seen_left (state_of t) top place)
walk_less top place next is more = omega (arith, ap length is, ap (λ (m : StorageState). length (seen_left m top next)) more.keeps.shows)

-- places among sharers, over elements that were taken next to the storage
module _ (t u : Parts) (f g : ℕ → ℕ) (k : Keeps t u f g) (stand : Stand t) where
  same-subpools : u.subpools ≡ t.subpools
  same-subpools = ap (λ (z : Parts). z.subpools) k.same

  its-kept : (i : ℕ) → 0 < SubpoolStorage.hold t.elements t.subpools i → at u.elements i ≡ at t.elements i
  its-kept i n = k.kept i (omega (arith, n))

  pub sharers_kept : (place : SharerPlace) (p : Subpool) → sharers_left u.elements u.subpools place p ≡ sharers_left t.elements t.subpools place p
  sharers_kept place p =
      let P : TheSubpools → Type 0 = λ q. sharers_left u.elements q place p ≡ sharers_left t.elements t.subpools place p in
      subst P (sym same-subpools) ((places_stay t.elements u.elements t.subpools stand.subpools its-kept).1 place p)

-- Of the records of the tasks that share a subpool, those after the place are left.
pub record SharersLead (p : Subpool) (s : Parts) (a : ChangeBuilder) (t : Parts) (b : ChangeBuilder) (place : SharerPlace) : Type 0 where
  pub leads : Leads s a (map unshared (sharer_rows (state_of s).subpools p)) t b (map unshared (map (λ task. (p, task)) (sharers_left t.elements t.subpools place p)))

module _ {p : Subpool} {s t : Parts} {a b : ChangeBuilder} {place : SharerPlace} (w : SharersLead p s a t b place) where
  abbrev some : List ℕ → List Record
  some tasks = map unshared (map (λ task. (p, task)) tasks)

  abbrev every : List Record
  every = map unshared (sharer_rows (state_of s).subpools p)

  pub sharers_all : sharers_left t.elements t.subpools place p ≡ [] → Pushes s a every t b
  sharers_all none = leads-all s t a b every (some (sharers_left t.elements t.subpools place p)) w.leads (ap some none)

  module _ (next : SharerPlace) {x : ℕ} (is : sharers_left t.elements t.subpools place p ≡ x ∷ sharers_left t.elements t.subpools next p) where
    pub sharers_next : (r : Record) → r ≡ unshared (p, x) → Next s a every t b (r ∷ []) (some (sharers_left t.elements t.subpools next p))
    sharers_next r its =
        next_is w.leads (r ∷ []) (some (sharers_left t.elements t.subpools next p)) (ap some is ∙ ap (λ (z : Record). z ∷ some (sharers_left t.elements t.subpools next p)) (sym its))

    pub sharers_more : {u : Parts} {c : ChangeBuilder} (r : Record) → r ≡ unshared (p, x) → Builds t b u c → Pushes t b (r ∷ []) u c → SharersLead p s a u c next
    sharers_more {u} {c} r its builds pushes =
        let k = sharers_kept t u _ _ builds.keeps w.leads.builds.building.ready.stands.storage next p in
        let P : List ℕ → Type 0 = λ xs. Leads s a every u c (some xs) in
        record { leads = subst P (sym k) (next_more (sharers_next r its) builds pushes) }

    pub sharers_less : {u : Parts} {c : ChangeBuilder} → Builds t b u c → length (sharers_left u.elements u.subpools next p) < length (sharers_left t.elements t.subpools place p)
    sharers_less {u} builds = omega (arith, ap length (sharers_kept t u _ _ builds.keeps w.leads.builds.building.ready.stands.storage next p), ap length is)

-- Of the records of extents, those after the place are left.
pub record ExtentsLead (all : List Run) (s : Parts) (a : ChangeBuilder) (t : Parts) (b : ChangeBuilder) (q : TheExtents) (place : RunPlace) : Type 0 where
  pub stand : IsExtents t.elements q
  pub runs : extents t.elements q ≡ all
  pub own : (i : ℕ) → times i (Extents.owned t.elements q) ≤ hold s i
  pub there : IsPlace t.elements q place
  pub within : place_index place ≤ length all
  pub leads : Leads s a (unassigned_records all) t b (unassigned_records (drop (place_index place) all))

-- elements that were taken next to the storage leave its extents
pub extents_over : (s t u : Parts) (f g : ℕ → ℕ) (q : TheExtents) → ((i : ℕ) → hold t i ≡ hold s i) → ((i : ℕ) → times i (Extents.owned t.elements q) ≤ hold s i) → IsExtents t.elements q → Keeps t u f g
    → IsExtents u.elements q × (extents u.elements q ≡ extents t.elements q) × ((i : ℕ) → times i (Extents.owned u.elements q) ≤ hold s i) × ((place : RunPlace) → IsPlace t.elements q place → IsPlace u.elements q place)
extents_over s t u f g q held own stand k =
    let r = extents_kept t.elements u.elements q stand (λ i m. k.kept i (omega (arith, times-some i (Extents.owned t.elements q) m, own i, held i))) in
    (r.0, r.1, λ i. omega (arith, ap (times i) r.3, own i), λ place there. extent_places_kept t.elements u.elements q place stand (λ i m. k.kept i (omega (arith, times-some i (Extents.owned t.elements q) m, own i, held i))) there)

module _ {all : List Run} {s t : Parts} {a b : ChangeBuilder} {q : TheExtents} {place : RunPlace} (w : ExtentsLead all s a t b q place) where
  pub extents_done : None ≡ slice_get (extents t.elements q) (place_index place) → Pushes s a (unassigned_records all) t b
  extents_done is =
      let none : slice_get all (place_index place) ≡ None = ap (λ (rs : List Run). slice_get rs (place_index place)) (sym w.runs) ∙ sym is in
      leads-all s t a b (unassigned_records all) (unassigned_records (drop (place_index place) all)) w.leads (ap unassigned_records (drop_none all (place_index place) none))

  -- the next one
  module _ {run : Run} (next : RunPlace) (is : Some run ≡ slice_get (extents t.elements q) (place_index place)) (behind : place_index next ≡ place_index place + 1) where
    abbrev added : List Record
    added = Pages (record { run = run; assigned = false }) ∷ []

    at-run : slice_get all (place_index place) ≡ Some run
    at-run = ap (λ (rs : List Run). slice_get rs (place_index place)) (sym w.runs) ∙ sym is

    pub extents_less : place_index place < length all
    extents_less = slice_get_within all (place_index place) run at-run

    pub extents_next : Next s a (unassigned_records all) t b added (unassigned_records (drop (place_index next) all))
    extents_next =
        let step : suc (place_index place) ≡ place_index next = omega (arith, behind) in
        next_is w.leads added (unassigned_records (drop (place_index next) all))
        (ap unassigned_records (drop_next all (place_index place) run at-run ∙ ap (λ (n : ℕ). run ∷ drop n all) step))

    pub extents_more : {u : Parts} {c : ChangeBuilder} → IsPlace t.elements q next → Builds t b u c → Pushes t b added u c → ExtentsLead all s a u c q next
    extents_more {u} there builds pushes =
        let r = extents_over s t u _ _ q w.leads.builds.keeps.held w.own w.stand builds.keeps in
        record {
          stand = r.0;
          runs = r.1 ∙ w.runs;
          own = r.2;
          there = r.3 next there;
          within = omega (arith, extents_less, behind);
          leads = next_more extents_next builds pushes;
        }

-- what one gives, of those that pass
module _ {A B : Type 0} (f : A → Bool) (g : A → List B) where
  pub passed_first : (x : A) (xs : List A) → flat_map g (filter f (x ∷ xs)) ≡ flat_map g (filter f (x ∷ [])) ++ flat_map g (filter f xs)
  passed_first x xs = go (f x) where
    go : (b : Bool) → flat_map g (if b then x ∷ filter f xs else filter f xs) ≡ flat_map g (if b then x ∷ [] else []) ++ flat_map g (filter f xs)
    go true = ap (λ (z : List B). z ++ flat_map g (filter f xs)) (sym (append-nil (g x)))
    go false = refl

-- what owners' own rows give, and all rows
pub owned_first : (x : SightRow) (xs : List SightRow) → owned_in (x ∷ xs) ≡ owned_in (x ∷ []) ++ owned_in xs
owned_first x xs = go (is_own x) where
  go : (b : Bool) → map (λ (row : SightRow). row.0) (if b then x ∷ filter is_own xs else filter is_own xs) ≡ map (λ (row : SightRow). row.0) (if b then x ∷ [] else []) ++ owned_in xs
  go true = refl
  go false = refl

-- The three walks: subpools are emptied, if the task owns what it sees; they are removed; and tasks no longer see others'.
abbrev pub released_rows : RowRecords
released_rows = record {
  all = λ m rows. flat_map (emptying_records m.subpools) (owned_in rows);
  one = λ m x. flat_map (emptying_records m.subpools) (owned_in (x ∷ []));
  first = λ m x xs. ap (flat_map (emptying_records m.subpools)) (owned_first x xs) ∙ flat_map-append (emptying_records m.subpools) (owned_in (x ∷ [])) (owned_in xs);
  none = λ m. refl;
}

abbrev pub removed_rows : RowRecords
removed_rows = record {
  all = λ m rows. map removed (owned_in rows);
  one = λ m x. map removed (owned_in (x ∷ []));
  first = λ m x xs. ap (map removed) (owned_first x xs) ∙ map-append removed (owned_in (x ∷ [])) (owned_in xs);
  none = λ m. refl;
}

abbrev pub unshared_rows : ℕ → RowRecords
unshared_rows top = record {
  all = λ m rows. map unshared (flat_map (rows_with m.subpools (ended_below m.tasks.parents top)) rows);
  one = λ m x. map unshared (rows_with m.subpools (ended_below m.tasks.parents top) x);
  first = λ m x xs. map-append unshared (rows_with m.subpools (ended_below m.tasks.parents top) x) (flat_map (rows_with m.subpools (ended_below m.tasks.parents top)) xs);
  none = λ m. refl;
}
