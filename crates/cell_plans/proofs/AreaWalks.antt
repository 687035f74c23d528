-- Walks over the areas of a cell pool's extents, and the records by which they are given back.
use Rattle.std.proofs.Common.{◌≡◌, ℕ, zero, suc, ◌+◌, ◌-◌, ◌<◌, ◌≤◌, ◌*◌, ◌^◌, Bool, true, false, ◌||◌, List, [], ◌∷◌, ◌++◌, length, length-append, length-drop, get_or, take, drop, map, Option, Some, None, IfSome, refl, sym, ap, ◌∙◌, subst, arith}
use Rattle.std.specs.Prelude.{slice_get}
use Rattle.std.proofs.Math.Seq.{drop-cons}
use Rattle.std.proofs.lemmas.List.{drop_all, append_assoc, append-nil}
use Rattle.vsm_elements.specs.Store.{Store, live_count, made}
use Rattle.vsm_elements.specs.Ownership.{Leaves}
use Rattle.vsm_elements.specs.Owners.{times, Moves}
use Rattle.free_queue.specs.declared.queue.FreeQueue.{FreeQueue}
use Rattle.free_queue.specs.FreeQueue.{is_free, owned, IsFreeQueue}
use Rattle.run_set.specs.Runs.{Run, inside, contains}
use Rattle.vsm_model.specs.declared.Subpool.{Subpool}
use Rattle.cell_pool.specs.declared.settings.Extent.{Extent}
use Rattle.cell_pool.specs.declared.settings.CellSettings.{CellSettings as PoolSettings}
use Rattle.cell_pool.specs.Pools.{Pool}
use Rattle.subpool_storage.specs.Subpools.{Subpools, with_free}
use Rattle.storage_changes.specs.declared.record.Record.{Record}
use Rattle.storage_changes.specs.State.{StorageState}
use Rattle.storage_swap.specs.declared.storage.Parts.{Parts}
use Rattle.storage_swap.specs.Storage.{state_of}
use Rattle.storage_swap.specs.declared.builder.ChangeBuilder.{ChangeBuilder}
use Rattle.storage_swap.specs.Builder.{records_in, parked_in, IsBuilding, Builds, Pushes}
use Rattle.storage_swap.specs.Growth.{MakesElements}
use Rattle.storage_swap.proofs.KeptLemmas.{over}
use Rattle.storage_swap.proofs.AsideLemmas.{made-same, aside-same}
use Rattle.storage_swap.proofs.BuilderLemmas.{Leads, leads-all, leads-room, makes-follow}
use Rattle.storage_changes.specs.CellActions.{extents_given_back}
use Rattle.cell_plans.specs.Areas.{areas_of}
use Rattle.cell_plans.specs.CellPlans.{pool_given_back, extents_of_pool, CanBeDeleted}
use Rattle.cell_plans.specs.Emptied.{area_of, area_given_back, freed}
use Rattle.cell_plans.specs.Noted.{noted_count, AreNoted, BuildsBeside, NotesOne, PushesBeside}
use Rattle.cell_plans.proofs.FreeEnds.{behind, none_behind}
use Rattle.cell_plans.proofs.GivenAreas.{freed_more}
use Rattle.cell_plans.proofs.NotedLemmas.{leaves-live, none-noted, stays-free, stays-count, noted-records, noted-parked, noted-builds, gone-moves, builds-on}

-- the first ones, and the next
pub next_taken : (xs : List Run) (i : ℕ) (x : Run) → slice_get xs i ≡ Some x → take (i + 1) xs ≡ take i xs ++ x ∷ []
next_taken [] i x e = cc
next_taken (y ∷ ys) zero x e = let same : y ≡ x = cc in ap (λ (z : Run). z ∷ []) same
next_taken (y ∷ ys) (suc i) x e =
    let n : suc i + 1 ≡ suc (i + 1) = omega arith in
    ap (λ (k : ℕ). take k (y ∷ ys)) n ∙ ap (λ (zs : List Run). y ∷ zs) (next_taken ys i x e)

pub next_dropped : (xs : List Run) (i : ℕ) (x : Run) → slice_get xs i ≡ Some x → drop i xs ≡ x ∷ drop (i + 1) xs
next_dropped xs i x e = let n : suc i ≡ i + 1 = omega arith in behind xs i x e ∙ ap (λ (k : ℕ). x ∷ drop k xs) n

pub at_within : (xs : List Run) (i : ℕ) (x : Run) → slice_get xs i ≡ Some x → i < length xs
at_within [] i x e = cc
at_within (y ∷ ys) zero x e = omega arith
at_within (y ∷ ys) (suc i) x e = let k = at_within ys i x e in omega (arith, k)

pub past_all : (xs : List Run) (i : ℕ) → slice_get xs i ≡ None → length xs ≤ i
past_all [] i e = omega arith
past_all (y ∷ ys) zero e = cc
past_all (y ∷ ys) (suc i) e = let k = past_all ys i e in omega (arith, k)

-- a refusal that can't be
pub never : {P : Type 0} → false ≡ true → P
never h = absurd cc

some-left : (n k m : ℕ) → k < n → n - k ≤ m → 0 < m
some-left n k m less h = omega arith

-- the next record of a list
pub next_record : (rs : List Record) (k : ℕ) (d : Record) → k < length rs → drop k rs ≡ (get_or rs k d ∷ []) ++ drop (k + 1) rs
next_record rs k d less = let next : suc k ≡ k + 1 = omega arith in drop-cons rs k d less ∙ ap (λ (n : ℕ). get_or rs k d ∷ drop n rs) next

-- Of these records, those from k on are left.
module _ (p t : Parts) (a b : ChangeBuilder) (rs : List Record) (k : ℕ) (w : Leads p a rs t b (drop k rs)) where
  pub records_done : length rs ≤ k → Pushes p a rs t b
  records_done h = leads-all p t a b rs (drop k rs) w (drop_all k rs h)

  pub record_room : k < length rs → length rs ≤ p.elements.spare → 0 < t.elements.spare
  record_room less h = some-left (length rs) k t.elements.spare less (subst (λ (n : ℕ). n ≤ t.elements.spare) (length-drop k rs) (leads-room p t a b rs (drop k rs) w h))

  -- the next one is refused
  pub record_refused : (e : Store) → k < length rs → MakesElements t.elements e 1 → MakesElements p.elements e (length rs)
  record_refused e less m =
      let some : 1 ≤ length (drop k rs) = omega (arith, length-drop k rs, less) in
      makes-follow (made p.elements) (made t.elements) (made e) (live_count p.elements) (live_count t.elements) (length rs) 1 (length rs) w.made (omega (arith, w.live, some)) (omega arith) m

-- the records by which areas are given back, the first of them first
abbrev pub areas_given_back : Subpools → Subpool → List Run → List Record
areas_given_back m p [] = []
areas_given_back m p (area ∷ areas) = area_given_back m p area ++ areas_given_back (with_free m p area true) p areas

extents_as_areas : (m : Subpools) (p : Subpool) (size : ℕ) (xs : List Extent) → areas_given_back m p (map (area_of size) xs) ≡ extents_given_back m p size xs
extents_as_areas m p size [] = refl
extents_as_areas m p size (x ∷ xs) =
    ap (λ (rs : List Record). area_given_back m p (area_of size x) ++ rs) (extents_as_areas (with_free m p (area_of size x) true) p size xs)

pub pool_as_areas : (m : Subpools) (p : Subpool) (o : Option Pool) → IfSome o (λ q. p ≡ q.settings.subpool) → areas_given_back m p (areas_of o) ≡ pool_given_back m o
pool_as_areas m p None its = refl
pool_as_areas m p (Some q) its =
    extents_as_areas m p q.settings.size q.extents ∙ ap (λ (z : Subpool). extents_given_back m z q.settings.size q.extents) its

-- which subpool they belong to
whose : (o : Option Pool) (its : PoolSettings) → IfSome o (λ q. its ≡ q.settings) → IfSome o (λ q. its.subpool ≡ q.settings.subpool)
whose None its h = h
whose (Some q) its h = ap (λ (z : PoolSettings). z.subpool) h

pub its_subpool : (o r : Option Pool) (its : PoolSettings) → o ≡ r → IfSome o (λ q. its ≡ q.settings) → IfSome r (λ q. its.subpool ≡ q.settings.subpool)
its_subpool o r its e h =
    let P : Option Pool → Type 0 = λ z. IfSome z (λ q. its.subpool ≡ q.settings.subpool) in
    subst P e (whose o its h)

mapped_length : (size : ℕ) (xs : List Extent) → length (map (area_of size) xs) ≡ length xs
mapped_length size [] = refl
mapped_length size (x ∷ xs) = let k = mapped_length size xs in omega (arith, k)

pub areas_count : (o : Option Pool) → length (areas_of o) ≡ extents_of_pool o
areas_count None = refl
areas_count (Some q) = mapped_length q.settings.size q.extents

-- as many as are needed, by the areas and by the extents
pub as_needed : {k l m n : ℕ} → k ≡ l → m ≡ n → k + (4 * m + 1) ≡ l + (4 * n + 1)
as_needed a b = λ i. a i + (4 * b i + 1)

-- the cell pool can still be deleted, while records of the change are added
pub still_can : (s t : Parts) (pool : ℕ) → state_of t ≡ state_of s → CanBeDeleted (state_of s) (record { pool = pool }) → CanBeDeleted (state_of t) (record { pool = pool })
still_can s t pool same can = let P : StorageState → Type 0 = λ m. CanBeDeleted m (record { pool = pool }) in subst P (sym same) can

-- all areas of a cell pool, their records, and those of the areas after the first ones
abbrev pub all_areas : ℕ → Parts → List Run
all_areas pool s = areas_of ((state_of s).subpools.cells pool)

abbrev pub whole_records : Subpool → ℕ → Parts → List Record
whole_records p pool s = areas_given_back (state_of s).subpools p (all_areas pool s)

abbrev pub records_from : Subpool → ℕ → Parts → ℕ → List Record
records_from p pool s count = areas_given_back (freed (state_of s).subpools p (take count (all_areas pool s))) p (drop count (all_areas pool s))

-- another area also has its doublewords
or-swap : (a b c : Bool) → (a || (b || c)) ≡ (b || (a || c))
or-swap true true c = refl
or-swap true false c = refl
or-swap false b c = refl

contains-more : (xs : List Run) (x : Run) (d : ℕ) → contains d (xs ++ x ∷ []) ≡ (inside d x || contains d xs)
contains-more [] x d = refl
contains-more (y ∷ ys) x d = ap (λ b. inside d y || b) (contains-more ys x d) ∙ or-swap (inside d y) (inside d x) (contains d ys)

-- Of the areas, this many were given back, and are noted in a queue. Room is made for at most as many elements as there
-- are records and blank elements.
pub record AreasLead (p : Subpool) (pool : ℕ) (s : Parts) (a : ChangeBuilder) (t : Parts) (b : ChangeBuilder) (count : ℕ) (q : FreeQueue) : Type 0 where
  pub builds : BuildsBeside s a t b q
  pub records : records_in t b ++ records_from p pool s count ≡ records_in s a ++ whole_records p pool s
  pub parked : parked_in t b ≡ parked_in s a
  pub spare : s.elements.spare + length (records_from p pool s count) ≤ t.elements.spare + length (whole_records p pool s) + noted_count t q
  pub live : live_count t.elements + length (records_from p pool s count) ≤ live_count s.elements + length (whole_records p pool s) + noted_count t q
  pub made : MakesElements s.elements t.elements (length (whole_records p pool s) + (4 * length (all_areas pool s) + 1))
  pub held : noted_count t q ≤ count
  pub same : (d : ℕ) → is_free t.elements q d ≡ contains d (take count (all_areas pool s))
  pub within : count ≤ length (all_areas pool s)
  pub few : count < 2 ^ 30

module _ (p : Subpool) (pool : ℕ) (s : Parts) (a : ChangeBuilder) where
  abbrev m : StorageState
  m = state_of s

  abbrev all : List Run
  all = all_areas pool s

  abbrev whole : List Record
  whole = whole_records p pool s

  abbrev rest_from : ℕ → List Record
  rest_from count = records_from p pool s count

  pub areas_none : (q : FreeQueue) → IsBuilding s a → IsFreeQueue s.elements q → ((d : ℕ) → is_free s.elements q d ≡ false) → owned s.elements q ≡ [] → AreasLead p pool s a s a 0 q
  areas_none q building stand free none = record {
    builds = none-noted s a q building stand none;
    records = refl;
    parked = refl;
    spare = omega arith;
    live = omega arith;
    made = omega arith;
    held = omega (arith, ap length none);
    same = free;
    within = omega arith;
    few = omega arith;
  }

  module _ (t : Parts) (b : ChangeBuilder) (count : ℕ) (q : FreeQueue) (w : AreasLead p pool s a t b count q) where
    abbrev now : List Run
    now = areas_of ((state_of t).subpools.cells pool)

    same_areas : now ≡ all
    same_areas = ap (λ (x : StorageState). areas_of (x.subpools.cells pool)) w.builds.keeps.shows

    -- they are what is noted
    pub first_noted : AreNoted t (record { pool = pool; count = count; areas = q })
    first_noted = record {
      queue = w.builds.beside.queue;
      same = λ d. w.same d ∙ sym (ap (λ (xs : List Run). contains d (take count xs)) same_areas);
    }

    pub all_came : slice_get now count ≡ None → PushesBeside s a whole (noted_count t q) (4 * length all + 1) t b
    all_came none =
        let over : slice_get all count ≡ None = ap (λ (xs : List Run). slice_get xs count) (sym same_areas) ∙ none in
        let left : rest_from count ≡ [] = ap (areas_given_back (freed m.subpools p (take count all)) p) (none_behind all count over) in
        record {
          records = sym (append-nil (records_in t b)) ∙ ap (λ (z : List Record). records_in t b ++ z) (sym left) ∙ w.records;
          parked = w.parked;
          spare = omega (arith, w.spare);
          live = omega (arith, w.live);
          made = w.made;
        }

    pub all_counted : slice_get now count ≡ None → count ≡ length all
    all_counted none =
        let over : slice_get all count ≡ None = ap (λ (xs : List Run). slice_get xs count) (sym same_areas) ∙ none in
        let past = past_all all count over in
        omega (arith, past, w.within)

    -- the next one
    module _ (area : Run) (is : slice_get now count ≡ Some area) where
      here : slice_get all count ≡ Some area
      here = ap (λ (xs : List Run). slice_get xs count) (sym same_areas) ∙ is

      pub is_one_more : count < length all
      is_one_more = at_within all count area here

      abbrev added_by : StorageState → List Record
      added_by x = area_given_back (freed x.subpools p (take count (areas_of (x.subpools.cells pool)))) p area

      abbrev added : List Record
      added = added_by (state_of t)

      front : rest_from count ≡ added ++ rest_from (count + 1)
      front =
          ap (areas_given_back (freed m.subpools p (take count all)) p) (next_dropped all count area here)
          ∙ ap (λ (u : Subpools). added_by m ++ areas_given_back u p (drop (count + 1) all))
          (sym (ap (freed m.subpools p) (next_taken all count area here) ∙ freed_more m.subpools p (take count all) area))
          ∙ ap (λ (x : StorageState). added_by x ++ rest_from (count + 1)) (sym w.builds.keeps.shows)

      lengths : length (rest_from count) ≡ length added + length (rest_from (count + 1))
      lengths = ap length front ∙ length-append added (rest_from (count + 1))

      -- its records are refused
      pub area_refused : (e : Store) → MakesElements t.elements e (length added) → MakesElements s.elements e (length whole + (4 * length all + 1))
      area_refused e refused =
          makes-follow (made s.elements) (made t.elements) (made e) (live_count s.elements) (live_count t.elements)
          (length whole + (4 * length all + 1)) (length added) (length whole + (4 * length all + 1)) w.made (omega (arith, w.live, lengths, w.held, w.within)) (omega arith) refused

      pub area_room : length whole + (4 * length all + 1) ≤ s.elements.spare → length added ≤ t.elements.spare
      area_room room = omega (arith, w.spare, room, lengths, w.held, w.within)

      -- its records were added
      module _ (u : Parts) (c : ChangeBuilder) (k : Builds t b u c) where
        pub pushed_builds : BuildsBeside s a u c q
        pushed_builds = builds-on s a t b q w.builds u c k

        count_stays : noted_count u q ≡ noted_count t q
        count_stays = stays-count t b q w.builds.beside u c k

        module _ (pushes : Pushes t b added u c) where
          pub note_room : length whole + (4 * length all + 1) ≤ s.elements.spare → 2 ≤ u.elements.spare
          note_room room = omega (arith, w.spare, room, lengths, w.held, is_one_more, pushes.spare)

          pushed_made : MakesElements s.elements u.elements (length whole + (4 * length all + 1))
          pushed_made =
              makes-follow (made s.elements) (made t.elements) (made u.elements) (live_count s.elements) (live_count t.elements)
              (length whole + (4 * length all + 1)) (length added) (length whole + (4 * length all + 1)) w.made
              (omega (arith, w.live, lengths, w.held, w.within)) (omega arith) pushes.made

          -- or it can't be noted
          pub note_refused : (e : Store) → MakesElements u.elements e 2 → MakesElements s.elements e (length whole + (4 * length all + 1))
          note_refused e refused =
              makes-follow (made s.elements) (made u.elements) (made e) (live_count s.elements) (live_count u.elements)
              (length whole + (4 * length all + 1)) 2 (length whole + (4 * length all + 1)) pushed_made
              (omega (arith, w.live, lengths, pushes.live, w.held, is_one_more)) (omega arith) refused

          pub pushed_records : records_in u c ++ rest_from (count + 1) ≡ records_in s a ++ whole
          pushed_records =
              ap (λ (z : List Record). z ++ rest_from (count + 1)) pushes.records ∙ append_assoc (records_in t b) added (rest_from (count + 1))
              ∙ ap (λ (z : List Record). records_in t b ++ z) (sym front) ∙ w.records

          -- and it was noted
          module _ (e : Store) (r : FreeQueue) (stand : IsFreeQueue e r) (moves : Moves u.elements e (λ i. times i (owned u.elements q)) (λ i. times i (owned e r))) (kept : e.aside ≡ u.elements.aside) where
            pub noted_so : BuildsBeside s a (over u e) c r
            noted_so = noted-builds s a u c q pushed_builds e r stand moves kept

            pub area_more :
                count + 1 < 2 ^ 30 → ((d : ℕ) → is_free e r d ≡ (inside d area || is_free u.elements q d))
                → NotesOne u.elements e (noted_count u q) (length (owned e r)) → AreasLead p pool s a (over u e) c (count + 1) r
            area_more small set one = record {
              builds = noted_so;
              records = ap (λ (z : List Record). z ++ rest_from (count + 1)) (noted-records u c q pushed_builds.beside e (λ i. times i (owned e r)) moves kept) ∙ pushed_records;
              parked = noted-parked u c q pushed_builds.beside e (λ i. times i (owned e r)) moves kept ∙ pushes.parked ∙ w.parked;
              spare = omega (arith, w.spare, lengths, pushes.spare, one.spare, count_stays);
              live = omega (arith, w.live, lengths, pushes.live, one.live, count_stays);
              made =
                  makes-follow (made s.elements) (made u.elements) (made e) (live_count s.elements) (live_count u.elements)
                  (length whole + (4 * length all + 1)) 2 (length whole + (4 * length all + 1)) pushed_made
                  (omega (arith, w.live, lengths, pushes.live, w.held, is_one_more)) (omega arith) one.made;
              held = omega (arith, one.few, count_stays, w.held);
              same = λ d.
                  set d ∙ ap (λ b. inside d area || b) (stays-free t b q w.builds.beside u c k d ∙ w.same d)
                  ∙ sym (ap (contains d) (next_taken all count area here) ∙ contains-more (take count all) area d);
              within = omega (arith, is_one_more);
              few = small;
            }

-- The queue is gone.
module _ (s : Parts) (a : ChangeBuilder) (added : List Record) (room : ℕ) (t : Parts) (b : ChangeBuilder) (q : FreeQueue) (w : BuildsBeside s a t b q) (e : Store)
    (f : Leaves t.elements e (owned t.elements q) []) (within : noted_count t q ≤ live_count t.elements) where
  pub all_gone : PushesBeside s a added (noted_count t q) room t b → PushesBeside s a added 0 room (over t e) b
  all_gone k = record {
    records = noted-records t b q w.beside e (λ i. 0) (gone-moves s a t b q w e f) (aside-same t.elements e f.as_many) ∙ k.records;
    parked = noted-parked t b q w.beside e (λ i. 0) (gone-moves s a t b q w e f) (aside-same t.elements e f.as_many) ∙ k.parked;
    spare = omega (arith, k.spare, f.spare);
    live = omega (arith, k.live, leaves-live t.elements e (owned t.elements q) [] f within);
    made = omega (arith, k.made, made-same t.elements e f.as_many);
  }

  -- that much was made before, and nothing then
  pub still_made : (n : ℕ) → MakesElements s.elements t.elements n → MakesElements s.elements e n
  still_made n k = omega (arith, k, made-same t.elements e f.as_many)

-- records before and after
pub pushed-before : (s t u : Parts) (a b c : ChangeBuilder) (xs ys : List Record) (room : ℕ) → Pushes s a xs t b → PushesBeside t b ys 0 room u c → PushesBeside s a (xs ++ ys) 0 room u c
pushed-before s t u a b c xs ys room p q = record {
  records = q.records ∙ ap (λ (z : List Record). z ++ ys) p.records ∙ append_assoc (records_in s a) xs ys;
  parked = q.parked ∙ p.parked;
  spare = omega (arith, p.spare, q.spare, length-append xs ys);
  live = omega (arith, p.live, q.live, length-append xs ys);
  made = makes-follow (made s.elements) (made t.elements) (made u.elements) (live_count s.elements) (live_count t.elements) (length xs) (length ys + room) (length (xs ++ ys) + room) p.made (omega (arith, p.live, length-append xs ys)) (omega (arith, length-append xs ys)) q.made;
}

pub pushed-behind : (s t u : Parts) (a b c : ChangeBuilder) (xs ys : List Record) (room : ℕ) → PushesBeside s a xs 0 room t b → Pushes t b ys u c → PushesBeside s a (xs ++ ys) 0 room u c
pushed-behind s t u a b c xs ys room p q = record {
  records = q.records ∙ ap (λ (z : List Record). z ++ ys) p.records ∙ append_assoc (records_in s a) xs ys;
  parked = q.parked ∙ p.parked;
  spare = omega (arith, p.spare, q.spare, length-append xs ys);
  live = omega (arith, p.live, q.live, length-append xs ys);
  made = makes-follow (made s.elements) (made t.elements) (made u.elements) (live_count s.elements) (live_count t.elements) (length xs + room) (length ys) (length (xs ++ ys) + room) p.made (omega (arith, p.live, length-append xs ys)) (omega (arith, length-append xs ys)) q.made;
}
