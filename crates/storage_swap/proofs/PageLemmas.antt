-- A run of pages was assigned, or unassigned with its frames given to the change.
use Rattle.std.proofs.Common.{◌≡◌, ℕ, ◌+◌, ◌*◌, ◌/◌, ◌%◌, ◌<◌, ◌≤◌, ◌⊎◌, inl, inr, Bool, true, false, not, ◌&&◌, ◌||◌, None, Some, Option, IsSome, IsTrue, if◌then◌else◌, List, length, refl, ap, sym, subst, ◌∙◌, arith}
use Rattle.std.specs.Prelude.{nat_lt}
use Rattle.std.specs.Option.{option_or}
use Rattle.std.proofs.lemmas.Bool.{cases_lt}
use Rattle.vsm_elements.specs.Store.{Store}
use Rattle.vsm_elements.specs.Owners.{times, Moves}
use Rattle.vsm_elements.specs.Ownership.{Leaves}
use Rattle.vsm_elements.proofs.MoveLemmas.{moves-of}
use Rattle.run_set.specs.Runs.{Run, inside}
use Rattle.run_set.specs.Counts.{joins}
use Rattle.run_set.proofs.RunLemmas.{inside_true, true_inside, not_both}
use Rattle.descriptor_queue.specs.declared.pages.Pages.{Pages as PageSet}
use Rattle.descriptor_queue.specs.Pages.{is_unassigned, IsPages}
use Rattle.descriptor_queue.specs.Pages
use Rattle.raw_region.specs.Frames.{PageFrame}
use Rattle.raw_region.specs.Pages.{Pages as Tables, byte_at, byte_of, bytes_at, has_table, SameTables, Counts}
use Rattle.raw_region.specs.Parked.{held_at, Parks}
use Rattle.raw_region.proofs.ForCallers.{byte_at-same, byte_at-assigned, byte_at-unassigned}
use Rattle.subpool_storage.specs.declared.storage.SubpoolStorage.{SubpoolStorage as Head}
use Rattle.storage_changes.specs.declared.record.PagesRecord.{PagesRecord}
use Rattle.storage_changes.specs.declared.record.Record.TheVariants.{Pages as Assignment}
use Rattle.storage_changes.specs.Steps.{pages_step}
use Rattle.storage_changes.specs.Fits.{PagesFits}
use Rattle.storage_swap.specs.declared.storage.Parts.{Parts}
use Rattle.storage_swap.specs.Storage.{walk_of, byte_held, StandsWith}
use Rattle.storage_swap.specs.Exchange.{HavePlaces, Exchanges}
use Rattle.storage_changes.proofs.Cases.{cond-in, cond-out}
use Rattle.storage_swap.proofs.WalkLemmas.{walk-by-places, joined-if, left-if, not-masked, no-byte}
use Rattle.storage_swap.proofs.CallLemmas.{pages-subpools, pages-tasks, pages-parked, pages-stand, pages-move}
use Rattle.storage_swap.proofs.SubpoolLemmas.{tables-same}

-- What a byte is, and whether a change brings it, by whether its page is unassigned before (o) and after (x) a call on
-- a run of pages that has the page or not (b).

masked-in : (x b o : Bool) (y : Option ℕ) → x ≡ (if b then false else o) → (b ≡ true → o ≡ true) → (if x then None else y) ≡ (if b then (if o then y else None) else (if o then None else y))
masked-in x true o y e h = ap (λ (z : Bool). if z then None else y) e ∙ sym (cond-in o y None (h refl))
masked-in x false o y e h = ap (λ (z : Bool). if z then None else y) e

brought-in : (x b o : Bool) (y : Option ℕ) → x ≡ (if b then false else o) → (if x then y else None) ≡ (if b then None else (if o then y else None))
brought-in x true o y e = ap (λ (z : Bool). if z then y else None) e
brought-in x false o y e = ap (λ (z : Bool). if z then y else None) e

masked-out : (x b o : Bool) (y z : Option ℕ) → x ≡ (if b then true else o) → (b ≡ false → z ≡ y) → (if x then None else z) ≡ (if b then None else (if o then None else y))
masked-out x true o y z e h = ap (λ (c : Bool). if c then None else z) e
masked-out x false o y z e h = ap (λ (c : Bool). if c then None else z) e ∙ ap (λ (c : Option ℕ). if o then None else c) (h refl)

brought-out : (x b o : Bool) (y z : Option ℕ) → x ≡ (if b then true else o) → (b ≡ true → z ≡ None) → (b ≡ false → z ≡ y) → (if x then z else None) ≡ (if b then None else (if o then y else None))
brought-out x true o y z e h k = ap (λ (c : Bool). if c then z else None) e ∙ h refl
brought-out x false o y z e h k = ap (λ (c : Bool). if c then z else None) e ∙ ap (λ (c : Option ℕ). if o then c else None) (k refl)

given-in : (b : Bool) (g : Option ℕ) → (b ≡ true → g ≡ None) → g ≡ (if b then None else g)
given-in true g h = h refl
given-in false g h = refl

given-out : (b o : Bool) (g g' y : Option ℕ) → (b ≡ true → o ≡ false) → (b ≡ true → g' ≡ y) → (b ≡ false → g' ≡ g) → g' ≡ (if b then (if o then None else y) else g)
given-out true o g g' y h k l = k refl ∙ sym (cond-out o None y (h refl))
given-out false o g g' y h k l = l refl

-- a run of pages is assigned

module _ (p : Parts) (e : Store) (q : PageSet) (run : Run) (owned : Leaves p.elements e (Pages.owned p.elements p.unassigned) (Pages.owned e q)) (new : IsPages e q)
    (is : (page : ℕ) → is_unassigned e q page ≡ (not (inside page run) && is_unassigned p.elements p.unassigned page))
    (spares : e.spare + joins (λ page. is_unassigned p.elements p.unassigned page) run ≡ p.elements.spare + 1) where
  moved : Moves p.elements e (λ i. times i (Pages.owned p.elements p.unassigned)) (λ i. times i (Pages.owned e q))
  moved = moves-of p.elements e (Pages.owned p.elements p.unassigned) (Pages.owned e q) owned

  abbrev r : PagesRecord
  r = record { run = run; assigned = true }

  abbrev t : Parts
  t = record p { elements = e; unassigned = q }

  is-in : (page : ℕ) → is_unassigned e q page ≡ (if inside page run then false else is_unassigned p.elements p.unassigned page)
  is-in page = is page ∙ left-if (inside page run) (is_unassigned p.elements p.unassigned page)

  module _ (given : List PageFrame) (parked : Head) (k : StandsWith p parked) where
    assigned-steps : (kept : ℕ) → kept ≤ p.elements.spare → PagesFits (walk_of p given parked kept) r → walk_of t given parked kept ≡ pages_step (walk_of p given parked kept) r
    assigned-steps kept le h =
        let w = pages-tasks p parked k e q p.region moved new in
        walk-by-places (walk_of t given parked kept) (pages_step (walk_of p given parked kept) r)
        refl w.parents (λ task n. ap (λ (z : ℕ). if nat_lt n 16 then z else 0) (w.words task n)) (pages-subpools p parked k e q p.region moved new).same is-in
        (λ a. masked-in (is_unassigned e q (a / 4096)) (inside (a / 4096) run) (is_unassigned p.elements p.unassigned (a / 4096)) (byte_at p.region a) (is-in (a / 4096)) (h.other (a / 4096)))
        (λ a. brought-in (is_unassigned e q (a / 4096)) (inside (a / 4096) run) (is_unassigned p.elements p.unassigned (a / 4096)) (byte_at p.region a) (is-in (a / 4096)))
        (λ a. given-in (inside (a / 4096) run) (byte_held given a) (λ i. (h.frame a i).not_given))
        (pages-parked p parked k e q p.region moved new).same (omega (arith, spares, le, h.room))

    pub assigned : Exchanges p t given given parked parked (Assignment r)
    assigned = record {
      stands = pages-stand p parked k e q p.region moved new;
      moves = pages-move p parked k e q p.region moved new;
      as_many = owned.as_many;
      steps = λ kept le h. (omega (arith, spares, le, h.room_after), assigned-steps kept le h);
      out = refl;
      tables = tables-same p.region;
      frames = record { spare = refl; made = refl };
      places = λ places. places;
    }

-- a run of pages becomes unassigned

-- the frame of a page, by the byte of its first address
first-address : (page : ℕ) → (4096 * page) / 4096 ≡ page
first-address page = omega arith

module _ (p : Parts) (run : Run) (given : List PageFrame) (parked : Head) (kept : ℕ) (h : PagesFits (walk_of p given parked kept) (record { run = run; assigned = false })) where
  in-run : (page : ℕ) → inside page run ≡ true → inside ((4096 * page) / 4096) run ≡ true
  in-run page i = ap (λ (z : ℕ). inside z run) (first-address page) ∙ i

  pub frame-is-here : (page : ℕ) → inside page run ≡ true → IsSome (bytes_at p.region page)
  frame-is-here page i =
      let f = h.frame (4096 * page) (in-run page i) in
      let s : IsSome (byte_at p.region (4096 * page)) = (not-masked (is_unassigned p.elements p.unassigned ((4096 * page) / 4096)) (byte_at p.region (4096 * page)) f.there).1 in
      let P : ℕ → Type 0 = λ z. IsSome (bytes_at p.region z) in
      subst P (first-address page) (sym (byte_at-assigned p.region (4096 * page)) ∙ s)

  pub frame-not-given : (page : ℕ) → inside page run ≡ true → held_at given page ≡ None
  frame-not-given page i =
      let f = h.frame (4096 * page) (in-run page i) in
      ap (held_at given) (sym (first-address page)) ∙ no-byte (held_at given ((4096 * page) / 4096)) ((4096 * page) % 4096) f.not_given

no-frame : (o : Option (List ℕ)) → o ≡ None → IsSome o → ⊥
no-frame None e some = cc
no-frame (Some y) e some = cc

-- what was parked
module _ (s region : Tables) (frames : List PageFrame) (run : Run) (parks : Parks s region frames run.start run.len) where
  beside : (page : ℕ) → inside page run ≡ false → (held_at frames page ≡ None) × (bytes_at region page ≡ bytes_at s page)
  beside page o = go (cases_lt page run.start) (cases_lt page (run.start + run.len)) where
    go : (page < run.start) ⊎ (run.start ≤ page) → (page < run.start + run.len) ⊎ (run.start + run.len ≤ page) → (held_at frames page ≡ None) × (bytes_at region page ≡ bytes_at s page)
    go (inl x) y = parks.below page x
    go (inr x) (inr y) = parks.above page y
    go (inr x) (inl y) = absurd (not_both (inside page run) (true_inside page run x y) o)

  within : (page : ℕ) → inside page run ≡ true → (held_at frames page ≡ bytes_at s page) × (bytes_at region page ≡ None)
  within page i = let b : (run.start ≤ page) × (page < run.start + run.len) = inside_true page run i in parks.inside page b.0 b.1

  pub parked-inside : (page : ℕ) → IsSome (held_at frames page) → inside page run ≡ true
  parked-inside page some = go (inside page run) refl where
    go : (c : Bool) → inside page run ≡ c → inside page run ≡ true
    go true i = i
    go false o = absurd (no-frame (held_at frames page) (beside page o).0 some)

module _ (p : Parts) (e : Store) (q : PageSet) (run : Run) (owned : Leaves p.elements e (Pages.owned p.elements p.unassigned) (Pages.owned e q)) (new : IsPages e q)
    (is : (page : ℕ) → is_unassigned e q page ≡ (inside page run || is_unassigned p.elements p.unassigned page))
    (spares : e.spare + 1 ≡ p.elements.spare + joins (λ page. is_unassigned p.elements p.unassigned page) run)
    (given given' frames : List PageFrame) (region : Tables) (parks : Parks p.region region frames run.start run.len) (tables : SameTables p.region region)
    (counts : Counts region p.region.spare (p.region.out + run.len) p.region.made) (in-tables : (page : ℕ) → IsSome (bytes_at p.region page) → IsTrue (has_table p.region page))
    (held : (page : ℕ) → held_at given' page ≡ option_or (held_at frames page) (held_at given page)) (count : length given' ≡ length frames + length given) where
  moved-out : Moves p.elements e (λ i. times i (Pages.owned p.elements p.unassigned)) (λ i. times i (Pages.owned e q))
  moved-out = moves-of p.elements e (Pages.owned p.elements p.unassigned) (Pages.owned e q) owned

  abbrev l : PagesRecord
  l = record { run = run; assigned = false }

  abbrev u : Parts
  u = record p { elements = e; unassigned = q; region = region }

  is-out : (page : ℕ) → is_unassigned e q page ≡ (if inside page run then true else is_unassigned p.elements p.unassigned page)
  is-out page = is page ∙ joined-if (inside page run) (is_unassigned p.elements p.unassigned page)

  beside-byte : (a : ℕ) → inside (a / 4096) run ≡ false → byte_at region a ≡ byte_at p.region a
  beside-byte a o = byte_at-same p.region region a (beside p.region region frames run parks (a / 4096) o).1

  gone-byte : (a : ℕ) → inside (a / 4096) run ≡ true → byte_at region a ≡ None
  gone-byte a i = byte_at-unassigned region a (within p.region region frames run parks (a / 4096) i).1

  beside-given : (a : ℕ) → inside (a / 4096) run ≡ false → byte_held given' a ≡ byte_held given a
  beside-given a o =
      ap (λ z. byte_of z (a % 4096)) (held (a / 4096) ∙ ap (λ (z : Option (List ℕ)). option_or z (held_at given (a / 4096))) (beside p.region region frames run parks (a / 4096) o).0)

  in-both : (b x : Option (List ℕ)) → x ≡ None → option_or b x ≡ b
  in-both None x n = n
  in-both (Some y) x n = refl

  given-byte : (a : ℕ) → inside (a / 4096) run ≡ true → held_at given (a / 4096) ≡ None → byte_held given' a ≡ byte_at p.region a
  unfolding byte_at
  given-byte a i n =
      ap (λ z. byte_of z (a % 4096)) (held (a / 4096) ∙ in-both (held_at frames (a / 4096)) (held_at given (a / 4096)) n ∙ (within p.region region frames run parks (a / 4096) i).0)

  out-places : HavePlaces p given → HavePlaces u given'
  out-places k page some = let P : Bool → Type 0 = λ z. IsTrue z in subst P (sym (tables.tables page)) (here (held_at frames page) refl) where
    S : Option (List ℕ) → Type 0
    S z = IsSome z

    here : (o : Option (List ℕ)) → held_at frames page ≡ o → IsTrue (has_table p.region page)
    here None n = k page (subst S (held page ∙ ap (λ (z : Option (List ℕ)). option_or z (held_at given page)) n) some)
    here (Some y) n =
        let i : inside page run ≡ true = parked-inside p.region region frames run parks page (subst S (sym n) refl) in
        in-tables page (subst S ((within p.region region frames run parks page i).0) (subst S (sym n) refl))

  module _ (parked : Head) (k : StandsWith p parked) where
    out-steps : (kept : ℕ) → kept ≤ p.elements.spare → PagesFits (walk_of p given parked kept) l → walk_of u given' parked kept ≡ pages_step (walk_of p given parked kept) l
    out-steps kept le h =
        let w = pages-tasks p parked k e q region moved-out new in
        walk-by-places (walk_of u given' parked kept) (pages_step (walk_of p given parked kept) l)
        refl w.parents (λ task n. ap (λ (z : ℕ). if nat_lt n 16 then z else 0) (w.words task n)) (pages-subpools p parked k e q region moved-out new).same is-out
        (λ a. masked-out (is_unassigned e q (a / 4096)) (inside (a / 4096) run) (is_unassigned p.elements p.unassigned (a / 4096)) (byte_at p.region a) (byte_at region a) (is-out (a / 4096)) (beside-byte a))
        (λ a. brought-out (is_unassigned e q (a / 4096)) (inside (a / 4096) run) (is_unassigned p.elements p.unassigned (a / 4096)) (byte_at p.region a) (byte_at region a) (is-out (a / 4096)) (gone-byte a) (beside-byte a))
        (λ a. given-out (inside (a / 4096) run) (is_unassigned p.elements p.unassigned (a / 4096)) (byte_held given a) (byte_held given' a) (byte_at p.region a) (h.other (a / 4096))
        (λ i. given-byte a i (frame-not-given p run given parked kept h (a / 4096) i)) (beside-given a))
        (pages-parked p parked k e q region moved-out new).same (omega (arith, spares, le, h.room))

    pub unassigned : Exchanges p u given given' parked parked (Assignment l)
    unassigned = record {
      stands = pages-stand p parked k e q region moved-out new;
      moves = pages-move p parked k e q region moved-out new;
      as_many = owned.as_many;
      steps = λ kept le h. (omega (arith, spares, le, h.room), out-steps kept le h);
      out = omega (arith, counts.out_is, count, parks.count);
      tables = tables;
      frames = record { spare = counts.spare_is; made = counts.made_is };
      places = out-places;
    }

pub pages-as : (r : PagesRecord) (v : Bool) → r.assigned ≡ v → Assignment (record { run = r.run; assigned = v }) ≡ Assignment r
pages-as r v e = λ i. Assignment (record { run = r.run; assigned = sym e i })
