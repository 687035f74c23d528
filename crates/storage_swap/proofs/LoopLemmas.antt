-- One turn of the loop: the first record changes sides and moves to those that are done.
use Rattle.std.proofs.Common.{◌≡◌, ℕ, ◌+◌, ◌<◌, ◌≤◌, List, [], ◌∷◌, length, map, refl, sym, ap, ◌∙◌, arith, subst}
use Rattle.std.proofs.lemmas.List.{length-map}
use Rattle.vsm_elements.specs.Store.{made_and_aside}
use Rattle.vsm_elements.specs.Chain.{Link, links, ids, follow, IsChainOf}
use Rattle.vsm_elements.specs.declared.chain.Chain.{Chain}
use Rattle.raw_region.specs.Frames.{PageFrame}
use Rattle.raw_region.specs.Pages.{SameTables}
use Rattle.vsm_elements.specs.Owners.{times, Moves}
use Rattle.vsm_elements.proofs.MoveLemmas.{moves-follow, moves-like, moves-none}
use Rattle.storage_changes.specs.declared.record.Record.{Record}
use Rattle.storage_changes.specs.Walk.{Walk}
use Rattle.storage_changes.specs.Turned.{turned, back_onto}
use Rattle.storage_changes.specs.Steps.{step, walk}
use Rattle.storage_changes.specs.Fits.{Fits, FitInTurn}
use Rattle.subpool_storage.specs.declared.storage.SubpoolStorage.{SubpoolStorage}
use Rattle.storage_swap.specs.declared.storage.Parts.{Parts}
use Rattle.storage_swap.specs.Storage.{state_of, walk_of}
use Rattle.storage_swap.specs.Exchange.{HavePlaces, SameFrames}
use Rattle.storage_swap.specs.Beside.{record_at, records_of, hold_beside, hold_both, Beside, BesideBoth, SwapsFirst, SwapsAll}

-- so far: the storage, the records to be exchanged and those that are done, from a storage p and its records c
pub record Going (p : Parts) (given : List PageFrame) (q : SubpoolStorage) (c : Chain) (s : Parts) (given' : List PageFrame) (q' : SubpoolStorage) (rest done : Chain) : Type 0 where
  pub beside : BesideBoth s q' rest done
  pub moves : Moves p.elements s.elements (hold_beside p q c) (hold_both s q' rest done)
  pub fits : (kept : ℕ) → kept ≤ p.elements.spare → FitInTurn (walk_of p given q kept) (records_of p.elements c) → (kept ≤ s.elements.spare) × FitInTurn (walk_of s given' q' kept) (records_of s.elements rest)
  pub leads : (kept : ℕ) → kept ≤ p.elements.spare → FitInTurn (walk_of p given q kept) (records_of p.elements c) → walk (walk_of s given' q' kept) (records_of s.elements rest) ≡ walk (walk_of p given q kept) (records_of p.elements c)
  pub back : (kept : ℕ) → kept ≤ p.elements.spare → FitInTurn (walk_of p given q kept) (records_of p.elements c)
      → back_onto (walk_of s given' q' kept) (records_of s.elements done) (records_of s.elements rest) ≡ back_onto (walk_of p given q kept) [] (records_of p.elements c)
  pub as_many : made_and_aside s.elements ≡ made_and_aside p.elements
  pub out : s.region.out + length given ≡ p.region.out + length given'
  pub tables : SameTables p.region s.region
  pub frames : SameFrames p.region s.region
  pub places : HavePlaces p given → HavePlaces s given'

-- at the start
pub begins : (p : Parts) (given : List PageFrame) (q : SubpoolStorage) (c done : Chain) → Beside p q c → done.first ≡ 0 → done.count ≡ 0 → Going p given q c p given q c done
begins p given q c done b first count =
    let none : links p.elements done ≡ [] = ap (follow p.elements done.first) count in
    let P : List Link → Type 0 = λ ns. IsChainOf p.elements done ns in
    record {
      beside = record {
        stands = b.stands;
        chain = b.chain;
        done = subst P (sym none) (record { first = first; count = count; held = tt; distinct = tt });
        once = λ i. omega (arith, b.once i, ap (λ (ns : List Link). times i (ids ns)) none);
      };
      moves = moves-like p.elements p.elements (hold_beside p q c) (hold_beside p q c) (hold_beside p q c) (hold_both p q c done) (moves-none p.elements p.elements (hold_beside p q c) (λ i. refl)) (λ i. refl) (λ i. omega (arith, ap (λ (ns : List Link). times i (ids ns)) none));
      fits = λ kept le h. (le, h);
      leads = λ kept le h. refl;
      back = λ kept le h. ap (λ (ns : List Link). back_onto (walk_of p given q kept) (map record_at ns) (records_of p.elements c)) none;
      as_many = refl;
      out = refl;
      tables = record { tables = λ x. refl; segments = λ x. refl };
      frames = record { spare = refl; made = refl };
      places = λ h. h;
    }

-- at the end
pub ends : (p s : Parts) (given given' : List PageFrame) (q q' : SubpoolStorage) (c rest done : Chain) → Going p given q c s given' q' rest done → rest.count ≡ 0 → SwapsAll p s given given' q q' c done
ends p s given given' q q' c rest done g count =
    let none : links s.elements rest ≡ [] = ap (follow s.elements rest.first) count in
    record {
      beside = record { stands = g.beside.stands; chain = g.beside.done; once = λ i. omega (arith, g.beside.once i) };
      moves = moves-like p.elements s.elements (hold_beside p q c) (hold_both s q' rest done) (hold_beside p q c) (hold_beside s q' done) g.moves (λ i. refl) (λ i. omega (arith, ap (λ (ns : List Link). times i (ids ns)) none));
      steps = λ kept le h. (
        (g.fits kept le h).0,
        ap (λ (ns : List Link). walk (walk_of s given' q' kept) (map record_at ns)) (sym none) ∙ g.leads kept le h,
        ap (λ (ns : List Link). back_onto (walk_of s given' q' kept) (records_of s.elements done) (map record_at ns)) (sym none) ∙ g.back kept le h,
      );
      as_many = g.as_many;
      out = g.out;
      tables = g.tables;
      frames = g.frames;
      places = g.places;
    }

-- what the first record's exchange requires
pub first-fits : (p s : Parts) (given given' : List PageFrame) (q q' : SubpoolStorage) (c rest done : Chain) → Going p given q c s given' q' rest done → 0 < rest.count
    → (kept : ℕ) × (kept ≤ p.elements.spare) × FitInTurn (walk_of p given q kept) (records_of p.elements c)
    → (r : Record) × (rs : List Record) × (kept : ℕ) × (kept ≤ s.elements.spare) × (records_of s.elements rest ≡ r ∷ rs) × Fits (walk_of s given' q' kept) r
first-fits p s given given' q q' c rest done g some (kept, le, h) = go (records_of s.elements rest) refl where
  go : (l : List Record) → records_of s.elements rest ≡ l → (r : Record) × (rs : List Record) × (kept : ℕ) × (kept ≤ s.elements.spare) × (records_of s.elements rest ≡ r ∷ rs) × Fits (walk_of s given' q' kept) r
  go [] e = absurd (omega (arith, some, g.beside.chain.count, length-map (links s.elements rest) record_at, ap length e))
  go (r ∷ rs) e = let P : List Record → Type 0 = λ l. FitInTurn (walk_of s given' q' kept) l in (r, rs, kept, (g.fits kept le h).0, e, (subst P e (g.fits kept le h).1).0)

-- a turn
module _ (p s t : Parts) (given given' given'' : List PageFrame) (q q' q'' : SubpoolStorage) (c rest done rest' done' : Chain) (g : Going p given q c s given' q' rest done)
    (first : (r : Record) (rs : List Record) → records_of s.elements rest ≡ r ∷ rs → SwapsFirst s t given' given'' q' q'' rest rest' done done' r rs) (some : 0 < rest.count) where
  -- its record, whichever it is
  module _ (r : Record) (rs : List Record) (l : records_of s.elements rest ≡ r ∷ rs) where
    abbrev x : SwapsFirst s t given' given'' q' q'' rest rest' done done' r rs
    x = first r rs l

    -- the walk goes on
    at-kept : (kept : ℕ) → kept ≤ p.elements.spare → FitInTurn (walk_of p given q kept) (records_of p.elements c)
        → (kept ≤ t.elements.spare) × (walk_of t given'' q'' kept ≡ step (walk_of s given' q' kept) r) × FitInTurn (step (walk_of s given' q' kept) r) rs
    at-kept kept le h =
        let P : List Record → Type 0 = λ z. FitInTurn (walk_of s given' q' kept) z in
        let k : (kept ≤ s.elements.spare) × FitInTurn (walk_of s given' q' kept) (records_of s.elements rest) = g.fits kept le h in
        let y : Fits (walk_of s given' q' kept) r × FitInTurn (step (walk_of s given' q' kept) r) rs = subst P l k.1 in
        let z : (kept ≤ t.elements.spare) × (walk_of t given'' q'' kept ≡ step (walk_of s given' q' kept) r) = x.steps kept k.0 y.0 in
        (z.0, z.1, y.1)

    goes-on : Going p given q c t given'' q'' rest' done'
    goes-on = record {
      beside = x.beside;
      moves = moves-follow p.elements s.elements t.elements (hold_beside p q c) (hold_both s q' rest done) (hold_both t q'' rest' done') g.moves x.moves;
      fits = λ kept le h. (let k = at-kept kept le h in
          let P : Walk → Type 0 = λ w. FitInTurn w rs in
          let Q : List Record → Type 0 = λ z. FitInTurn (walk_of t given'' q'' kept) z in
          (k.0, subst Q (sym x.rest) (subst P (sym k.1) k.2)));
      leads = λ kept le h. (let k = at-kept kept le h in
          ap (walk (walk_of t given'' q'' kept)) x.rest ∙ ap (λ (w : Walk). walk w rs) k.1 ∙ ap (walk (walk_of s given' q' kept)) (sym l) ∙ g.leads kept le h);
      back = λ kept le h. (let k = at-kept kept le h in
          ap (back_onto (walk_of t given'' q'' kept) (records_of t.elements done')) x.rest
          ∙ ap (λ (z : List Record). back_onto (walk_of t given'' q'' kept) z rs) x.done
          ∙ ap (λ (w : Walk). back_onto w (turned (state_of s) r ∷ records_of s.elements done) rs) k.1
          ∙ ap (back_onto (walk_of s given' q' kept) (records_of s.elements done)) (sym l) ∙ g.back kept le h);
      as_many = x.as_many ∙ g.as_many;
      out = omega (arith, g.out, x.out);
      tables = record { tables = λ z. x.tables.tables z ∙ g.tables.tables z; segments = λ z. x.tables.segments z ∙ g.tables.segments z };
      frames = record { spare = x.frames.spare ∙ g.frames.spare; made = x.frames.made ∙ g.frames.made };
      places = λ h. x.places (g.places h);
    }

    one-less : rest'.count < rest.count
    one-less = omega (
      arith,
      x.beside.chain.count,
      g.beside.chain.count,
      length-map (links t.elements rest') record_at,
      length-map (links s.elements rest) record_at,
      ap length x.rest,
      ap length l,
    )

  -- by the first record
  at-first : (A : Type 0) → ((r : Record) (rs : List Record) → records_of s.elements rest ≡ r ∷ rs → A) → A
  at-first A f = go (records_of s.elements rest) refl where
    go : (l : List Record) → records_of s.elements rest ≡ l → A
    go [] k = absurd (omega (arith, some, g.beside.chain.count, length-map (links s.elements rest) record_at, ap length k))
    go (r ∷ rs) k = f r rs k

  pub turn : Going p given q c t given'' q'' rest' done'
  turn = at-first (Going p given q c t given'' q'' rest' done') goes-on

  pub fewer : rest'.count < rest.count
  fewer = at-first (rest'.count < rest.count) one-less
