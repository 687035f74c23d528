-- A change is exchanged with the storage.
use Rattle.std.proofs.Common.{◌≡◌, ℕ, ◌+◌, ◌-◌, ◌*◌, ◌/◌, ◌%◌, ◌≤◌, Bool, true, false, if◌then◌else◌, List, [], length, map, Option, None, IsSome, refl, sym, ap, ◌∙◌, arith, subst}
use Rattle.std.specs.Option.{option_or}
use Rattle.vsm_elements.specs.Store.{Store, SameElements, SetsAside}
use Rattle.vsm_elements.specs.Chain.{Link, links, owned, ids, IsChain}
use Rattle.vsm_elements.specs.declared.chain.Chain.{Chain}
use Rattle.vsm_elements.specs.Owners.{times, Moves}
use Rattle.vsm_elements.proofs.MoveLemmas.{moves-follow, moves-like, moves-none, chain-kept}
use Rattle.raw_region.specs.Frames.{PageFrame}
use Rattle.raw_region.specs.Pages.{Pages as Tables, bytes_at, byte_at, byte_of, SameTables}
use Rattle.raw_region.specs.Parked.{held_at, CanEnter}
use Rattle.raw_region.proofs.ForCallers.{byte_at-same}
use Rattle.subpool_storage.specs.declared.storage.SubpoolStorage.{SubpoolStorage as TheParked}
use Rattle.subpool_storage.specs.SubpoolStorage.{subpools_of}
use Rattle.storage_changes.specs.declared.record.Record.{Record}
use Rattle.storage_changes.specs.State.{StorageState}
use Rattle.storage_changes.specs.Walk.{Walk}
use Rattle.storage_changes.specs.Steps.{walk}
use Rattle.storage_changes.specs.Turned.{back_onto}
use Rattle.storage_changes.specs.Fits.{FitInTurn}
use Rattle.storage_changes.specs.Changes.{outset, arrival, Fit, inverse}
use Rattle.storage_changes.proofs.Cases.{state-same, walk-same}
use Rattle.storage_swap.specs.declared.storage.Parts.{Parts}
use Rattle.storage_swap.specs.Storage.{hold_with, state_of, walk_of, byte_held}
use Rattle.storage_swap.specs.Exchange.{HavePlaces, SameFrames}
use Rattle.storage_swap.specs.declared.change.Change.{Change as TheChange}
use Rattle.storage_swap.specs.Beside.{record_at, records_of, hold_beside, Beside, SwapsAll}
use Rattle.storage_swap.specs.Swap.{means, both_hold, Ready, Swaps}
use Rattle.storage_swap.proofs.FrameLemmas.{none-if, in-both, first-address, held-some, byte-is-held, page-none}
use Rattle.storage_swap.proofs.AsideLemmas.{made-same, aside-same}
use Rattle.storage_swap.proofs.TwoLemmas.{no_ids}
use Rattle.storage_swap.proofs.KeptLemmas.{over, kept-hold-with, kept-stands, kept-state, kept-unassigned, kept-parked, region-stands-with}

not-false : (b : Bool) → b ≡ true → b ≡ false → ⊥
not-false b p q = cc

-- the pages of a change's frames are unassigned
fresh-page : (p : Parts) (c : TheChange) → Fit (state_of p) (means p.elements c) → (page : ℕ) → IsSome (held_at c.frames page) → (state_of p).unassigned page ≡ true
fresh-page p c fit page h = sym (ap (λ (x : ℕ). (state_of p).unassigned x) (first-address page)) ∙ fit.fresh (4096 * page) (held-some c.frames page h)

-- an assigned page brings no frame
not-brought : (p : Parts) (c : TheChange) → Fit (state_of p) (means p.elements c) → (page : ℕ) → (state_of p).unassigned page ≡ false → held_at c.frames page ≡ None
not-brought p c fit page e = none-if (held_at c.frames page) (λ h. not-false ((state_of p).unassigned page) (fresh-page p c fit page h) e)

pub can-enter : (p : Parts) (c : TheChange) → Ready p c → Fit (state_of p) (means p.elements c) → CanEnter p.region c.frames
can-enter p c r fit page h = (r.places page h, r.frameless page (fresh-page p c fit page h))

-- The blank elements are spare, and the frames are in the tables.
module _ (p : Parts) (c : TheChange) (r : Ready p c) (fit : Fit (state_of p) (means p.elements c)) (e : Store) (region : Tables) (given : List PageFrame)
    (back : SetsAside e p.elements c.blanks)
    (pages : (x : ℕ) → bytes_at region x ≡ option_or (held_at c.frames x) (bytes_at p.region x)) (tables : SameTables p.region region) (out : region.out + length c.frames ≡ p.region.out) (empty : given ≡ []) (counts : SameFrames p.region region) where
  abbrev m : Parts
  m = record p { elements = e; region = region }

  same-elements : SameElements p.elements e
  same-elements i = sym (back.same i)

  still : Moves p.elements e no_ids no_ids
  still = moves-none p.elements e no_ids same-elements

  apart : (i : ℕ) → no_ids i + hold_with p c.parked i ≤ 1
  apart i = omega (arith, r.stands.once i)

  records-kept : IsChain e c.records × (links e c.records ≡ links p.elements c.records)
  records-kept = chain-kept p.elements e c.records r.records (λ i h. same-elements i)

  same-hold : (i : ℕ) → hold_with m c.parked i ≡ hold_with p c.parked i
  same-hold = kept-hold-with p c.parked e r.stands no_ids no_ids still apart

  pub beside : Beside m c.parked c.records
  beside = record { stands = region-stands-with (over p e) c.parked region (kept-stands p c.parked e r.stands no_ids no_ids still apart); chain = records-kept.0; once = λ i. omega (arith, r.once i, same-hold i, ap (λ (ns : List Link). times i (ids ns)) records-kept.1) }

  same-unassigned : (x : ℕ) → (state_of m).unassigned x ≡ (state_of p).unassigned x
  same-unassigned x = kept-unassigned p c.parked e r.stands no_ids no_ids still apart x

  same-bytes : (a : ℕ) → (state_of m).bytes a ≡ (state_of p).bytes a
  same-bytes a = ap (λ (b : Bool). if b then None else byte_at region a) (same-unassigned (a / 4096)) ∙ go ((state_of p).unassigned (a / 4096)) refl where
    go : (b : Bool) → (state_of p).unassigned (a / 4096) ≡ b → (if b then None else byte_at region a) ≡ (if b then None else byte_at p.region a)
    go true u = refl
    go false u = byte_at-same p.region region a (pages (a / 4096) ∙ ap (λ (o : Option (List ℕ)). option_or o (bytes_at p.region (a / 4096))) (not-brought p c fit (a / 4096) u))

  all-brought : (a : ℕ) → (if (state_of m).unassigned (a / 4096) then byte_at region a else None) ≡ byte_held c.frames a
  all-brought a = ap (λ (b : Bool). if b then byte_at region a else None) (same-unassigned (a / 4096)) ∙ go ((state_of p).unassigned (a / 4096)) refl where
    go : (b : Bool) → (state_of p).unassigned (a / 4096) ≡ b → (if b then byte_at region a else None) ≡ byte_held c.frames a
    go true u = byte-is-held region c.frames a (pages (a / 4096) ∙ in-both (held_at c.frames (a / 4096)) (bytes_at p.region (a / 4096)) (r.frameless (a / 4096) u))
    go false u = sym (ap (λ (b : Option (List ℕ)). byte_of b (a % 4096)) (not-brought p c fit (a / 4096) u))

  -- the elements that are no blank ones of the change are those that were spare before
  abbrev kept : ℕ
  kept = p.elements.spare

  starts : walk_of m given c.parked kept ≡ outset (state_of p) (means p.elements c)
  starts =
      let s : state_of (over p e) ≡ state_of p = kept-state p c.parked e r.stands no_ids no_ids still apart in
      walk-same (walk_of m given c.parked kept) (outset (state_of p) (means p.elements c))
      (state-same (state_of m) (state_of p) (ap (λ (z : StorageState). z.tasks) s) (ap (λ (z : StorageState). z.subpools) s) same-unassigned same-bytes)
      all-brought (λ a. ap (λ (z : List PageFrame). byte_held z a) empty) (kept-parked p c.parked e r.stands no_ids no_ids still apart) (omega (arith, back.spare))

  same-records : records_of e c.records ≡ records_of p.elements c.records
  same-records = ap (map record_at) records-kept.1

  fit-here : FitInTurn (walk_of m given c.parked kept) (records_of e c.records)
  fit-here =
      let P : Walk → Type 0 = λ w. FitInTurn w (records_of e c.records) in
      let Q : List Record → Type 0 = λ l. FitInTurn (outset (state_of p) (means p.elements c)) l in
      subst P (sym starts) (subst Q (sym same-records) fit.in_turn)

  pub fits-turn : (k : ℕ) × (k ≤ e.spare) × FitInTurn (walk_of m given c.parked k) (records_of e c.records)
  fits-turn = (kept, omega (arith, back.spare), fit-here)

  -- All records change sides, and as many elements are spare as before.
  module _ (s : Parts) (given' : List PageFrame) (parked' : TheParked) (records' : Chain) (w : SwapsAll m s given given' c.parked parked' c.records records') where
    steps : (kept ≤ s.elements.spare) × (walk_of s given' parked' kept ≡ walk (walk_of m given c.parked kept) (records_of e c.records)) × (records_of s.elements records' ≡ back_onto (walk_of m given c.parked kept) [] (records_of e c.records))
    steps = w.steps kept (omega (arith, back.spare)) fit-here

    pub room : p.elements.spare ≤ s.elements.spare
    room = steps.0

    arrives : walk_of s given' parked' kept ≡ arrival (state_of p) (means p.elements c)
    arrives = steps.1 ∙ ap (λ (v : Walk). walk v (records_of e c.records)) starts ∙ ap (walk (outset (state_of p) (means p.elements c))) same-records

    turns : records_of s.elements records' ≡ (inverse (state_of p) (means p.elements c)).records
    turns = steps.2 ∙ ap (λ (v : Walk). back_onto v [] (records_of e c.records)) starts ∙ ap (back_onto (outset (state_of p) (means p.elements c)) []) same-records

    module _ (end : Store) (blanks' : ℕ) (count : blanks' ≡ s.elements.spare - p.elements.spare) (set : SetsAside s.elements end blanks') where
      abbrev t : Parts
      t = over s end

      abbrev d : TheChange
      d = record { records = records'; blanks = blanks'; frames = given'; parked = parked' }

      stays : Moves s.elements end no_ids no_ids
      stays = moves-none s.elements end no_ids set.same

      apart-still : (i : ℕ) → no_ids i + hold_with s parked' i ≤ 1
      apart-still i = omega (arith, w.beside.stands.once i)

      end-hold : (i : ℕ) → hold_with t parked' i ≡ hold_with s parked' i
      end-hold = kept-hold-with s parked' end w.beside.stands no_ids no_ids stays apart-still

      turned-kept : IsChain end records' × (links end records' ≡ links s.elements records')
      turned-kept = chain-kept s.elements end records' w.beside.chain (λ i h. set.same i)

      turned-ids : (i : ℕ) → times i (owned end records') ≡ times i (owned s.elements records')
      turned-ids i = ap (λ (ns : List Link). times i (ids ns)) turned-kept.1

      end-state : state_of t ≡ state_of s
      end-state = kept-state s parked' end w.beside.stands no_ids no_ids stays apart-still

      end-frameless : (page : ℕ) → (state_of t).unassigned page ≡ true → bytes_at s.region page ≡ None
      end-frameless page h =
          let u : (state_of s).unassigned page ≡ true = sym (kept-unassigned s parked' end w.beside.stands no_ids no_ids stays apart-still page) ∙ h in
          let v : (state_of s).unassigned ((4096 * page) / 4096) ≡ true = ap (λ (x : ℕ). (state_of s).unassigned x) (first-address page) ∙ u in
          let b : (if (state_of s).unassigned ((4096 * page) / 4096) then byte_at s.region (4096 * page) else None) ≡ None = ap (λ (z : Walk). z.brought (4096 * page)) arrives ∙ fit.brought (4096 * page) in
          page-none s.region page (sym (ap (λ (y : Bool). if y then byte_at s.region (4096 * page) else None) v) ∙ b)

      no-places : HavePlaces m given
      no-places x h = let P : List PageFrame → Type 0 = λ z. IsSome (held_at z x) in absurd (not-false false (subst P empty h) refl)

      ready-after : Ready t d
      ready-after = record {
        stands = kept-stands s parked' end w.beside.stands no_ids no_ids stays apart-still;
        records = turned-kept.0;
        aside = omega (arith, set.aside);
        once = λ i. omega (arith, w.beside.once i, end-hold i, turned-ids i);
        frameless = end-frameless;
        out = omega (arith, w.out, ap length empty);
        places = w.places no-places;
      }

      pub swaps : Swaps p c t d
      swaps = record {
        before = r;
        after = ready-after;
        shows = end-state ∙ ap (λ (v : Walk). v.state) arrives;
        turned = λ i. record { records = (ap (map record_at) turned-kept.1 ∙ turns) i; blanks = blanks-is i; frames = (arrives i).given; parked = (end-parked ∙ ap (λ (z : Walk). z.parked) arrives) i };
        moves = moves-like p.elements end (hold_beside m c.parked c.records) (hold_beside s parked' records') (both_hold p c) (both_hold t d)
            (moves-follow p.elements e end (hold_beside m c.parked c.records) (hold_beside m c.parked c.records) (hold_beside s parked' records')
            (moves-none p.elements e (hold_beside m c.parked c.records) same-elements)
            (moves-follow e s.elements end (hold_beside m c.parked c.records) (hold_beside s parked' records') (hold_beside s parked' records') w.moves (moves-none s.elements end (hold_beside s parked' records') set.same)))
            (λ i. omega (arith, same-hold i, ap (λ (ns : List Link). times i (ids ns)) records-kept.1)) (λ i. omega (arith, end-hold i, turned-ids i));
        spare = omega (arith, set.spare, count, room);
        aside = omega (arith, set.aside, back.aside, aside-same e s.elements w.as_many);
        as_many = set.made ∙ made-same e s.elements w.as_many ∙ sym back.made;
        out = omega (arith, w.out, out, ap length empty);
        tables = record { tables = λ x. w.tables.tables x ∙ tables.tables x; segments = λ x. w.tables.segments x ∙ tables.segments x };
        frames = record { spare = w.frames.spare ∙ counts.spare; made = w.frames.made ∙ counts.made };
      } where
        end-parked : subpools_of end parked' ≡ subpools_of s.elements parked'
        end-parked = kept-parked s parked' end w.beside.stands no_ids no_ids stays apart-still

        blanks-is : blanks' ≡ (arrival (state_of p) (means p.elements c)).spare
        blanks-is = count ∙ ap (λ (v : Walk). v.spare) arrives
