-- A change is made record by record next to the storage.
use Rattle.std.proofs.Common.{◌≡◌, ℕ, ◌+◌, ◌/◌, ◌<◌, ◌≤◌, max, if◌then◌else◌, List, [], ◌∷◌, ◌++◌, length, length-append, map, Some, None, Result, Ok, Err, IfOk, IfErr, IsSome, IsTrue, inl, inr, refl, sym, ap, ◌∙◌, arith, subst}
use Rattle.std.proofs.lemmas.List.{append_assoc, append-nil}
use Rattle.vsm_elements.specs.Store.{Store, SameElements, SetsAside, at, live_count, made}
use Rattle.vsm_elements.specs.Chain.{Link, last_or, links, owned, ids, IsChain}
use Rattle.vsm_elements.specs.Ownership.{Leaves}
use Rattle.vsm_elements.specs.declared.chain.Chain.{Chain}
use Rattle.vsm_elements.specs.Owners.{times, Moves}
use Rattle.vsm_elements.proofs.MoveLemmas.{none-or-some, moves-of, moves-follow, moves-by, moves-like, moves-none, rest-same, once-after, chain-live, chain-once, chain-kept}
use Rattle.run_set.specs.Runs.{inside}
use Rattle.raw_region.specs.Pages.{Pages as Tables, bytes_at, has_table, has_segment}
use Rattle.subpool_storage.specs.declared.storage.SubpoolStorage.{SubpoolStorage as TheParked}
use Rattle.subpool_storage.specs.SubpoolStorage.{subpools_of, Stands}
use Rattle.subpool_storage.specs.SubpoolStorage
use Rattle.storage_changes.specs.declared.record.Record.{Record}
use Rattle.storage_changes.specs.Changes.{Change, no_pages}
use Rattle.storage_changes.proofs.Cases.{cond-out}
use Rattle.storage_swap.specs.declared.storage.Parts.{Parts}
use Rattle.storage_swap.specs.Storage.{hold, hold_with, byte_held, StandsWith}
use Rattle.storage_swap.specs.declared.builder.ChangeBuilder.{ChangeBuilder}
use Rattle.storage_swap.specs.declared.change.Change.{Change as TheChange}
use Rattle.storage_swap.specs.Beside.{record_at, records_of}
use Rattle.storage_swap.specs.Growth.{MakesElements}
use Rattle.storage_swap.specs.Swap.{change_holds, Ready}
use Rattle.storage_swap.specs.Reserve.{Grown, MoreTables, Reserves}
use Rattle.storage_swap.specs.Builder.{so_far, records_in, parked_in, meaning_with, builder_holds, IsBuilding, Keeps, Builds, Pushes, Finishes}
use Rattle.storage_swap.proofs.Below.{storage-owns, storage-stays}
use Rattle.storage_swap.proofs.FrameLemmas.{nowhere}
use Rattle.storage_swap.proofs.TwoLemmas.{no_ids}
use Rattle.storage_swap.proofs.AsideLemmas.{made-same, aside-same}
use Rattle.storage_swap.proofs.KeptLemmas.{over, holds-live, same-hold, same-stands, same-state, same-unassigned, kept-hold, kept-parked-hold, kept-stands, kept-state, kept-unassigned, kept-parked}

-- What was made for two reservations, one after the other: m and n are how many elements each was for, and k is both.
pub makes-follow : (a b c live next m n k : ℕ) → b ≤ max a (live + m + 128) → next + n ≤ live + k → m ≤ k → c ≤ max b (next + n + 128) → c ≤ max a (live + k + 128)
makes-follow a b c live next m n k first more within second = omega (arith, first, more, within, second)

-- k were reserved, and then n are refused: both are no more than m
pub refused-made : (s t u : Store) (k n m : ℕ) → MakesElements s t k → live_count t ≤ live_count s + k → k + n ≤ m → MakesElements t u n → MakesElements s u m
refused-made s t u k n m first live few second =
    makes-follow (made s) (made t) (made u) (live_count s) (live_count t) k n m first (omega (arith, live, few)) (omega (arith, few)) second

pub made-more : (s e : Store) (n m : ℕ) → n ≤ m → MakesElements s e n → MakesElements s e m
made-more s e n m few first = refused-made s s e 0 n m (omega arith) (omega arith) (omega (arith, few)) first

-- so it is after a refusal too
pub if-refused : {R E : Type 0} (P : Type 0) (r : Result R E) → P → IfErr r (λ _. P)
if-refused P (Ok x) h = tt
if-refused P (Err e) h = h

-- one after the other

pub keeps-follow : (s t u : Parts) (f g h : ℕ → ℕ) → Keeps s t f g → Keeps t u g h → Keeps s u f h
keeps-follow s t u f g h a b = record {
  same = b.same ∙ ap (λ (z : Parts). over z u.elements) a.same;
  shows = b.shows ∙ a.shows;
  held = λ i. b.held i ∙ a.held i;
  kept = λ i n. b.kept i (omega (arith, n, a.held i)) ∙ a.kept i n;
  moves = moves-follow s.elements t.elements u.elements f g h a.moves b.moves;
  aside = b.aside ∙ a.aside;
}

pub keeps-like : (s t : Parts) (f g F G : ℕ → ℕ) → Keeps s t f g → ((i : ℕ) → F i ≡ f i) → ((i : ℕ) → G i ≡ g i) → Keeps s t F G
keeps-like s t f g F G k a b = record {
  same = k.same;
  shows = k.shows;
  held = k.held;
  kept = k.kept;
  moves = moves-like s.elements t.elements f g F G k.moves a b;
  aside = k.aside;
}

pub builds-follow : (s t u : Parts) (a b c : ChangeBuilder) → Builds s a t b → Builds t b u c → Builds s a u c
builds-follow s t u a b c first second = record {
  building = second.building;
  keeps = keeps-follow s t u (builder_holds s a) (builder_holds t b) (builder_holds u c) first.keeps second.keeps;
}

-- nothing was done
pub builds-none : (s : Parts) (a : ChangeBuilder) → IsBuilding s a → Builds s a s a
builds-none s a h = record {
  building = h;
  keeps = record { same = refl; shows = refl; held = λ i. refl; kept = λ i n. refl; moves = moves-none s.elements s.elements (builder_holds s a) (λ i. refl); aside = refl };
}

pub pushes-none : (s : Parts) (a : ChangeBuilder) → Pushes s a [] s a
pushes-none s a = record { records = sym (append-nil (records_in s a)); parked = refl; spare = omega arith; live = omega arith; made = omega arith }

-- The records become others, or stay.
module _ (s : Parts) (a : ChangeBuilder) (h : IsBuilding s a) (e : Store) (chain : Chain) (stand : IsChain e chain) (last : ℕ) (is-last : last ≡ last_or 0 (links e chain))
    (m : Moves s.elements e (λ i. times i (owned s.elements a.records)) (λ i. times i (owned e chain))) (aside : e.aside ≡ s.elements.aside) where
  abbrev had-records : ℕ → ℕ
  had-records i = times i (owned s.elements a.records)

  abbrev has-records : ℕ → ℕ
  has-records i = times i (owned e chain)

  abbrev with-records : ChangeBuilder
  with-records = record { records = chain; last = last; parked = a.parked }

  once : (i : ℕ) → had-records i + hold_with s a.parked i ≤ 1
  once i = omega (arith, h.ready.once i)

  stands : StandsWith (over s e) a.parked
  stands = kept-stands s a.parked e h.ready.stands had-records has-records m once

  same-holds : (i : ℕ) → hold (over s e) i ≡ hold s i
  same-holds = kept-hold s a.parked e h.ready.stands had-records has-records m once

  same-parked-holds : (i : ℕ) → SubpoolStorage.hold e a.parked i ≡ SubpoolStorage.hold s.elements a.parked i
  same-parked-holds = kept-parked-hold s a.parked e h.ready.stands had-records has-records m once

  storage-kept : (i : ℕ) → 0 < hold s i → at e i ≡ at s.elements i
  storage-kept = rest-same s.elements e had-records has-records m (hold s) (λ i. omega (arith, once i)) (holds-live s h.ready.stands.storage)

  with-live : (i : ℕ) → 0 < hold_with s a.parked i → IsSome (at s.elements i)
  with-live i n = elim (none-or-some (hold s i)) [
    | inr z ↦ holds-live s h.ready.stands.storage i z
    | inl z ↦ (storage-owns s.elements a.parked h.ready.stands.parked).1 i (omega (arith, n, z))
  ]

  once-now : (i : ℕ) → has-records i + hold_with s a.parked i ≤ 1
  once-now = once-after s.elements e had-records has-records m (hold_with s a.parked) once with-live (chain-once e chain stand)

  pub records-build : Builds s a (over s e) with-records
  records-build = record {
    building = record {
      ready = record {
        stands = stands;
        records = stand;
        aside = omega arith;
        once = λ i. omega (arith, once-now i, same-holds i, same-parked-holds i);
        frameless = λ page n. h.ready.frameless page (sym (kept-unassigned s a.parked e h.ready.stands had-records has-records m once page) ∙ n);
        out = h.ready.out;
        places = h.ready.places;
      };
      last = is-last;
    };
    keeps = record {
      same = refl;
      shows = kept-state s a.parked e h.ready.stands had-records has-records m once;
      held = same-holds;
      kept = storage-kept;
      moves = moves-by s.elements e had-records has-records (builder_holds s a) (builder_holds (over s e) with-records) m (λ i. omega arith) (λ i. omega (arith, same-parked-holds i));
      aside = aside;
    };
  }

  pub records-parked : parked_in (over s e) with-records ≡ parked_in s a
  records-parked = kept-parked s a.parked e h.ready.stands had-records has-records m once

-- What is parked becomes something else.
module _ (s : Parts) (a : ChangeBuilder) (h : IsBuilding s a) (e : Store) (parked : TheParked) (stand : Stands e parked)
    (m : Moves s.elements e (SubpoolStorage.hold s.elements a.parked) (SubpoolStorage.hold e parked)) (aside : e.aside ≡ s.elements.aside) where
  abbrev had-parked : ℕ → ℕ
  had-parked = SubpoolStorage.hold s.elements a.parked

  abbrev has-parked : ℕ → ℕ
  has-parked = SubpoolStorage.hold e parked

  abbrev with-parked : ChangeBuilder
  with-parked = record { records = a.records; last = a.last; parked = parked }

  abbrev rest : ℕ → ℕ
  rest i = times i (owned s.elements a.records) + hold s i

  rest-live : (i : ℕ) → 0 < rest i → IsSome (at s.elements i)
  rest-live i n = elim (none-or-some (hold s i)) [
    | inr z ↦ holds-live s h.ready.stands.storage i z
    | inl z ↦ chain-live s.elements a.records h.ready.records i (omega (arith, n, z))
  ]

  apart : (i : ℕ) → had-parked i + rest i ≤ 1
  apart i = omega (arith, h.ready.once i)

  rest-kept : (i : ℕ) → 0 < rest i → at e i ≡ at s.elements i
  rest-kept = rest-same s.elements e had-parked has-parked m rest apart rest-live

  apart-now : (i : ℕ) → has-parked i + rest i ≤ 1
  apart-now = once-after s.elements e had-parked has-parked m rest apart rest-live (storage-owns e parked stand).0

  own : (i : ℕ) → 0 < hold s i → at e i ≡ at s.elements i
  own i n = rest-kept i (omega (arith, n))

  chain-stays : IsChain e a.records × (links e a.records ≡ links s.elements a.records)
  chain-stays = chain-kept s.elements e a.records h.ready.records (λ i n. rest-kept i (omega (arith, n)))

  same-ids : (i : ℕ) → times i (owned e a.records) ≡ times i (owned s.elements a.records)
  same-ids i = ap (λ (ns : List Link). times i (ids ns)) chain-stays.1

  still-holds : (i : ℕ) → hold (over s e) i ≡ hold s i
  still-holds = same-hold s e h.ready.stands.storage own

  pub parked-build : Builds s a (over s e) with-parked
  parked-build = record {
    building = record {
      ready = record {
        stands = record { storage = same-stands s e h.ready.stands.storage own; parked = stand; once = λ i. omega (arith, apart-now i, still-holds i) };
        records = chain-stays.0;
        aside = omega arith;
        once = λ i. omega (arith, apart-now i, still-holds i, same-ids i);
        frameless = λ page n. h.ready.frameless page (sym (same-unassigned s e h.ready.stands.storage own page) ∙ n);
        out = h.ready.out;
        places = h.ready.places;
      };
      last = h.last ∙ sym (ap (last_or 0) chain-stays.1);
    };
    keeps = record {
      same = refl;
      shows = same-state s e h.ready.stands.storage own;
      held = still-holds;
      kept = own;
      moves = moves-by s.elements e had-parked has-parked (builder_holds s a) (builder_holds (over s e) with-parked) m (λ i. omega arith) (λ i. omega (arith, same-ids i));
      aside = aside;
    };
  }

  pub parked-records : records_in (over s e) with-parked ≡ records_in s a
  parked-records = ap (map record_at) chain-stays.1

-- without a frame, no address has a byte
no-bytes : (a : ℕ) → byte_held [] a ≡ (if inside (a / 4096) no_pages then Some 0 else None)
no-bytes a = sym (cond-out (inside (a / 4096) no_pages) (Some 0) None (nowhere (a / 4096)))

-- Elements are made.
module _ (s : Parts) (a : ChangeBuilder) (h : IsBuilding s a) (e : Store) (same : SameElements s.elements e) (aside : e.aside ≡ s.elements.aside) where
  pub grown-chain : IsChain e a.records × (links e a.records ≡ links s.elements a.records)
  grown-chain = chain-kept s.elements e a.records h.ready.records (λ i n. same i)

  grown-ids : (i : ℕ) → times i (owned e a.records) ≡ times i (owned s.elements a.records)
  grown-ids i = ap (λ (ns : List Link). times i (ids ns)) grown-chain.1

  still : Moves s.elements e (λ i. times i (owned s.elements a.records)) (λ i. times i (owned e a.records))
  still = moves-like s.elements e (λ i. times i (owned s.elements a.records)) (λ i. times i (owned s.elements a.records)) (λ i. times i (owned s.elements a.records)) (λ i. times i (owned e a.records))
      (moves-none s.elements e (λ i. times i (owned s.elements a.records)) same) (λ i. refl) grown-ids

  pub grown-builds : Builds s a (over s e) a
  grown-builds = records-build s a h e a.records grown-chain.0 a.last (h.last ∙ sym (ap (last_or 0) grown-chain.1)) still aside

  pub grown-records : records_in (over s e) a ≡ records_in s a
  grown-records = ap (map record_at) grown-chain.1

  pub grown-parked : parked_in (over s e) a ≡ parked_in s a
  grown-parked = records-parked s a h e a.records grown-chain.0 a.last (h.last ∙ sym (ap (last_or 0) grown-chain.1)) still aside

  pub grown-pushes : s.elements.spare ≤ e.spare → live_count e ≡ live_count s.elements → MakesElements s.elements e 0 → Pushes s a [] (over s e) a
  grown-pushes more live few = record { records = grown-records ∙ sym (append-nil (records_in s a)); parked = grown-parked; spare = omega (arith, more); live = omega (arith, live); made = few }

  -- another record, from a spare element
  module _ (added : Record) (end : Store) (chain : Chain) (stand : IsChain end chain) (last : ℕ) (is-last : last ≡ last_or 0 (links end chain)) (put : records_of end chain ≡ records_of e a.records ++ added ∷ [])
      (f : Leaves e end (owned e a.records) (owned end chain)) where
    pub push-builds : Builds s a (over s end) (record { records = chain; last = last; parked = a.parked })
    push-builds =
        let first : Builds s a (over s e) a = grown-builds in
        builds-follow s (over s e) (over s end) a a (record { records = chain; last = last; parked = a.parked }) first
        (records-build (over s e) a first.building end chain stand last is-last (moves-of e end (owned e a.records) (owned end chain) f) (aside-same e end f.as_many))

    pub push-pushes : s.elements.spare ≤ e.spare → live_count e ≡ live_count s.elements → MakesElements s.elements e 0 → end.spare + 1 ≡ e.spare → Pushes s a (added ∷ []) (over s end) (record { records = chain; last = last; parked = a.parked })
    push-pushes more live few less =
        let first : Builds s a (over s e) a = grown-builds in
        record {
          records = put ∙ ap (λ (z : List Record). z ++ added ∷ []) grown-records;
          parked = records-parked (over s e) a first.building end chain stand last is-last (moves-of e end (owned e a.records) (owned end chain) f) (aside-same e end f.as_many) ∙ grown-parked;
          spare = omega (arith, more, less);
          live = omega (arith, live, less, made-same e end f.as_many);
          made = omega (arith, few, made-same e end f.as_many);
        }

  -- what is parked becomes something else
  module _ (end : Store) (parked : TheParked) (stand : Stands end parked) (m : Moves e end (SubpoolStorage.hold e a.parked) (SubpoolStorage.hold end parked)) (kept : end.aside ≡ e.aside) where
    pub park-builds : Builds s a (over s end) (record { records = a.records; last = a.last; parked = parked })
    park-builds =
        let first : Builds s a (over s e) a = grown-builds in
        builds-follow s (over s e) (over s end) a a (record { records = a.records; last = a.last; parked = parked }) first
        (parked-build (over s e) a first.building end parked stand m kept)

    pub park-records : records_in (over s end) (record { records = a.records; last = a.last; parked = parked }) ≡ records_in s a
    park-records = parked-records (over s e) a grown-builds.building end parked stand m kept ∙ grown-records

  -- blank elements are set aside at last
  module _ (end : Store) (blanks : ℕ) (set : SetsAside e end blanks) where
    began : Builds s a (over s e) a
    began = grown-builds

    ready : Ready (over s e) (so_far a)
    ready = began.building.ready

    records-stay : IsChain end a.records × (links end a.records ≡ links e a.records)
    records-stay = chain-kept e end a.records ready.records (λ i n. set.same i)

    end-ids : (i : ℕ) → times i (owned end a.records) ≡ times i (owned e a.records)
    end-ids i = ap (λ (ns : List Link). times i (ids ns)) records-stay.1

    parked-stays : Stands end a.parked × (subpools_of end a.parked ≡ subpools_of e a.parked) × ((i : ℕ) → SubpoolStorage.hold end a.parked i ≡ SubpoolStorage.hold e a.parked i)
    parked-stays = storage-stays e end a.parked ready.stands.parked (λ i n. set.same i)

    own-kept : (i : ℕ) → 0 < hold (over s e) i → at end i ≡ at e i
    own-kept i n = set.same i

    end-hold : (i : ℕ) → hold (over s end) i ≡ hold (over s e) i
    end-hold = same-hold (over s e) end ready.stands.storage own-kept

    abbrev finished : TheChange
    finished = record { records = a.records; blanks = blanks; frames = []; parked = a.parked }

    pub finishes : Finishes s a blanks (over s end) finished
    finishes = record {
      ready = record {
        stands = record { storage = same-stands (over s e) end ready.stands.storage own-kept; parked = parked-stays.0; once = λ i. omega (arith, ready.stands.once i, end-hold i, parked-stays.2 i) };
        records = records-stay.0;
        aside = omega (arith, set.aside);
        once = λ i. omega (arith, ready.once i, end-hold i, parked-stays.2 i, end-ids i);
        frameless = λ page n. ready.frameless page (sym (same-unassigned (over s e) end ready.stands.storage own-kept page) ∙ n);
        out = ready.out;
        places = ready.places;
      };
      same = refl;
      shows = same-state (over s e) end ready.stands.storage own-kept ∙ began.keeps.shows;
      held = λ i. end-hold i ∙ began.keeps.held i;
      moves = moves-follow s.elements e end (builder_holds s a) (builder_holds (over s e) a) (change_holds end finished) began.keeps.moves
          (moves-like e end (builder_holds (over s e) a) (builder_holds (over s e) a) (builder_holds (over s e) a) (change_holds end finished) (moves-none e end (builder_holds (over s e) a) set.same)
          (λ i. refl) (λ i. omega (arith, end-ids i, parked-stays.2 i)));
      aside = omega (arith, set.aside, aside);
      meaning = λ i. record {
        records = (ap (map record_at) records-stay.1 ∙ grown-records) i;
        blanks = blanks;
        frames = λ x. no-bytes x i;
        parked = (parked-stays.1 ∙ grown-parked) i;
      };
      no_frame = refl;
    }

-- All of it is given back.
module _ (s : Parts) (b : ChangeBuilder) (h : IsBuilding s b) (e : Store) (m : Moves s.elements e (builder_holds s b) no_ids) (aside : e.aside ≡ s.elements.aside) where
  gone-own : (i : ℕ) → 0 < hold s i → at e i ≡ at s.elements i
  gone-own = rest-same s.elements e (builder_holds s b) no_ids m (hold s) (λ i. omega (arith, h.ready.once i)) (holds-live s h.ready.stands.storage)

  pub discard-keeps : Keeps s (over s e) (builder_holds s b) no_ids
  discard-keeps = record {
    same = refl;
    shows = same-state s e h.ready.stands.storage gone-own;
    held = same-hold s e h.ready.stands.storage gone-own;
    kept = gone-own;
    moves = m;
    aside = aside;
  }

-- It began with nothing.
module _ (p t u : Parts) (a b : ChangeBuilder) (none : (i : ℕ) → builder_holds p a i ≡ 0) (begun : Builds p a t b) where
  all-since : (g : ℕ → ℕ) → Keeps t u (builder_holds t b) g → Keeps p u no_ids g
  all-since g k =
      keeps-like p u (builder_holds p a) g no_ids g (keeps-follow p t u (builder_holds p a) (builder_holds t b) g begun.keeps k) (λ i. sym (none i)) (λ i. refl)

  module _ (same : u.region ≡ p.region) where
    same-tables : MoreTables p.region u.region
    same-tables = record {
      tables = λ page n. (let P : Tables → Type 0 = λ z. IsTrue (has_table z page) in subst P (sym same) n);
      segments = λ page. ap (λ (z : Tables). has_segment z page) same;
    }

  -- the change that was made
  pub begun-reserves : (blanks : ℕ) (d : Change) (c : TheChange) → Finishes t b blanks u c → meaning_with t b blanks ≡ d → Reserves p d c u
  begun-reserves blanks d c f is =
      let same : u.region ≡ p.region = ap (λ (z : Parts). z.region) f.same ∙ ap (λ (z : Parts). z.region) begun.keeps.same in
      record {
        ready = f.ready;
        shows = f.shows ∙ begun.keeps.shows;
        meaning = f.meaning ∙ is;
        held = λ i. f.held i ∙ begun.keeps.held i;
        moves = moves-like p.elements u.elements (builder_holds p a) (change_holds u.elements c) no_ids (change_holds u.elements c)
            (moves-follow p.elements t.elements u.elements (builder_holds p a) (builder_holds t b) (change_holds u.elements c) begun.keeps.moves f.moves) (λ i. sym (none i)) (λ i. refl);
        aside = omega (arith, f.aside, begun.keeps.aside, ap (λ (z : Change). z.blanks) f.meaning);
        tables = same-tables same;
        out = omega (arith, ap (λ (z : Tables). z.out) same, ap length f.no_frame);
      }

  pub made-reserves : {E : Type 0} (blanks : ℕ) (d : Change) (r : Result TheChange E) → IfOk r (λ c. Finishes t b blanks u c) → meaning_with t b blanks ≡ d → IfOk r (λ c. Reserves p d c u)
  made-reserves blanks d (Ok c) f is = begun-reserves blanks d c f is
  made-reserves blanks d (Err e) f is = tt

  -- or all was given back
  pub begun-grown : Keeps t u (builder_holds t b) no_ids → Grown p u
  begun-grown back =
      let k : Keeps p u no_ids no_ids = all-since no_ids back in
      let r : u.region ≡ p.region = ap (λ (z : Parts). z.region) k.same in
      record {
        same = k.same ∙ ap (λ (z : Tables). record p { elements = u.elements; region = z }) (sym r);
        elements = λ i. k.moves.others i refl refl;
        aside = k.aside;
        pages = λ page. ap (λ (z : Tables). bytes_at z page) r;
        tables = same-tables r;
        out = ap (λ (z : Tables). z.out) r;
      }

-- Of the records that are to be added, these are left: the others have been added so far.
pub record Leads (s : Parts) (a : ChangeBuilder) (all : List Record) (t : Parts) (b : ChangeBuilder) (left : List Record) : Type 0 where
  pub builds : Builds s a t b
  pub records : records_in t b ++ left ≡ records_in s a ++ all
  pub parked : parked_in t b ≡ parked_in s a
  pub spare : s.elements.spare + length left ≤ t.elements.spare + length all
  pub live : live_count t.elements + length left ≤ live_count s.elements + length all
  pub made : MakesElements s.elements t.elements (length all)

pub leads-none : (s : Parts) (a : ChangeBuilder) (all : List Record) → IsBuilding s a → Leads s a all s a all
leads-none s a all h = record { builds = builds-none s a h; records = refl; parked = refl; spare = omega arith; live = omega arith; made = omega arith }

module _ (s t : Parts) (a b : ChangeBuilder) (all left : List Record) (l : Leads s a all t b left) where
  -- the first ones of them are added
  pub leads-more : (u : Parts) (c : ChangeBuilder) (one rest : List Record) → left ≡ one ++ rest → Builds t b u c → Pushes t b one u c → Leads s a all u c rest
  leads-more u c one rest is k p = record {
    builds = builds-follow s t u a b c l.builds k;
    records = ap (λ (z : List Record). z ++ rest) p.records ∙ append_assoc (records_in t b) one rest ∙ ap (λ (z : List Record). records_in t b ++ z) (sym is) ∙ l.records;
    parked = p.parked ∙ l.parked;
    spare = omega (arith, l.spare, p.spare, ap length is, length-append one rest);
    live = omega (arith, l.live, p.live, ap length is, length-append one rest);
    made = makes-follow (made s.elements) (made t.elements) (made u.elements) (live_count s.elements) (live_count t.elements) (length all) (length one) (length all) l.made (omega (arith, l.live, ap length is, length-append one rest)) (omega arith) p.made;
  }

  -- the first ones of them are refused
  pub leads-refused : (u : Parts) (one rest : List Record) → left ≡ one ++ rest → MakesElements t.elements u.elements (length one) → MakesElements s.elements u.elements (length all)
  leads-refused u one rest is m =
      makes-follow (made s.elements) (made t.elements) (made u.elements) (live_count s.elements) (live_count t.elements) (length all) (length one) (length all) l.made (omega (arith, l.live, ap length is, length-append one rest)) (omega arith) m

  -- all were added
  pub leads-all : left ≡ [] → Pushes s a all t b
  leads-all is = record {
    records = sym (append-nil (records_in t b)) ∙ ap (λ (z : List Record). records_in t b ++ z) (sym is) ∙ l.records;
    parked = l.parked;
    spare = omega (arith, l.spare, ap length is);
    live = omega (arith, l.live, ap length is);
    made = l.made;
  }

  -- there is room for what is left
  pub leads-room : length all ≤ s.elements.spare → length left ≤ t.elements.spare
  leads-room h = omega (arith, l.spare, h)

pub pushes-follow : (s t u : Parts) (a b c : ChangeBuilder) (xs ys : List Record) → Pushes s a xs t b → Pushes t b ys u c → Pushes s a (xs ++ ys) u c
pushes-follow s t u a b c xs ys p q = record {
  records = q.records ∙ ap (λ (z : List Record). z ++ ys) p.records ∙ append_assoc (records_in s a) xs ys;
  parked = q.parked ∙ p.parked;
  spare = omega (arith, p.spare, q.spare, length-append xs ys);
  live = omega (arith, p.live, q.live, length-append xs ys);
  made = makes-follow (made s.elements) (made t.elements) (made u.elements) (live_count s.elements) (live_count t.elements) (length xs) (length ys) (length (xs ++ ys)) p.made (omega (arith, p.live, length-append xs ys)) (omega (arith, length-append xs ys)) q.made;
}
