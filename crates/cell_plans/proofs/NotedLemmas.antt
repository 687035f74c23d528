-- A queue of noted areas, next to the change that is being made.
use Rattle.std.proofs.Common.{◌≡◌, ℕ, ◌+◌, ◌*◌, ◌-◌, ◌<◌, ◌≤◌, List, [], length, map, IsSome, inl, inr, refl, sym, ap, ◌∙◌, arith}
use Rattle.vsm_elements.specs.Store.{Store, at, made, live_count, AreLive, SameElements}
use Rattle.vsm_elements.specs.Chain.{Link, last_or, links, ids, IsChain, owned as links_own}
use Rattle.vsm_elements.specs.Ownership.{Owns, Leaves}
use Rattle.vsm_elements.specs.Owners.{times, Moves}
use Rattle.vsm_elements.proofs.LiveLemmas.{length-subset, live_upto, live_listed}
use Rattle.vsm_elements.proofs.TimesLemmas.{times-some, some-from, times-once}
use Rattle.vsm_elements.proofs.MoveLemmas.{none-or-some, moves-of, moves-follow, moves-by, moves-like, moves-none, rest-same, once-after, chain-live, chain-kept}
use Rattle.free_queue.specs.declared.queue.FreeQueue.{FreeQueue}
use Rattle.free_queue.specs.FreeQueue.{areas, is_free, owned, IsFreeQueue}
use Rattle.free_queue.proofs.QueueLemmas.{queues_stand, queues_kept}
use Rattle.subpool_storage.specs.SubpoolStorage
use Rattle.storage_swap.specs.declared.storage.Parts.{Parts}
use Rattle.storage_swap.specs.Storage.{hold, hold_with}
use Rattle.storage_swap.specs.declared.builder.ChangeBuilder.{ChangeBuilder}
use Rattle.storage_swap.specs.Beside.{record_at}
use Rattle.storage_swap.specs.Growth.{MakesElements}
use Rattle.storage_swap.specs.Swap.{Ready}
use Rattle.storage_swap.specs.Builder.{so_far, records_in, parked_in, builder_holds, IsBuilding, Keeps, Builds}
use Rattle.storage_swap.proofs.KeptLemmas.{over, holds-live, with-live, kept-hold, kept-parked-hold, kept-stands, kept-state, kept-unassigned, kept-parked}
use Rattle.storage_swap.proofs.AsideLemmas.{made-same, aside-same}
use Rattle.storage_swap.proofs.BuilderLemmas.{builds-none, keeps-follow, keeps-like}
use Rattle.cell_plans.specs.Noted.{noted_count, holds_noted, StandBeside, BuildsBeside, NotesOne}

-- different live elements are no more than all live ones
pub owned-live : (s : Store) (mine : List ℕ) → Owns s mine → ((all : List ℕ) → AreLive s all → length all + s.aside ≡ live_count s) → length mine ≤ live_count s
owned-live s mine own counted =
    let all = live_listed s in
    let few = length-subset mine (live_upto s (128 * length s.blocks)) own.distinct (λ i m. all.every i (own.live i m)) in
    omega (arith, few, counted (live_upto s (128 * length s.blocks)) all)

live-step : (blocks e t had has : ℕ) → t + has ≡ e + had → had ≤ blocks - e → (blocks - t) + had ≤ (blocks - e) + has
live-step blocks e t had has same within = omega (arith, same, within)

-- a queue of `had` elements then has `has`, while nothing is made
module _ (e t : Store) (had has : List ℕ) (f : Leaves e t had has) (within : length had ≤ live_count e) where
  pub leaves-live : live_count t + length had ≤ live_count e + length has
  leaves-live = omega (arith, live-step (made e) e.spare t.spare (length had) (length has) f.spare within, made-same e t f.as_many)

  pub notes-one : (s : Store) (was : ℕ) → was ≡ length had → s.spare ≤ e.spare → MakesElements s e 2 → live_count e ≡ live_count s → e.spare ≤ t.spare + 1 → NotesOne s t was (length has)
  notes-one s was is grows grown live spares = record {
    few = omega (arith, is, f.spare, spares);
    spare = omega (arith, is, f.spare, grows);
    live = omega (arith, is, leaves-live, live);
    made = omega (arith, made-same e t f.as_many, grown);
  }

-- made elements leave the queue as it was
module _ (s e : Store) (q : FreeQueue) (h : IsFreeQueue s q) (same : SameElements s e) where
  grown : IsFreeQueue e q × (areas e q ≡ areas s q) × ((d : ℕ) → is_free e q d ≡ is_free s q d) × (owned e q ≡ owned s q)
  grown = queues_kept s e q h (λ i m. same i)

  pub grown-stands : IsFreeQueue e q
  grown-stands = grown.0

  pub grown-free : (d : ℕ) → is_free e q d ≡ is_free s q d
  grown-free = grown.2

  pub grown-owned : owned e q ≡ owned s q
  grown-owned = grown.3

  pub grown-moves : Moves s e (λ i. times i (owned s q)) (λ i. times i (owned e q))
  grown-moves = moves-like s e (λ i. times i (owned s q)) (λ i. times i (owned s q)) (λ i. times i (owned s q)) (λ i. times i (owned e q))
      (moves-none s e (λ i. times i (owned s q)) same) (λ i. refl) (λ i. ap (times i) grown-owned)

  pub then-moves : (t : Store) (r : FreeQueue) → Leaves e t (owned e q) (owned t r) → Moves s t (λ i. times i (owned s q)) (λ i. times i (owned t r))
  then-moves t r f = moves-follow s e t (λ i. times i (owned s q)) (λ i. times i (owned e q)) (λ i. times i (owned t r)) grown-moves (moves-of e t (owned e q) (owned t r) f)

-- Nothing is noted.
pub none-noted : (s : Parts) (a : ChangeBuilder) (q : FreeQueue) → IsBuilding s a → IsFreeQueue s.elements q → owned s.elements q ≡ [] → BuildsBeside s a s a q
none-noted s a q h stand none = record {
  beside = record { building = h; queue = stand; once = λ i. omega (arith, h.ready.once i, ap (times i) none) };
  keeps = keeps-like s s (builder_holds s a) (builder_holds s a) (builder_holds s a) (holds_noted s a q) (builds-none s a h).keeps (λ i. refl) (λ i. omega (arith, ap (times i) none));
}

-- The change that is made goes on, and the queue stays.
module _ (t : Parts) (b : ChangeBuilder) (q : FreeQueue) (h : StandBeside t b q) (u : Parts) (c : ChangeBuilder) (k : Builds t b u c) where
  abbrev others : ℕ → ℕ
  others i = hold t i + times i (owned t.elements q)

  others-live : (i : ℕ) → 0 < others i → IsSome (at t.elements i)
  others-live i n = elim (none-or-some (hold t i)) [
    | inr z ↦ holds-live t h.building.ready.stands.storage i z
    | inl z ↦ (queues_stand t.elements q h.queue).1.live i (some-from i (owned t.elements q) (omega (arith, n, z)))
  ]

  others-apart : (i : ℕ) → builder_holds t b i + others i ≤ 1
  others-apart i = omega (arith, h.once i)

  others-kept : (i : ℕ) → 0 < others i → at u.elements i ≡ at t.elements i
  others-kept = rest-same t.elements u.elements (builder_holds t b) (builder_holds u c) k.keeps.moves others others-apart others-live

  others-once : (i : ℕ) → builder_holds u c i + others i ≤ 1
  others-once = once-after t.elements u.elements (builder_holds t b) (builder_holds u c) k.keeps.moves others others-apart others-live
      (λ i. omega (arith, k.building.ready.once i))

  stays : IsFreeQueue u.elements q × (areas u.elements q ≡ areas t.elements q) × ((d : ℕ) → is_free u.elements q d ≡ is_free t.elements q d) × (owned u.elements q ≡ owned t.elements q)
  stays = queues_kept t.elements u.elements q h.queue (λ i m. others-kept i (omega (arith, times-some i (owned t.elements q) m)))

  pub stays-free : (d : ℕ) → is_free u.elements q d ≡ is_free t.elements q d
  stays-free = stays.2

  pub stays-count : noted_count u q ≡ noted_count t q
  stays-count = ap length stays.3

  pub stays-beside : StandBeside u c q
  stays-beside = record {
    building = k.building;
    queue = stays.0;
    once = λ i. omega (arith, others-once i, k.keeps.held i, ap (times i) stays.3);
  }

  pub stays-keeps : Keeps t u (holds_noted t b q) (holds_noted u c q)
  stays-keeps = record {
    same = k.keeps.same;
    shows = k.keeps.shows;
    held = k.keeps.held;
    kept = k.keeps.kept;
    moves = moves-by t.elements u.elements (builder_holds t b) (builder_holds u c) (holds_noted t b q) (holds_noted u c q) k.keeps.moves
        (λ i. omega arith) (λ i. omega (arith, ap (times i) stays.3));
    aside = k.keeps.aside;
  }

-- The queue becomes another, or is dropped, and the change that is made stays.
module _ (t : Parts) (b : ChangeBuilder) (q : FreeQueue) (h : StandBeside t b q) (e : Store) (g : ℕ → ℕ) (m : Moves t.elements e (λ i. times i (owned t.elements q)) g) (kept : e.aside ≡ t.elements.aside) where
  abbrev had : ℕ → ℕ
  had i = times i (owned t.elements q)

  abbrev rest : ℕ → ℕ
  rest i = times i (links_own t.elements b.records) + hold_with t b.parked i

  ready : Ready t (so_far b)
  ready = h.building.ready

  with-once : (i : ℕ) → had i + hold_with t b.parked i ≤ 1
  with-once i = omega (arith, h.once i)

  rest-live : (i : ℕ) → 0 < rest i → IsSome (at t.elements i)
  rest-live i n = elim (none-or-some (times i (links_own t.elements b.records))) [
    | inr z ↦ chain-live t.elements b.records ready.records i z
    | inl z ↦ with-live t b.parked ready.stands i (omega (arith, n, z))
  ]

  apart : (i : ℕ) → had i + rest i ≤ 1
  apart i = omega (arith, h.once i)

  rest-kept : (i : ℕ) → 0 < rest i → at e i ≡ at t.elements i
  rest-kept = rest-same t.elements e had g m rest apart rest-live

  rest-once : ((i : ℕ) → g i ≤ 1) → (i : ℕ) → g i + rest i ≤ 1
  rest-once = once-after t.elements e had g m rest apart rest-live

  chain-stays : IsChain e b.records × (links e b.records ≡ links t.elements b.records)
  chain-stays = chain-kept t.elements e b.records ready.records (λ i n. rest-kept i (omega (arith, n)))

  same-ids : (i : ℕ) → times i (links_own e b.records) ≡ times i (links_own t.elements b.records)
  same-ids i = ap (λ (ns : List Link). times i (ids ns)) chain-stays.1

  same-holds : (i : ℕ) → hold (over t e) i ≡ hold t i
  same-holds = kept-hold t b.parked e ready.stands had g m with-once

  same-parked : (i : ℕ) → SubpoolStorage.hold e b.parked i ≡ SubpoolStorage.hold t.elements b.parked i
  same-parked = kept-parked-hold t b.parked e ready.stands had g m with-once

  same-builder : (i : ℕ) → builder_holds (over t e) b i ≡ builder_holds t b i
  same-builder i = omega (arith, same-ids i, same-parked i)

  pub noted-building : IsBuilding (over t e) b
  noted-building = record {
    ready = record {
      stands = kept-stands t b.parked e ready.stands had g m with-once;
      records = chain-stays.0;
      aside = omega arith;
      once = λ i. omega (arith, ready.once i, same-holds i, same-parked i, same-ids i);
      frameless = λ page n. ready.frameless page (sym (kept-unassigned t b.parked e ready.stands had g m with-once page) ∙ n);
      out = ready.out;
      places = ready.places;
    };
    last = h.building.last ∙ sym (ap (last_or 0) chain-stays.1);
  }

  pub noted-keeps : Keeps t (over t e) (holds_noted t b q) (λ i. builder_holds (over t e) b i + g i)
  noted-keeps = record {
    same = refl;
    shows = kept-state t b.parked e ready.stands had g m with-once;
    held = same-holds;
    kept = λ i n. rest-kept i (omega (arith, n));
    moves = moves-by t.elements e had g (holds_noted t b q) (λ i. builder_holds (over t e) b i + g i) m (λ i. omega arith) (λ i. omega (arith, same-builder i));
    aside = kept;
  }

  pub noted-records : records_in (over t e) b ≡ records_in t b
  noted-records = ap (map record_at) chain-stays.1

  pub noted-parked : parked_in (over t e) b ≡ parked_in t b
  noted-parked = kept-parked t b.parked e ready.stands had g m with-once

  noted-once : ((i : ℕ) → g i ≤ 1) → (i : ℕ) → hold (over t e) i + (builder_holds (over t e) b i + g i) ≤ 1
  noted-once own i = omega (arith, rest-once own i, same-holds i, same-builder i)

-- The queue became another one, which is well formed.
module _ (s : Parts) (a : ChangeBuilder) (t : Parts) (b : ChangeBuilder) (q : FreeQueue) (w : BuildsBeside s a t b q) (e : Store) (r : FreeQueue) (stand : IsFreeQueue e r)
    (m : Moves t.elements e (λ i. times i (owned t.elements q)) (λ i. times i (owned e r))) (kept : e.aside ≡ t.elements.aside) where
  own : (i : ℕ) → times i (owned e r) ≤ 1
  own i = times-once i (owned e r) (queues_stand e r stand).1.distinct

  pub noted-builds : BuildsBeside s a (over t e) b r
  noted-builds = record {
    beside = record { building = noted-building t b q w.beside e (λ i. times i (owned e r)) m kept; queue = stand; once = noted-once t b q w.beside e (λ i. times i (owned e r)) m kept own };
    keeps = keeps-follow s t (over t e) (builder_holds s a) (holds_noted t b q) (holds_noted (over t e) b r) w.keeps (noted-keeps t b q w.beside e (λ i. times i (owned e r)) m kept);
  }

-- The queue is gone.
module _ (s : Parts) (a : ChangeBuilder) (t : Parts) (b : ChangeBuilder) (q : FreeQueue) (w : BuildsBeside s a t b q) (e : Store) (f : Leaves t.elements e (owned t.elements q) []) where
  pub gone-moves : Moves t.elements e (λ i. times i (owned t.elements q)) (λ i. 0)
  gone-moves = moves-of t.elements e (owned t.elements q) [] f

  pub gone-builds : Builds s a (over t e) b
  gone-builds = record {
    building = noted-building t b q w.beside e (λ i. 0) gone-moves (aside-same t.elements e f.as_many);
    keeps = keeps-like s (over t e) (builder_holds s a) (λ i. builder_holds (over t e) b i + 0) (builder_holds s a) (builder_holds (over t e) b)
        (keeps-follow s t (over t e) (builder_holds s a) (holds_noted t b q) (λ i. builder_holds (over t e) b i + 0) w.keeps (noted-keeps t b q w.beside e (λ i. 0) gone-moves (aside-same t.elements e f.as_many)))
        (λ i. refl) (λ i. omega arith);
  }

-- The change went on next to the queue.
pub builds-on : (s : Parts) (a : ChangeBuilder) (t : Parts) (b : ChangeBuilder) (q : FreeQueue) → BuildsBeside s a t b q → (u : Parts) (c : ChangeBuilder) → Builds t b u c → BuildsBeside s a u c q
builds-on s a t b q w u c k = record {
  beside = stays-beside t b q w.beside u c k;
  keeps = keeps-follow s t u (builder_holds s a) (holds_noted t b q) (holds_noted u c q) w.keeps (stays-keeps t b q w.beside u c k);
}
