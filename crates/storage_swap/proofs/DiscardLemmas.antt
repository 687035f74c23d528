-- A change is dropped.
use Rattle.std.proofs.Common.{◌≡◌, ℕ, ◌+◌, ◌≤◌, List, [], ◌++◌, length, refl, sym, ap, ◌∙◌, arith}
use Rattle.vsm_elements.specs.Store.{Store, SameElements, SetsAside, made_and_aside}
use Rattle.vsm_elements.specs.Chain.{Link, links, ids, owned, IsChain}
use Rattle.vsm_elements.specs.declared.chain.Chain.{Chain}
use Rattle.vsm_elements.specs.Ownership.{Leaves}
use Rattle.vsm_elements.specs.Owners.{times, Moves}
use Rattle.std.proofs.lemmas.List.{length-append}
use Rattle.vsm_elements.proofs.TimesLemmas.{times-append}
use Rattle.vsm_elements.proofs.MoveLemmas.{moves-of, moves-follow, moves-by, moves-like, moves-none, rest-same, chain-kept}
use Rattle.subpool_storage.specs.declared.storage.SubpoolStorage.{SubpoolStorage as TheParked}
use Rattle.subpool_storage.specs.SubpoolStorage.{subpools_of, Stands}
use Rattle.subpool_storage.specs.SubpoolStorage
use Rattle.subpool_storage.specs.Held.{GivenBack}
use Rattle.raw_region.specs.Pages.{Pages as Tables, SamePages, SameTables}
use Rattle.storage_swap.specs.declared.storage.Parts.{Parts}
use Rattle.storage_swap.specs.declared.change.Change.{Change as TheChange}
use Rattle.storage_swap.specs.Swap.{held_by, change_holds, Ready, Discards}
use Rattle.storage_swap.proofs.AsideLemmas.{made-same, aside-same}
use Rattle.storage_swap.proofs.Below.{storage-owns, storage-stays}

abbrev no_ids : ℕ → ℕ
no_ids i = 0

module _ (s : Store) (records : Chain) (parked : TheParked) (stands : Stands s parked) (once : (i : ℕ) → held_by s records parked i ≤ 1)
    (e : Store) (f : Leaves s e (owned s records) []) where
  abbrev record_ids : ℕ → ℕ
  record_ids i = times i (owned s records)

  abbrev parked_ids : ℕ → ℕ
  parked_ids i = SubpoolStorage.hold s parked i

  first : Moves s e record_ids no_ids
  first = moves-of s e (owned s records) [] f

  pub parked-kept : Stands e parked × (subpools_of e parked ≡ subpools_of s parked) × ((i : ℕ) → SubpoolStorage.hold e parked i ≡ parked_ids i)
  parked-kept = storage-stays s e parked stands
      (λ i h. rest-same s e record_ids no_ids first parked_ids (λ j. omega (arith, once j)) (storage-owns s parked stands).1 i h)

  pub discarded : (end : Store) → Moves e end (SubpoolStorage.hold e parked) no_ids → Moves s end (held_by s records parked) no_ids
  discarded end m = moves-follow s e end (held_by s records parked) parked_ids no_ids
      (moves-by s e record_ids no_ids (held_by s records parked) parked_ids first (λ i. omega arith) (λ i. omega arith))
      (moves-like e end (SubpoolStorage.hold e parked) no_ids parked_ids no_ids m (λ i. sym (parked-kept.2 i)) (λ i. refl))

  pub all-back : (end : Store) → GivenBack (SubpoolStorage.hold e parked) e end → GivenBack (held_by s records parked) s end
  all-back end h = record {
    ids = owned s records ++ h.ids;
    held = λ i. omega (arith, times-append i (owned s records) h.ids, h.held i, parked-kept.2 i);
    spare = omega (arith, f.spare, h.spare, length-append (owned s records) h.ids);
  }

-- The blank elements of a change are spare again: its records and what it has parked are as they were.
module _ (p : Parts) (c : TheChange) (r : Ready p c) (e : Store) (back : SetsAside e p.elements c.blanks) where
  same-elements : SameElements p.elements e
  same-elements i = sym (back.same i)

  pub records-still : IsChain e c.records × (links e c.records ≡ links p.elements c.records)
  records-still = chain-kept p.elements e c.records r.records (λ i h. same-elements i)

  pub parked-still : Stands e c.parked × (subpools_of e c.parked ≡ subpools_of p.elements c.parked) × ((i : ℕ) → SubpoolStorage.hold e c.parked i ≡ SubpoolStorage.hold p.elements c.parked i)
  parked-still = storage-stays p.elements e c.parked r.stands.parked (λ i h. same-elements i)

  pub held-still : (i : ℕ) → held_by e c.records c.parked i ≡ change_holds p.elements c i
  held-still i = omega (arith, parked-still.2 i, ap (λ (ns : List Link). times i (ids ns)) records-still.1)

  pub once-still : (i : ℕ) → held_by e c.records c.parked i ≤ 1
  once-still i = omega (arith, held-still i, r.once i)

  -- then they are given back, and its frames
  pub change-discarded : (end : Store) (region : Tables) → Moves e end (held_by e c.records c.parked) no_ids → GivenBack (held_by e c.records c.parked) e end
      → made_and_aside end ≡ made_and_aside e → SamePages p.region region → SameTables p.region region → region.out + length c.frames ≡ p.region.out
      → region.spare ≡ p.region.spare + length c.frames → region.made ≡ p.region.made → Discards p c (record p { elements = end; region = region })
  change-discarded end region m given as-many pages tables out spares made = record {
    before = r;
    same = refl;
    moves = moves-follow p.elements e end (change_holds p.elements c) (change_holds p.elements c) no_ids (moves-none p.elements e (change_holds p.elements c) same-elements)
        (moves-like e end (held_by e c.records c.parked) no_ids (change_holds p.elements c) no_ids m (λ i. sym (held-still i)) (λ i. refl));
    pages = pages;
    tables = tables;
    out = out;
    spare = record { ids = given.ids; held = λ i. given.held i ∙ held-still i; spare = omega (arith, given.spare, back.spare) };
    aside = omega (arith, aside-same e end as-many, back.aside);
    as_many = made-same e end as-many ∙ sym back.made;
    spare_frames = spares;
    made = made;
  }
