-- A chain of records next to the storage and parked subpools, and the exchange of its records.
use Rattle.std.specs.Prelude.{◌≡◌, ℕ, ◌+◌, ◌≤◌, List, [], ◌∷◌, map, length}
use Rattle.vsm_elements.specs.Store.{Store, made_and_aside}
use Rattle.vsm_elements.specs.Owners.{times, Moves}
use Rattle.vsm_elements.specs.Chain.{Link, links, owned, IsChain}
use Rattle.vsm_elements.specs.declared.chain.Chain.{Chain}
use Rattle.raw_region.specs.Frames.{PageFrame}
use Rattle.raw_region.specs.Pages.{SameTables}
use Rattle.subpool_storage.specs.declared.storage.SubpoolStorage.{SubpoolStorage}
use Rattle.storage_changes.specs.declared.record.Record.{Record}
use Rattle.storage_changes.specs.Records.{record_of}
use Rattle.storage_changes.specs.Steps.{step, walk}
use Rattle.storage_changes.specs.Turned.{turned, back_onto}
use Rattle.storage_changes.specs.Fits.{Fits, FitInTurn}
use Rattle.storage_swap.specs.declared.storage.Parts.{Parts}
use Rattle.storage_swap.specs.Storage.{hold_with, state_of, walk_of, StandsWith}
use Rattle.storage_swap.specs.Exchange.{HavePlaces, SameFrames}

abbrev pub record_at : Link → Record
record_at n = record_of n.words

-- the records of a change, in their order
abbrev pub records_of : Store → Chain → List Record
records_of s c = map record_at (links s c)

-- how often the storage, parked subpools and a chain hold an element
abbrev pub hold_beside : Parts → SubpoolStorage → Chain → ℕ → ℕ
hold_beside p q c i = hold_with p q i + times i (owned p.elements c)

-- the storage is well formed with the parked subpools, and so is the chain next to them
pub record Beside (p : Parts) (q : SubpoolStorage) (c : Chain) : Type 0 where
  pub stands : StandsWith p q
  pub chain : IsChain p.elements c
  pub once : (i : ℕ) → hold_beside p q c i ≤ 1

-- how often they and two chains hold one
abbrev pub hold_both : Parts → SubpoolStorage → Chain → Chain → ℕ → ℕ
hold_both p q c d i = hold_with p q i + (times i (owned p.elements c) + times i (owned p.elements d))

-- the storage is well formed with the parked subpools, and so are two chains next to them
pub record BesideBoth (p : Parts) (q : SubpoolStorage) (c d : Chain) : Type 0 where
  pub stands : StandsWith p q
  pub chain : IsChain p.elements c
  pub done : IsChain p.elements d
  pub once : (i : ℕ) → hold_both p q c d i ≤ 1

-- the first record changed sides with the storage, and went before those that are done; no element was made
pub record SwapsFirst (p t : Parts) (given given' : List PageFrame) (q q' : SubpoolStorage) (c c' d d' : Chain)
    (r : Record) (rs : List Record) : Type 0 where
  pub beside : BesideBoth t q' c' d'
  pub moves : Moves p.elements t.elements (hold_both p q c d) (hold_both t q' c' d')
  pub as_many : made_and_aside t.elements ≡ made_and_aside p.elements
  pub rest : records_of t.elements c' ≡ rs
  pub done : records_of t.elements d' ≡ turned (state_of p) r ∷ records_of p.elements d
  pub steps :
      (kept : ℕ) → kept ≤ p.elements.spare → Fits (walk_of p given q kept) r
      → (kept ≤ t.elements.spare) × (walk_of t given' q' kept ≡ step (walk_of p given q kept) r)
  pub out : t.region.out + length given ≡ p.region.out + length given'
  pub tables : SameTables p.region t.region
  pub frames : SameFrames p.region t.region
  pub places : HavePlaces p given → HavePlaces t given'

-- all records did, in their order
pub record SwapsAll (p t : Parts) (given given' : List PageFrame) (q q' : SubpoolStorage) (c c' : Chain)
    : Type 0 where
  pub beside : Beside t q' c'
  pub moves : Moves p.elements t.elements (hold_beside p q c) (hold_beside t q' c')
  pub as_many : made_and_aside t.elements ≡ made_and_aside p.elements
  pub steps :
      (kept : ℕ) → kept ≤ p.elements.spare → FitInTurn (walk_of p given q kept) (records_of p.elements c)
      → (kept ≤ t.elements.spare)
      × (walk_of t given' q' kept ≡ walk (walk_of p given q kept) (records_of p.elements c))
      × (records_of t.elements c' ≡ back_onto (walk_of p given q kept) [] (records_of p.elements c))
  pub out : t.region.out + length given ≡ p.region.out + length given'
  pub tables : SameTables p.region t.region
  pub frames : SameFrames p.region t.region
  pub places : HavePlaces p given → HavePlaces t given'
