-- A change that was reserved, next to the changes of a history.
use Rattle.std.specs.Prelude.{◌≡◌, ℕ, ◌+◌, ◌<◌, ◌≤◌, List, [], ◌∷◌, IsSome}
use Rattle.std.proofs.Common.{sym, subst, arith}
use Rattle.vsm_elements.specs.Store.{at}
use Rattle.vsm_elements.proofs.MoveLemmas.{once-after, all-after}
use Rattle.storage_changes.specs.State.{StorageState}
use Rattle.storage_changes.specs.Changes.{Change as Meaning, Fit}
use Rattle.storage_swap.specs.declared.storage.Parts.{Parts}
use Rattle.storage_swap.specs.Storage.{hold, state_of}
use Rattle.storage_swap.specs.declared.change.Change.{Change}
use Rattle.storage_swap.specs.Swap.{means, change_holds}
use Rattle.storage_swap.specs.Reserve.{Reserves}
use Rattle.storage_swap.specs.Apart.{all_hold, AreApart, AreWhole}
use Rattle.storage_swap.specs.HistoryKept.{apart-live, left, AllLeft, all-left}

-- If a change that fits the state was reserved, it fits, and the others mean what they did. If those were apart, all
-- are, and if those were whole with the storage, all are.
abbrev pub ReservedChangesFit : Type 0
ReservedChangesFit =
    (p t : Parts) (d : Meaning) (c : Change) → Reserves p d c t → Fit (state_of p) d
    → Fit (state_of t) (means t.elements c)
    × ((x : Change) → AreApart p (x ∷ []) → means t.elements x ≡ means p.elements x)
    × ((cs : List Change) → AreApart p cs → AreApart t (c ∷ cs))
    × ((cs : List Change) → AreWhole p cs → AreWhole t (c ∷ cs))

module _ (p t : Parts) (d : Meaning) (c : Change) (w : Reserves p d c t) where
  abbrev had : ℕ → ℕ
  had i = 0

  abbrev has : ℕ → ℕ
  has i = change_holds t.elements c i

  pub reserve-others : (x : Change) → AreApart p (x ∷ []) → means t.elements x ≡ means p.elements x
  reserve-others x h =
      (left p t had has w.moves w.tables.tables x h.changes.0 (λ i. omega (arith, h.once i))).meant

  module _ (xs : List Change) (h : AreApart p xs) where
    abbrev were : ℕ → ℕ
    were i = hold p i + all_hold p.elements xs i

    reserve-left : AllLeft p t had has w.moves w.tables.tables xs
    reserve-left = all-left p t had has w.moves w.tables.tables xs h.changes (λ i. omega (arith, h.once i))

    reserve-once : (i : ℕ) → has i + were i ≤ 1
    reserve-once = once-after p.elements t.elements had has w.moves were (λ i. omega (arith, h.once i))
        (apart-live p xs h) (λ i. omega (arith, w.ready.once i))

    pub reserve-apart : AreApart t (c ∷ xs)
    reserve-apart = record {
      storage = w.ready.stands.storage;
      changes = (
        record {
          records = w.ready.records;
          parked = w.ready.stands.parked;
          places = w.ready.places;
        },
        reserve-left.stand,
      );
      once = λ i. omega (arith, reserve-once i, w.held i, reserve-left.held i);
      frameless = w.ready.frameless;
      aside = omega (arith, h.aside, w.aside);
      out = omega (arith, h.out, w.out);
    }

    reserve-all : ((i : ℕ) → IsSome (at p.elements i) → 0 < were i) → (i : ℕ) → IsSome (at t.elements i)
        → 0 < hold t i + all_hold t.elements (c ∷ xs) i
    reserve-all all i live = omega (
      arith,
      w.held i,
      reserve-left.held i,
      all-after p.elements t.elements had has w.moves were (λ j. omega (arith, h.once j)) (apart-live p xs h)
          (λ j here. omega (arith, all j here)) i live,
    )

  pub reserve-whole : (xs : List Change) → AreWhole p xs → AreWhole t (c ∷ xs)
  reserve-whole xs h = record {
    apart = reserve-apart xs h.apart;
    all = reserve-all xs h.apart h.all;
    all_aside = omega (arith, h.all_aside, w.aside);
    all_out = omega (arith, h.all_out, w.out);
  }

pub reserved-changes-fit : ReservedChangesFit
reserved-changes-fit p t d c w f =
    let P : StorageState → Type 0 = λ m. Fit m d in
    let Q : Meaning → Type 0 = λ x. Fit (state_of t) x in (
      subst Q (sym w.meaning) (subst P (sym w.shows) f),
      reserve-others p t d c w,
      reserve-apart p t d c w,
      reserve-whole p t d c w,
    )
