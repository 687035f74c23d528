-- The storage and its changes as steps that can be taken back: the laws, from what a swap and a discard leave.
use Rattle.std.specs.Prelude.{◌≡◌, ℕ, ◌+◌, ◌<◌, ◌≤◌, List, [], ◌∷◌, ◌++◌, IsSome}
use Rattle.std.proofs.Common.{sym, ap, ◌∙◌, subst, arith}
use Rattle.vsm_elements.specs.Store.{at}
use Rattle.vsm_elements.proofs.MoveLemmas.{rest-same, once-after, all-after}
use Rattle.storage_changes.specs.Changes.{Fit, overlay, inverse}
use Rattle.storage_changes.proofs.WalkLemmas.{changes_lead_back}
use Rattle.storage_swap.specs.declared.storage.Parts.{Parts}
use Rattle.storage_swap.specs.Storage.{hold, state_of, Stand}
use Rattle.storage_swap.specs.declared.change.Change.{Change}
use Rattle.storage_swap.specs.Swap.{means, change_holds, both_hold, Ready, Swaps, Discards}
use Rattle.step_history.specs.Chain.{Inverts}
use Rattle.step_history.specs.Single.{SingleSteps}
use Rattle.storage_swap.specs.Apart.{all_hold, meaning, AreApart, AreWhole, CanSwap}
use Rattle.storage_swap.specs.HistoryKept.{storage-live, all-live, apart-live, tables-kept, moved-hold, moved-stand}
use Rattle.storage_swap.specs.HistoryKept.{moved-unassigned, moved-state, left, AllLeft, all-left, hold-append}
use Rattle.storage_swap.specs.HistoryKept.{blanks-append, frames-append, apart-pick, apart-put, apart-rest}

-- a change that is apart from the storage is next to it
apart-ready : (p : Parts) (c : Change) (cs : List Change) → AreApart p (c ∷ cs) → Ready p c
apart-ready p c cs h = record {
  stands = record {
    storage = h.storage;
    parked = h.changes.0.parked;
    once = λ i. omega (arith, h.once i);
  };
  records = h.changes.0.records;
  aside = omega (arith, h.aside);
  once = λ i. omega (arith, h.once i);
  frameless = h.frameless;
  out = omega (arith, h.out);
  places = h.changes.0.places;
}

-- a swap

swap-others : (p t : Parts) (c d x : Change) → AreApart p (c ∷ x ∷ []) → Swaps p c t d
    → means t.elements x ≡ means p.elements x
swap-others p t c d x h w =
    (left p t (both_hold p c) (both_hold t d) w.moves (tables-kept p.region t.region w.tables) x h.changes.1.0
    (λ i. omega (arith, h.once i))).meant

module _ (p t : Parts) (c d : Change) (w : Swaps p c t d) (xs : List Change) (h : AreApart p (c ∷ xs)) where
  beside-once : (i : ℕ) → both_hold p c i + all_hold p.elements xs i ≤ 1
  beside-once i = omega (arith, h.once i)

  swap-left : AllLeft p t (both_hold p c) (both_hold t d) w.moves (tables-kept p.region t.region w.tables) xs
  swap-left = all-left p t (both_hold p c) (both_hold t d) w.moves (tables-kept p.region t.region w.tables) xs
      h.changes.1 beside-once

  swap-once : (i : ℕ) → both_hold t d i + all_hold p.elements xs i ≤ 1
  swap-once = once-after p.elements t.elements (both_hold p c) (both_hold t d) w.moves (all_hold p.elements xs)
      beside-once (all-live p xs h.changes.1) w.after.once

  swap-apart : AreApart t (d ∷ xs)
  swap-apart = record {
    storage = w.after.stands.storage;
    changes = (
      record {
        records = w.after.records;
        parked = w.after.stands.parked;
        places = w.after.places;
      },
      swap-left.stand,
    );
    once = λ i. omega (arith, swap-once i, swap-left.held i);
    frameless = w.after.frameless;
    aside = omega (arith, h.aside, w.aside);
    out = omega (arith, h.out, w.out);
  }

  swap-all : ((i : ℕ) → IsSome (at p.elements i) → 0 < both_hold p c i + all_hold p.elements xs i)
      → (i : ℕ) → IsSome (at t.elements i) → 0 < both_hold t d i + all_hold t.elements xs i
  swap-all all i live = omega (
    arith,
    swap-left.held i,
    all-after p.elements t.elements (both_hold p c) (both_hold t d) w.moves (all_hold p.elements xs) beside-once
        (all-live p xs h.changes.1) all i live,
  )

swap-whole : (xs ys : List Change) (c d : Change) (p t : Parts) → AreWhole p (xs ++ c ∷ ys) → Swaps p c t d
    → AreWhole t (xs ++ d ∷ ys)
swap-whole xs ys c d p t h w = record {
  apart = apart-put xs ys d t (swap-apart p t c d w (xs ++ ys) picked);
  all = λ i live. omega (
    arith,
    swap-all p t c d w (xs ++ ys) picked all-before i live,
    hold-append t.elements xs (d ∷ ys) i,
    hold-append t.elements xs ys i,
  );
  all_aside = omega (
    arith,
    h.all_aside,
    w.aside,
    blanks-append xs (c ∷ ys),
    blanks-append xs (d ∷ ys),
    blanks-append xs ys,
  );
  all_out = omega (
    arith,
    h.all_out,
    w.out,
    frames-append xs (c ∷ ys),
    frames-append xs (d ∷ ys),
    frames-append xs ys,
  );
} where
  picked : AreApart p (c ∷ (xs ++ ys))
  picked = apart-pick xs ys c p h.apart

  all-before : (i : ℕ) → IsSome (at p.elements i) → 0 < both_hold p c i + all_hold p.elements (xs ++ ys) i
  all-before i live = omega (
    arith,
    h.all i live,
    hold-append p.elements xs (c ∷ ys) i,
    hold-append p.elements xs ys i,
  )

-- a discarded change

module _ (p t : Parts) (c : Change) (w : Discards p c t) where
  abbrev had : ℕ → ℕ
  had i = change_holds p.elements c i

  abbrev has : ℕ → ℕ
  has i = 0

  own-stay : (i : ℕ) → 0 < hold p i → at t.elements i ≡ at p.elements i
  own-stay = rest-same p.elements t.elements had has w.moves (λ i. hold p i) (λ i. omega (arith, w.before.once i))
      (storage-live p w.before.stands.storage)

  discard-hold : (i : ℕ) → hold t i ≡ hold p i
  discard-hold i = ap (λ (z : Parts). hold z i) w.same
      ∙ moved-hold p t.elements t.region w.before.stands.storage own-stay i

  discard-stand : Stand t
  discard-stand =
      let P : Parts → Type 0 = λ z. Stand z in
      subst P (sym w.same) (moved-stand p t.elements t.region w.before.stands.storage own-stay)

  unassigned-kept : (page : ℕ) → (state_of t).unassigned page ≡ (state_of p).unassigned page
  unassigned-kept page = ap (λ (z : Parts). (state_of z).unassigned page) w.same
      ∙ moved-unassigned p t.elements t.region w.before.stands.storage own-stay page

  discard-shows : state_of t ≡ state_of p
  discard-shows = ap state_of w.same
      ∙ moved-state p t.elements t.region w.before.stands.storage own-stay w.pages

  discard-others : (x : Change) → AreApart p (c ∷ x ∷ []) → means t.elements x ≡ means p.elements x
  discard-others x h =
      (left p t had has w.moves (tables-kept p.region t.region w.tables) x h.changes.1.0
      (λ i. omega (arith, h.once i))).meant

  module _ (xs : List Change) (h : AreApart p (c ∷ xs)) where
    discard-left : AllLeft p t had has w.moves (tables-kept p.region t.region w.tables) xs
    discard-left = all-left p t had has w.moves (tables-kept p.region t.region w.tables) xs h.changes.1
        (λ i. omega (arith, h.once i))

    discard-apart : AreApart t xs
    discard-apart = record {
      storage = discard-stand;
      changes = discard-left.stand;
      once = λ i. omega (arith, h.once i, discard-hold i, discard-left.held i);
      frameless = λ page e. w.pages page ∙ h.frameless page (sym (unassigned-kept page) ∙ e);
      aside = omega (arith, h.aside, w.aside);
      out = omega (arith, h.out, w.out);
    }

    discard-all : ((i : ℕ) → IsSome (at p.elements i) → 0 < hold p i + (had i + all_hold p.elements xs i))
        → (i : ℕ) → IsSome (at t.elements i) → 0 < hold t i + all_hold t.elements xs i
    discard-all all i live = omega (
      arith,
      discard-hold i,
      discard-left.held i,
      all-after p.elements t.elements had has w.moves (λ j. hold p j + all_hold p.elements xs j)
          (λ j. omega (arith, h.once j)) (apart-live p xs (apart-rest xs c p h))
          (λ j here. omega (arith, all j here)) i live,
    )

discard-whole : (xs ys : List Change) (c : Change) (p t : Parts) → AreWhole p (xs ++ c ∷ ys) → Discards p c t
    → AreWhole t (xs ++ ys)
discard-whole xs ys c p t h w = record {
  apart = discard-apart p t c w (xs ++ ys) picked;
  all = discard-all p t c w (xs ++ ys) picked all-before;
  all_aside = omega (arith, h.all_aside, w.aside, blanks-append xs (c ∷ ys), blanks-append xs ys);
  all_out = omega (arith, h.all_out, w.out, frames-append xs (c ∷ ys), frames-append xs ys);
} where
  picked : AreApart p (c ∷ (xs ++ ys))
  picked = apart-pick xs ys c p h.apart

  all-before : (i : ℕ) → IsSome (at p.elements i)
      → 0 < hold p i + (change_holds p.elements c i + all_hold p.elements (xs ++ ys) i)
  all-before i live = omega (
    arith,
    h.all i live,
    hold-append p.elements xs (c ∷ ys) i,
    hold-append p.elements xs ys i,
  )

-- the steps

pub storage_inverts : Inverts Fit overlay inverse
storage_inverts = record {
  fits_back = λ m d h. (changes_lead_back m d h).0;
  leads_back = λ m d h. (changes_lead_back m d h).1;
  turns_back = λ m d h. (changes_lead_back m d h).2;
}

pub storage_steps : SingleSteps Fit overlay inverse state_of meaning AreApart AreWhole CanSwap Swaps Discards
storage_steps = record {
  inverts = storage_inverts;
  can = λ s c f h. record { ready = apart-ready s c [] h; fits = f };
  swap_shows = λ s t c d w. w.shows;
  swap_means = λ s t c d w. w.turned;
  swap_others = λ s t c d x h w. swap-others s t c d x h w;
  swap_apart = λ s t c d xs h w. swap-apart s t c d w xs h;
  swap_whole = λ xs ys c d s t h w. swap-whole xs ys c d s t h w;
  discard_shows = λ s t c w. discard-shows s t c w;
  discard_others = λ s t c x h w. discard-others s t c w x h;
  discard_apart = λ s t c xs h w. discard-apart s t c w xs h;
  discard_whole = λ xs ys c s t h w. discard-whole xs ys c s t h w;
  pick = λ xs ys c s h. apart-pick xs ys c s h;
  put = λ xs ys c s h. apart-put xs ys c s h;
  rest = λ xs c s h. apart-rest xs c s h;
}
