-- The storage before the first request is well formed, and each live element is its own.
use Rattle.std.proofs.Common.{◌≡◌, ℕ, ◌+◌, ◌*◌, ◌-◌, ◌/◌, ◌<◌, ◌≤◌, max, Bool, true, false, ◌||◌, ◌==◌, if◌then◌else◌, [], length, Option, Some, None, IsSome, inl, inr, refl, ◌∙◌, arith}
use Rattle.std.specs.Prelude.{nat_lt}
use Rattle.std.proofs.lemmas.Bool.{ltb-true}
use Rattle.vsm_elements.specs.Store.{Store, at, made, live_count, SameElements}
use Rattle.vsm_elements.specs.Ownership.{Leaves}
use Rattle.vsm_elements.specs.Owners.{times, Moves}
use Rattle.vsm_elements.proofs.TimesLemmas.{some-from, times-once}
use Rattle.vsm_elements.proofs.MoveLemmas.{none-or-some, moves-of, moves-follow, moves-by, rest-same, once-after, all-after}
use Rattle.run_set.specs.Runs.{Run, inside}
use Rattle.run_set.proofs.RunLemmas.{inside_true}
use Rattle.descriptor_queue.specs.declared.pages.Pages.{Pages as ThePages}
use Rattle.descriptor_queue.specs.Pages.{is_unassigned, IsPages}
use Rattle.descriptor_queue.specs.Pages
use Rattle.descriptor_queue.proofs.PageLemmas.{pages_stand}
use Rattle.raw_region.specs.Pages.{Pages as Tables, IsFresh as IsFreshRegion, IsInRegion, byte_at}
use Rattle.raw_region.proofs.ForCallers.{byte_at-unassigned}
use Rattle.task_tree.specs.declared.tree.TaskTree.{TaskTree as TheTree}
use Rattle.task_tree.specs.TaskTree.{current, parent, word, IsTaskTree}
use Rattle.task_tree.specs.TaskTree
use Rattle.task_tree.proofs.LawLemmas.{trees_stand}
use Rattle.vsm_model.specs.declared.limits.Settings.{Settings}
use Rattle.vsm_model.specs.Regions.{in_a_region}
use Rattle.subpool_storage.specs.declared.storage.SubpoolStorage.{SubpoolStorage as TheSubpools}
use Rattle.subpool_storage.specs.Subpools.{no_subpools, with_own}
use Rattle.subpool_storage.specs.SubpoolStorage.{subpools_of, Stands}
use Rattle.subpool_storage.specs.SubpoolStorage
use Rattle.storage_changes.proofs.Cases.{state-same}
use Rattle.storage_swap.specs.declared.storage.Parts.{Parts}
use Rattle.storage_swap.specs.Storage.{hold, tasks_of, state_of}
use Rattle.storage_swap.specs.Fresh.{first_storage, IsFresh}
use Rattle.storage_swap.specs.StructureKept.{TasksStay}
use Rattle.storage_swap.proofs.Below.{trees-kept, storage-owns, storage-stays}

abbrev no_ids : ℕ → ℕ
no_ids i = 0

-- a block is all that is made for seven elements, if there were none
one-block : (n all spare : ℕ) → all ≡ 128 * n → spare ≤ 134 → all - spare ≡ 0 → all ≤ 128
one-block n all spare is few live = omega arith

pub few_made : (none first end : Store) → made none ≡ 0 → none.spare ≡ 0 → first.spare ≤ max none.spare 134 → live_count first ≡ live_count none → made end ≡ made first → made end ≤ 128
few_made none first end nothing unspared few live same =
    let bound : first.spare ≤ 134 = omega (arith, few, unspared) in
    let unlive : made first - first.spare ≡ 0 = omega (arith, live, nothing) in
    omega (arith, same, one-block (length first.blocks) (made first) first.spare refl bound unlive)

-- the pages of either region are those of the tables
in-region : (settings : Settings) (page : ℕ) → in_a_region settings page ≡ true → IsInRegion (settings.low_k / 4) (settings.high_k / 4) page
in-region settings page h = go (inside page high) refl h where
  high : Run
  high = record { start = 32768; len = settings.high_k / 4 }

  low : Run
  low = record { start = 6; len = settings.low_k / 4 }

  below : (b : Bool) → inside page low ≡ b → (b || false) ≡ true → IsInRegion (settings.low_k / 4) (settings.high_k / 4) page
  below true e k = inl (inside_true page low e)
  below false e k = cc

  go : (b : Bool) → inside page high ≡ b → (b || (inside page low || false)) ≡ true → IsInRegion (settings.low_k / 4) (settings.high_k / 4) page
  go true e k = inr (inside_true page high e)
  go false e k = below (inside page low) refl k

module _ (settings : Settings) (none first mid second end : Store) (region : Tables) (tree : TheTree) (subpools : TheSubpools) (unassigned : ThePages)
    (empty : (i : ℕ) → at none i ≡ None) (same : SameElements none first)
    (stand-tree : IsTaskTree mid tree) (tree-moves : Leaves first mid [] (TaskTree.owned mid tree))
    (parents : (t : ℕ) → parent mid tree t ≡ (if t == 1 then Some 0 else None)) (words : (t r : ℕ) → r < 16 → word mid tree t r ≡ 0) (is-current : current tree ≡ 1)
    (stand-subpools : Stands second subpools) (subpools-are : subpools_of second subpools ≡ with_own no_subpools (record { number = 0; owner = 1 }) true)
    (subpools-move : Moves mid second no_ids (SubpoolStorage.hold second subpools))
    (stand-pages : IsPages end unassigned) (pages-are : (page : ℕ) → is_unassigned end unassigned page ≡ in_a_region settings page) (pages-move : Leaves second end [] (Pages.owned end unassigned))
    (fresh-region : IsFreshRegion region (settings.low_k / 4) (settings.high_k / 4)) (few : made end ≤ 128) (unset : end.aside ≡ 0) where
  abbrev p : Parts
  p = record { elements = end; region = region; unassigned = unassigned; subpools = subpools; tasks = tree }

  abbrev tree-ids : ℕ → ℕ
  tree-ids i = times i (TaskTree.owned mid tree)

  abbrev subpool-ids : ℕ → ℕ
  subpool-ids i = SubpoolStorage.hold second subpools i

  abbrev page-ids : ℕ → ℕ
  page-ids i = times i (Pages.owned end unassigned)

  -- the tasks
  tree-once : (i : ℕ) → tree-ids i ≤ 1
  tree-once i = times-once i (TaskTree.owned mid tree) (trees_stand mid tree stand-tree).0.distinct

  tree-live : (i : ℕ) → 0 < tree-ids i → IsSome (at mid i)
  tree-live i h = (trees_stand mid tree stand-tree).0.live i (some-from i (TaskTree.owned mid tree) h)

  -- the subpools next to them
  abbrev both : ℕ → ℕ
  both i = subpool-ids i + tree-ids i

  both-once : (i : ℕ) → subpool-ids i + tree-ids i ≤ 1
  both-once = once-after mid second no_ids subpool-ids subpools-move tree-ids (λ i. omega (arith, tree-once i)) tree-live (storage-owns second subpools stand-subpools).0

  tree-second : TasksStay mid second tree
  tree-second = trees-kept mid second tree stand-tree (rest-same mid second no_ids subpool-ids subpools-move tree-ids (λ j. omega (arith, tree-once j)) tree-live)

  both-live : (i : ℕ) → 0 < subpool-ids i + tree-ids i → IsSome (at second i)
  both-live i h = elim (none-or-some (subpool-ids i)) [
    | inr z ↦ (storage-owns second subpools stand-subpools).1 i z
    | inl z ↦ (trees_stand second tree tree-second.stand).0.live i (some-from i (TaskTree.owned second tree) (omega (arith, h, z, tree-second.held i)))
  ]

  -- the pages next to both
  pages-moved : Moves second end no_ids page-ids
  pages-moved = moves-of second end [] (Pages.owned end unassigned) pages-move

  pages-once : (i : ℕ) → page-ids i ≤ 1
  pages-once i = times-once i (Pages.owned end unassigned) (pages_stand end unassigned stand-pages).1.distinct

  all-once : (i : ℕ) → page-ids i + (subpool-ids i + tree-ids i) ≤ 1
  all-once = once-after second end no_ids page-ids pages-moved (λ i. subpool-ids i + tree-ids i) (λ i. omega (arith, both-once i)) both-live pages-once

  stays : (i : ℕ) → 0 < subpool-ids i + tree-ids i → at end i ≡ at second i
  stays = rest-same second end no_ids page-ids pages-moved (λ i. subpool-ids i + tree-ids i) (λ i. omega (arith, both-once i)) both-live

  subpools-end : Stands end subpools × (subpools_of end subpools ≡ subpools_of second subpools) × ((i : ℕ) → SubpoolStorage.hold end subpools i ≡ subpool-ids i)
  subpools-end = storage-stays second end subpools stand-subpools (λ i h. stays i (omega (arith, h)))

  tree-end : TasksStay second end tree
  tree-end = trees-kept second end tree tree-second.stand (λ i n. stays i (omega (arith, n, tree-second.held i)))

  held : (i : ℕ) → hold p i ≡ page-ids i + (subpool-ids i + tree-ids i)
  held i = omega (arith, subpools-end.2 i, tree-end.held i, tree-second.held i)

  -- all that is live became held
  first-moves : Moves first mid no_ids tree-ids
  first-moves = moves-of first mid [] (TaskTree.owned mid tree) tree-moves

  all-moves : Moves first end no_ids (hold p)
  all-moves = moves-follow first mid end no_ids tree-ids (hold p) first-moves (moves-follow mid second end tree-ids both (hold p)
      (moves-by mid second no_ids subpool-ids tree-ids both subpools-move (λ i. omega arith) (λ i. omega arith))
      (moves-by second end no_ids page-ids both (hold p) pages-moved (λ i. omega arith) (λ i. omega (arith, held i))))

  nothing : (i : ℕ) → at first i ≡ None
  nothing i = same i ∙ empty i

  no-live : (i : ℕ) → IsSome (at first i) → ⊥
  no-live i h = let P : Bool → Type 0 = λ b. b ≡ true in absurd (gone (at first i) (nothing i) h) where
    gone : {A : Type 0} (o : Option A) → o ≡ None → IsSome o → ⊥
    gone None e k = cc
    gone (Some x) e k = cc

  -- the state
  tasks-are : tasks_of p ≡ (first_storage settings).tasks
  tasks-are = λ i. record {
    current = is-current i;
    parents = λ task. (tree-end.parents task ∙ tree-second.parents task ∙ parents task) i;
    words = λ task register. zero-word task register i;
  } where
    zero-word : (task register : ℕ) → (if nat_lt register 16 then word end tree task register else 0) ≡ 0
    zero-word task register = go (nat_lt register 16) refl where
      go : (b : Bool) → nat_lt register 16 ≡ b → (if b then word end tree task register else 0) ≡ 0
      go true e = tree-end.words task register ∙ tree-second.words task register ∙ words task register (ltb-true register 16 e)
      go false e = refl

  no-byte : (a : ℕ) → (if is_unassigned end unassigned (a / 4096) then None else byte_at region a) ≡ None
  no-byte a = go (is_unassigned end unassigned (a / 4096)) where
    go : (b : Bool) → (if b then None else byte_at region a) ≡ None
    go true = refl
    go false = byte_at-unassigned region a (fresh-region.empty (a / 4096))

  pub is-fresh : IsFresh settings p
  is-fresh = record {
    shows = state-same (state_of p) (first_storage settings) tasks-are (subpools-end.1 ∙ subpools-are) pages-are no-byte;
    stands = record { unassigned = stand-pages; subpools = subpools-end.0; tasks = tree-end.stand };
    once = λ i. omega (arith, held i, all-once i);
    frameless = λ page h. fresh-region.empty page;
    all = λ i h. omega (arith, all-after first end no_ids (hold p) all-moves no_ids (λ j. omega arith) (λ j z. absurd (omega (arith, z))) (λ j z. absurd (no-live j z)) i h);
    aside = unset;
    out = fresh-region.counts.out_is;
    segments = λ page h. fresh-region.segments page (in-region settings page h);
    small = record { elements = few; frames = fresh-region.counts.made_is };
  }
