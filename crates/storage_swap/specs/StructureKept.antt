-- A structure of the storage whose elements are as they were is as it was; and what it holds is live, and its own.
use Rattle.std.proofs.Common.{◌≡◌, ℕ, ◌+◌, ◌<◌, ◌≤◌, inl, inr, IsSome, ap, arith}
use Rattle.vsm_elements.specs.Store.{Store, at}
use Rattle.vsm_elements.specs.Owners.{times}
use Rattle.vsm_elements.proofs.TimesLemmas.{times-some, some-from, times-once}
use Rattle.vsm_elements.proofs.MoveLemmas.{none-or-some}
use Rattle.descriptor_queue.specs.declared.pages.Pages.{Pages as PageSet}
use Rattle.descriptor_queue.specs.Pages.{is_unassigned, IsPages}
use Rattle.descriptor_queue.specs.Pages
use Rattle.descriptor_queue.proofs.PageLemmas.{pages_stand, pages_kept}
use Rattle.task_tree.specs.declared.tree.TaskTree.{TaskTree as Tree}
use Rattle.task_tree.specs.TaskTree.{parent, word, IsTaskTree}
use Rattle.task_tree.specs.TaskTree
use Rattle.task_tree.proofs.LawLemmas.{trees_stand, trees_kept}
use Rattle.subpool_storage.specs.declared.storage.SubpoolStorage.{SubpoolStorage as Subpools}
use Rattle.subpool_storage.specs.SubpoolStorage.{subpools_of}
use Rattle.subpool_storage.specs.SubpoolStorage
use Rattle.subpool_storage.proofs.LawLemmas.{storage_stays}

-- each is what it was, in other elements

pub record PagesStay (s t : Store) (q : PageSet) : Type 0 where
  pub stand : IsPages t q
  pub unassigned : (page : ℕ) → is_unassigned t q page ≡ is_unassigned s q page
  pub held : (i : ℕ) → times i (Pages.owned t q) ≡ times i (Pages.owned s q)

pub record SubpoolsStay (s t : Store) (q : Subpools) : Type 0 where
  pub stand : SubpoolStorage.Stands t q
  pub same : subpools_of t q ≡ subpools_of s q
  pub held : (i : ℕ) → SubpoolStorage.hold t q i ≡ SubpoolStorage.hold s q i

pub record TasksStay (s t : Store) (q : Tree) : Type 0 where
  pub stand : IsTaskTree t q
  pub parents : (task : ℕ) → parent t q task ≡ parent s q task
  pub words : (task r : ℕ) → word t q task r ≡ word s q task r
  pub held : (i : ℕ) → times i (TaskTree.owned t q) ≡ times i (TaskTree.owned s q)

pub pages-stay : (s t : Store) (q : PageSet) → IsPages s q
    → ((i : ℕ) → 0 < times i (Pages.owned s q) → at t i ≡ at s i) → PagesStay s t q
pages-stay s t q h same =
    let r = pages_kept s t q h (λ i m. same i (times-some i (Pages.owned s q) m)) in
    record { stand = r.0; unassigned = r.2; held = λ i. ap (times i) r.3 }

pub subpools-stay : (s t : Store) (q : Subpools) → SubpoolStorage.Stands s q
    → ((i : ℕ) → 0 < SubpoolStorage.hold s q i → at t i ≡ at s i) → SubpoolsStay s t q
subpools-stay s t q h same = let r = storage_stays s t q h same in record { stand = r.0; same = r.1; held = r.2 }

pub tasks-stay : (s t : Store) (q : Tree) → IsTaskTree s q
    → ((i : ℕ) → 0 < times i (TaskTree.owned s q) → at t i ≡ at s i) → TasksStay s t q
tasks-stay s t q h same =
    let r = trees_kept s t q h (λ i m. same i (times-some i (TaskTree.owned s q) m)) in
    record { stand = r.0; parents = r.1; words = r.2; held = λ i. ap (times i) r.3 }

-- what each holds is live, and once its own

pub pages-live : (s : Store) (q : PageSet) → IsPages s q → (i : ℕ) → 0 < times i (Pages.owned s q) → IsSome (at s i)
pages-live s q h i n = (pages_stand s q h).1.live i (some-from i (Pages.owned s q) n)

pub pages-once : (s : Store) (q : PageSet) → IsPages s q → (i : ℕ) → times i (Pages.owned s q) ≤ 1
pages-once s q h i = times-once i (Pages.owned s q) (pages_stand s q h).1.distinct

pub tasks-live : (s : Store) (q : Tree) → IsTaskTree s q → (i : ℕ) → 0 < times i (TaskTree.owned s q)
    → IsSome (at s i)
tasks-live s q h i n = (trees_stand s q h).0.live i (some-from i (TaskTree.owned s q) n)

pub tasks-once : (s : Store) (q : Tree) → IsTaskTree s q → (i : ℕ) → times i (TaskTree.owned s q) ≤ 1
tasks-once s q h i = times-once i (TaskTree.owned s q) (trees_stand s q h).0.distinct

pub two-live : (s : Store) (f g : ℕ → ℕ) → ((i : ℕ) → 0 < f i → IsSome (at s i))
    → ((i : ℕ) → 0 < g i → IsSome (at s i)) → (i : ℕ) → 0 < f i + g i → IsSome (at s i)
two-live s f g a b i n = elim (none-or-some (f i)) [ inr x ↦ a i x | inl x ↦ b i (omega (arith, n, x)) ]

pub three-live : (s : Store) (f g h : ℕ → ℕ) → ((i : ℕ) → 0 < f i → IsSome (at s i))
    → ((i : ℕ) → 0 < g i → IsSome (at s i)) → ((i : ℕ) → 0 < h i → IsSome (at s i))
    → (i : ℕ) → 0 < f i + g i + h i → IsSome (at s i)
three-live s f g h a b c i n = elim (none-or-some (f i)) [
  | inr x ↦ a i x
  | inl x ↦ elim (none-or-some (g i)) [ inr y ↦ b i y | inl y ↦ c i (omega (arith, n, x, y)) ]
]
