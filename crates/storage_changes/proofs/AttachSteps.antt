-- Records that change only the subpools of some numbers, one list of records after another.
use Rattle.std.proofs.Common.{◌≡◌, ℕ, ◌+◌, ◌*◌, ◌≤◌, Bool, true, false, ◌||◌, ◌==◌, Option, Some, List, [], ◌∷◌, ◌++◌, length, refl, ◌∙◌, ap, arith}
use Rattle.std.specs.List.{AllByRecursion, flat_map}
use Rattle.std.proofs.lemmas.Bool.{false_from_ne_true, both_ways, eqb-true, or_left, or_right, or_parts, eq-eqb}
use Rattle.vsm_model.specs.declared.limits.Settings.{Settings}
use Rattle.vsm_model.specs.Search.{is_in}
use Rattle.vsm_model.specs.State.{State}
use Rattle.cell_pool.specs.Pools.{Pool}
use Rattle.storage_changes.specs.NamedPools.{AreNamed}
use Rattle.subpool_storage.specs.Subpools.{Subpools}
use Rattle.storage_changes.specs.declared.record.Record.{Record}
use Rattle.storage_changes.specs.Meaning.{model_of}
use Rattle.storage_changes.specs.State.{StorageState}
use Rattle.storage_changes.proofs.Goes.{at, Goes, goes_on, goes_nowhere}
use Rattle.storage_changes.proofs.Rows.{Stands}
use Rattle.service_laws.proofs.Numbers.{AreApart}
use Rattle.storage_changes.specs.Attaching.{subpool}

-- At a number both have the same rows of sight and the same pages, and the first has the cell pools that the second
-- has.
pub record AreSameAt (u v : Subpools) (number : ℕ) : Type 0 where
  pub sight : (task : ℕ) → v.sight task number ≡ u.sight task number
  pub pages : (owner page : ℕ) → v.pages (subpool number owner) page ≡ u.pages (subpool number owner) page
  pub cells : (id : ℕ) (q : Pool) → v.cells id ≡ Some q → q.settings.subpool.number ≡ number → u.cells id ≡ Some q

pub same_here : (u : Subpools) (number : ℕ) → AreSameAt u u number
same_here u number = record { sight = λ task. refl; pages = λ owner page. refl; cells = λ id q at is. at }

pub same_on : (u v w : Subpools) (number : ℕ) → AreSameAt u v number → AreSameAt v w number → AreSameAt u w number
same_on u v w number h k =
    record {
      sight = λ task. k.sight task ∙ h.sight task;
      pages = λ owner page. k.pages owner page ∙ h.pages owner page;
      cells = λ id q at is. h.cells id q (k.cells id q at is) is;
    }

-- The records fit in turn if that many elements are left, and lead to a storage for which `Stands` holds, whose cell
-- pools are named, and which is this on the plain machine and has the subpools of other numbers as they were.
pub record Steps (settings : Settings) (n : StorageState) (rs : List Record) (s : State) (cost : ℕ) (touched : ℕ → Bool) : Type 0 where
  pub after : StorageState
  pub goes : (b g : ℕ → Option ℕ) (spare left : ℕ) → 1 ≤ left → left + cost ≤ spare → Goes (at n b g spare) rs after b g left
  pub stands : Stands settings after.subpools after.unassigned
  pub named : AreNamed after.subpools.cells
  pub tasks : after.tasks ≡ n.tasks
  pub leads : model_of after ≡ s
  pub others : (number : ℕ) → touched number ≡ false → AreSameAt n.subpools after.subpools number

pub no_steps : (settings : Settings) (n : StorageState) (touched : ℕ → Bool) → Stands settings n.subpools n.unassigned → AreNamed n.subpools.cells → Steps settings n [] (model_of n) 0 touched
no_steps settings n touched stands named = record {
  after = n;
  goes = λ b g spare left some less. goes_nowhere n b g spare left (omega (arith, less));
  stands = stands;
  named = named;
  tasks = refl;
  leads = refl;
  others = λ number e. same_here n.subpools number;
}

-- the same, of another name, if more is left and more may change
pub steps_as :
    (settings : Settings) (n : StorageState) (rs : List Record) (s t : State) (cost more : ℕ) (touched also : ℕ → Bool) → Steps settings n rs s cost touched
    → s ≡ t → cost ≤ more → ((number : ℕ) → also number ≡ false → touched number ≡ false) → Steps settings n rs t more also
steps_as settings n rs s t cost more touched also steps is dear within = record {
  after = steps.after;
  goes = λ b g spare left some less. steps.goes b g spare left some (omega (arith, dear, less));
  stands = steps.stands;
  named = steps.named;
  tasks = steps.tasks;
  leads = steps.leads ∙ is;
  others = λ number e. steps.others number (within number e);
}

-- records after others
abbrev pub steps_on :
    (settings : Settings) (n : StorageState) (rs ss : List Record) (s t : State) (cost more : ℕ) (touched also : ℕ → Bool)
    (first : Steps settings n rs s cost touched) → Steps settings first.after ss t more also
    → Steps settings n (rs ++ ss) t (cost + more) (λ number. touched number || also number)
steps_on settings n rs ss s t cost more touched also first next = record {
  after = next.after;
  goes = λ b g spare left some less.
      goes_on (at n b g spare) rs ss first.after next.after b g b g (left + more) left (first.goes b g spare (left + more) (omega (arith, some)) (omega (arith, less)))
      (λ k enough. next.goes b g k left some enough);
  stands = next.stands;
  named = next.named;
  tasks = next.tasks ∙ first.tasks;
  leads = next.leads;
  others = λ number e.
      let parts = or_parts (touched number) (also number) e in
      same_on n.subpools first.after.subpools next.after.subpools number (first.others number parts.0) (next.others number parts.1);
}

-- The records of a list of numbers, none of which occurs twice: those of each number fit if its subpools and the tasks
-- are as they were at the beginning.
module _ (settings : Settings) (m : StorageState) (records : ℕ → List Record) (effect : State → ℕ → State) (P : ℕ → Type 0)
    (one : (n : StorageState) (x : ℕ) → Stands settings n.subpools n.unassigned → AreNamed n.subpools.cells → n.tasks ≡ m.tasks → AreSameAt m.subpools n.subpools x → P x
    → Steps settings n (records x) (effect (model_of n) x) 2 (λ number. x == number))
    (all : State → List ℕ → State) (none : (s : State) → s ≡ all s []) (more : (s : State) (x : ℕ) (xs : List ℕ) → all (effect s x) xs ≡ all s (x ∷ xs)) where
  pub all_steps :
      (xs : List ℕ) (n : StorageState) → Stands settings n.subpools n.unassigned → AreNamed n.subpools.cells → n.tasks ≡ m.tasks → AreApart xs → AllByRecursion P xs
      → ((x : ℕ) → is_in xs x ≡ true → AreSameAt m.subpools n.subpools x) → Steps settings n (flat_map records xs) (all (model_of n) xs) (2 * length xs) (is_in xs)
  all_steps [] n stands named tasks apart each same =
      steps_as settings n [] (model_of n) (all (model_of n) []) 0 0 (is_in []) (is_in []) (no_steps settings n (is_in []) stands named) (none (model_of n)) (omega arith) (λ number e. e)
  all_steps (x ∷ xs) n stands named tasks apart each same =
      let first = one n x stands named tasks (same x (or_left (x == x) (is_in xs x) (eq-eqb x x refl))) each.0 in
      let later = all_steps xs first.after first.stands first.named (first.tasks ∙ tasks) apart.1 each.1
      (λ y is. same_on m.subpools n.subpools first.after.subpools y (same y (or_right (x == y) (is_in xs y) is))
      (first.others y (false_from_ne_true (x == y) (λ e. both_ways (is_in xs x) apart.0 (ap (is_in xs) (eqb-true x y e) ∙ is))))) in
      steps_as settings n (flat_map records (x ∷ xs)) (all (model_of first.after) xs) (all (model_of n) (x ∷ xs)) (2 + 2 * length xs) (2 * length (x ∷ xs))
      (λ number. (x == number) || is_in xs number) (is_in (x ∷ xs))
      (steps_on settings n (records x) (flat_map records xs) (effect (model_of n) x) (all (model_of first.after) xs) 2 (2 * length xs) (λ number. x == number) (is_in xs) first later)
      (ap (λ s. all s xs) first.leads ∙ more (model_of n) x xs) (omega arith) (λ number e. e)
