-- The records of one number that is given or shared.
use Rattle.std.proofs.Common.{◌≡◌, ◌≢◌, ℕ, ◌≤◌, Bool, true, false, not, ◌&&◌, ◌||◌, ◌==◌, if◌then◌else◌, Option, Some, None, is_some, [], ◌∷◌, refl, sym, ◌∙◌, ap, subst, arith}
use Rattle.std.specs.Option.{option_map}
use Rattle.std.proofs.lemmas.Bool.{cond-true, cond-false, and_left, and_right, and_from, eqb-true, eq-eqb, ne_eqb, false_from_ne_true, not-false}
use Rattle.vsm_model.specs.declared.Subpool.{Subpool}
use Rattle.vsm_model.specs.declared.limits.Settings.{Settings}
use Rattle.vsm_model.specs.Passing.{handed_on, with_gift, with_share}
use Rattle.vsm_model.specs.Search.{holds}
use Rattle.vsm_model.specs.Subpools.{same_subpool, sees_one, with_sight, with_subpool}
use Rattle.storage_changes.specs.TableLaws.{AllRowsChange}
use Rattle.storage_changes.specs.NamedPools.{AreNamed}
use Rattle.subpool_storage.specs.Subpools.{is_there}
use Rattle.storage_changes.specs.Meaning.{subpool_of, model_of}
use Rattle.storage_changes.specs.State.{StorageState, Tasks}
use Rattle.storage_changes.proofs.Cases.{same-is}
use Rattle.storage_changes.proofs.MeaningLemmas.{named_pages_are_there}
use Rattle.storage_changes.proofs.Rows.{Stands}
use Rattle.service_laws.proofs.Options.{none_some}
use Rattle.service_laws.proofs.SightRows.{owner_seen, owner_own}
use Rattle.storage_changes.specs.Attaching.{subpool, made, given_records, sharing_records}
use Rattle.storage_changes.proofs.AttachCells.{rows_not_handed_on}
use Rattle.storage_changes.proofs.AttachOpen.{IsOpen, no_cells, share_steps, made_steps, pass_steps}
use Rattle.storage_changes.proofs.AttachSteps.{Steps, steps_as, steps_on}

-- the numbers of the task and of the current one, which are two
pub record AreTwo (tasks : Tasks) (task : ℕ) : Type 0 where
  pub range : (1 ≤ task) × (task ≤ 64)
  pub current : (1 ≤ tasks.current) × (tasks.current ≤ 64)
  pub apart : task ≢ tasks.current

module _ (settings : Settings) (n : StorageState) (task number : ℕ) (stands : Stands settings n.subpools n.unassigned) (named : AreNamed n.subpools.cells)
    (two : AreTwo n.tasks task) (low : number ≤ 127) (opened : IsOpen n.subpools task number) (change : AllRowsChange) where
  abbrev current : ℕ
  current = n.tasks.current

  -- If the giver has none, a gift is a new subpool.
  module _ (none : n.subpools.sight current number ≡ None) where
    nobody_sees : (other : ℕ) → n.subpools.sight other number ≢ Some current
    nobody_sees other e = none_some current (sym none ∙ opened.seen other current e)

    there_given : (k t : ℕ) (b c d : Bool) → (k == number) ≡ b → (t == task) ≡ c → (t == current) ≡ d
        → ((b && c) || is_there n.subpools (subpool k t)) ≡ (if b then c || (not d && is_there n.subpools (subpool k t)) else is_there n.subpools (subpool k t))
    there_given k t false c d e f g = refl
    there_given k t true true d e f g = refl
    there_given k t true false false e f g = refl
    there_given k t true false true e f g =
        ap (holds (λ owner. owner == t)) (ap (λ x. n.subpools.sight x k) (eqb-true t current g) ∙ ap (n.subpools.sight current) (eqb-true k number e) ∙ none)

    seen_given : (t k : ℕ) (b c d : Bool) → (k == number) ≡ b → (t == task) ≡ c → (t == current) ≡ d
        → (if c && b then Some task else n.subpools.sight t k)
        ≡ (if not b then n.subpools.sight t k else if c then Some task else if d then None else option_map (λ owner. if owner == current then task else owner) (n.subpools.sight t k))
    seen_given t k false c d e f g = ap (λ b. if b then Some task else n.subpools.sight t k) (and_right c false refl)
    seen_given t k true true d e f g = refl
    seen_given t k true false true e f g = ap (λ x. n.subpools.sight x k) (eqb-true t current g) ∙ ap (n.subpools.sight current) (eqb-true k number e) ∙ none
    seen_given t k true false false e f g = mapped (n.subpools.sight t k) refl where
      mapped : (o : Option ℕ) → n.subpools.sight t k ≡ o → o ≡ option_map (λ owner. if owner == current then task else owner) o
      mapped None at = refl
      mapped (Some owner) at =
          ap Some (sym (cond-false (owner == current) task owner
          (false_from_ne_true (owner == current) (λ is. nobody_sees t (ap (n.subpools.sight t) (sym (eqb-true k number e)) ∙ at ∙ ap Some (eqb-true owner current is))))))

    pages_given : (page : ℕ) (o : Option Subpool) → subpool_of n.subpools page ≡ o → o ≡ option_map (handed_on number current task) o
    pages_given page None at = refl
    pages_given page (Some p) at =
        let is_not : same_subpool p (subpool number current) ≡ false =
        false_from_ne_true (same_subpool p (subpool number current))
        (λ is. none_some current (sym none ∙ opened.there current page
        (ap (λ q. n.subpools.pages q page) (sym (same-is p (subpool number current) is)) ∙ (named_pages_are_there n.subpools page).0 p at))) in
        ap Some (sym (cond-false (same_subpool p (subpool number current)) (subpool number task) p is_not))

    none_given : with_subpool (model_of n) number task ≡ with_gift (model_of n) current task number
    none_given = λ i. record (model_of n) {
      subpools = λ k t. there_given k t (k == number) (t == task) (t == current) refl refl refl i;
      sight = λ t k. seen_given t k (k == number) (t == task) (t == current) refl refl refl i;
      pages = λ page. pages_given page (subpool_of n.subpools page) refl i;
      cell_pools = rows_not_handed_on (subpool number current) task change n.subpools.cells named
          (no_cells settings n number stands named task low opened current none) i;
    }

  pub gift_steps : (o : Option ℕ) → n.subpools.sight current number ≡ o → holds (λ owner. not (owner == current)) o ≡ false
      → Steps settings n (given_records task number o) (with_gift (model_of n) current task number) 2 (λ k. number == k)
  gift_steps None none own =
      steps_as settings n (made number task ∷ []) (with_subpool (model_of n) number task) (with_gift (model_of n) current task number) 1 2 (λ k. number == k) (λ k. number == k)
      (made_steps settings n number stands named task low opened task two.range opened.unseen) (none_given none) (omega arith) (λ k e. e)
  gift_steps (Some owner) at own =
      let is : current ≡ owner = sym (eqb-true owner current (not-false (owner == current) own)) in
      let P : ℕ → Type 0 = λ x. Steps settings n (given_records task number (Some x)) (with_gift (model_of n) current task number) 2 (λ k. number == k) in
      subst P is
      (steps_as settings n (given_records task number (Some current)) (with_gift (model_of n) current task number) (with_gift (model_of n) current task number) 1 2
      (λ k. number == k) (λ k. number == k)
      (pass_steps settings n number stands named task low opened change current two.current two.range (at ∙ ap Some (sym is)) two.apart) refl (omega arith) (λ k e. e))

  -- what is shared if the current task sees one, and if it sees none
  shares_seen : (owner : ℕ) → n.subpools.sight current number ≡ Some owner → with_sight (model_of n) task number owner ≡ with_share (model_of n) task number
  shares_seen owner at =
      λ i. with_sight (sym (cond-true (sees_one (model_of n) number) (model_of n) (with_subpool (model_of n) number current) (ap is_some at)) i) task number
      (sym (owner_seen (model_of n) number owner at) i)

  shares_own : n.subpools.sight current number ≡ None → with_sight (with_subpool (model_of n) number current) task number current ≡ with_share (model_of n) task number
  shares_own none =
      λ i. with_sight (sym (cond-false (sees_one (model_of n) number) (model_of n) (with_subpool (model_of n) number current) (ap is_some none)) i) task number
      (sym (owner_own (model_of n) number none) i)

  pub sharing_steps : (o : Option ℕ) → n.subpools.sight current number ≡ o
      → Steps settings n (sharing_records current task number o) (with_share (model_of n) task number) 2 (λ k. number == k)
  sharing_steps (Some owner) at =
      let apart : task ≢ owner = λ is. opened.unowned current (at ∙ ap Some (sym is)) in
      steps_as settings n (sharing_records current task number (Some owner)) (with_sight (model_of n) task number owner) (with_share (model_of n) task number) 1 2
      (λ k. number == k) (λ k. number == k)
      (share_steps settings n number stands named owner task two.range (opened.seen current owner at) opened.unseen apart) (shares_seen owner at) (omega arith) (λ k e. e)
  sharing_steps None none =
      let first = made_steps settings n number stands named task low opened current two.current none in
      let own_test : Bool = (current == current) && (number == number) in
      let task_test : Bool = (task == current) && (number == number) in
      let next = share_steps settings first.after number first.stands first.named current task two.range
      (cond-true own_test (Some current) (n.subpools.sight current number) (and_from (current == current) (number == number) (eq-eqb current current refl) (eq-eqb number number refl)))
      (cond-false task_test (Some current) (n.subpools.sight task number) (and_left (task == current) (number == number) (ne_eqb task current two.apart)) ∙ opened.unseen)
      two.apart in
      steps_as settings n (sharing_records current task number None) (with_sight (model_of first.after) task number current) (with_share (model_of n) task number) 2 2
      (λ k. (number == k) || (number == k)) (λ k. number == k)
      (steps_on settings n (made number current ∷ []) _ (with_subpool (model_of n) number current) (with_sight (model_of first.after) task number current) 1 1
      (λ k. number == k) (λ k. number == k) first next)
      (ap (λ s. with_sight s task number current) first.leads ∙ shares_own none) (omega arith) (λ k e. ap (λ b. b || b) e)
