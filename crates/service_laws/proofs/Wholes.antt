-- The release of a whole subpool empties it, and leaves all others.
use Rattle.std.proofs.Common.{◌≡◌, ◌≢◌, ℕ, ◌/◌, false, not, ◌&&◌, Option, Some, None, List, refl, sym, ◌∙◌, ap, subst}
use Rattle.std.proofs.lemmas.Bool.{cond-true, cond-false, false_from_ne_true}
use Rattle.vsm_model.specs.declared.Subpool.{Subpool}
use Rattle.vsm_model.specs.declared.limits.Settings.{Settings}
use Rattle.vsm_model.specs.declared.replies.Reply.TheVariants.{Returned}
use Rattle.vsm_model.specs.Search.{holds}
use Rattle.vsm_model.specs.CellPools.{CellPool, cell_pool_in}
use Rattle.vsm_model.specs.State.{State}
use Rattle.vsm_model.specs.Subpools.{same_subpool}
use Rattle.vsm_model.specs.Registers.{with_register}
use Rattle.vsm_model.specs.Releasing.{without_storage}
use Rattle.vsm_model.specs.Services.{whole}
use Rattle.vsm_model.specs.WellFormed.{IsWellFormed}
use Rattle.vsm_model.proofs.Chosen.{no_cause, accepted_state, accepted_reply}
use Rattle.service_laws.specs.StorageRegisters.{ReturnCodeIsSet}
use Rattle.service_laws.specs.GivenBack.{IsEmptied, WholeReleaseEmptiesTheSubpool}
use Rattle.service_laws.proofs.Cases.{some_from, same_is, same_self, belongs_is, belongs_from}
use Rattle.service_laws.proofs.StorageTables.{kept_of, found_in_part}
use Rattle.service_laws.proofs.Registers.{code_is_set}
use Rattle.service_laws.proofs.Returns.{seen_is}
use Rattle.service_laws.proofs.Allowed.{WholeIsAllowed, whole_allowed}

module _ (settings : Settings) (s : State) (w : IsWellFormed settings s) (number : ℕ) (may : WholeIsAllowed s number) (own : s.sight s.current number ≡ Some s.current) where
  abbrev its : Subpool
  its = record { number = number; owner = s.current }

  -- a page isn't one of the subpool
  other : (o : Option Subpool) → o ≢ Some its → holds (same_subpool its) o ≡ false
  other o apart = false_from_ne_true (holds (same_subpool its) o) (λ e. apart (belongs_is its o e))

  other_pool : (pool : CellPool) → pool.subpool ≢ its → same_subpool its pool.subpool ≡ false
  other_pool pool apart = false_from_ne_true (same_subpool its pool.subpool) (λ e. apart (same_is its pool.subpool e))

  abbrev after : State
  after = without_storage s (same_subpool its)

  found : (name : List ℕ) → cell_pool_in after.cell_pools name ≡ kept_of (λ pool. not (same_subpool its pool.subpool)) (cell_pool_in s.cell_pools name)
  found name = found_in_part (λ pool. not (same_subpool its pool.subpool)) s.cell_pools name w.cell_pools.ascending

  code_in_register_15 : ReturnCodeIsSet s (with_register after 15 0) 0
  code_in_register_15 = let h = code_is_set after 0 in record { register_15 = h.register_15; other_registers = h.other_registers }

  emptied : IsEmptied s (with_register after 15 0) number
  emptied = record {
    private = may.private;
    some = may.some;
    own = own;
    its_pages = λ k e. cond-true (holds (same_subpool its) (s.pages k)) None (s.pages k) (belongs_from its (s.pages k) e);
    its_doublewords = λ d e. ap (λ b. not b && s.taken d) (belongs_from its (s.pages (d / 512)) e);
    its_bytes = λ a e. cond-true (holds (same_subpool its) (s.pages (a / 4096))) None (s.bytes a) (belongs_from its (s.pages (a / 4096)) e);
    other_pages = λ k e. cond-false (holds (same_subpool its) (s.pages k)) None (s.pages k) (other (s.pages k) e);
    other_doublewords = λ d e. ap (λ b. not b && s.taken d) (other (s.pages (d / 512)) e);
    other_bytes = λ a e. cond-false (holds (same_subpool its) (s.pages (a / 4096))) None (s.bytes a) (other (s.pages (a / 4096)) e);
    its_cell_pools = λ name pool at is.
        found name ∙ ap (kept_of (λ pool. not (same_subpool its pool.subpool))) at
        ∙ cond-false (not (same_subpool its pool.subpool)) (Some pool) None (ap (λ p. not (same_subpool its p)) is ∙ ap not (same_self its));
    other_cell_pools = λ name pool at apart.
        found name ∙ ap (kept_of (λ pool. not (same_subpool its pool.subpool))) at
        ∙ cond-true (not (same_subpool its pool.subpool)) (Some pool) None (ap not (other_pool pool apart));
    no_new_cell_pool = λ name none. found name ∙ ap (kept_of (λ pool. not (same_subpool its pool.subpool))) none;
    current = refl;
    parents = refl;
    same_subpools = refl;
    same_sight = refl;
    registers = code_in_register_15;
  }

pub whole_release_empties_the_subpool : WholeReleaseEmptiesTheSubpool
whole_release_empties_the_subpool settings names_full s t number reply w e =
    let done = no_cause settings names_full s t (whole number) reply refl e in
    let may = whole_allowed s number done.0 in
    let (owner, seen) = some_from (s.sight s.current number) may.seen in
    let is = seen_is s number owner seen in
    let mine : owner ≡ s.current = sym (ap (λ (p : Subpool). p.owner) is) ∙ may.own in
    let own : s.sight s.current number ≡ Some s.current = seen ∙ ap (λ n. Some n) mine in (
      subst (λ u. IsEmptied s u number) (accepted_state _ t (Returned 0) reply done.1)
          (subst (λ p. IsEmptied s (with_register (without_storage s (same_subpool p)) 15 0) number) (sym (seen_is s number s.current own))
          (emptied settings s w number may own)),
      sym (accepted_reply _ t (Returned 0) reply done.1),
    )
