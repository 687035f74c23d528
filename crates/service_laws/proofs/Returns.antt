-- An accepted release releases taken storage.
use Rattle.std.proofs.Common.{◌≡◌, ℕ, ◌+◌, ◌*◌, ◌/◌, ◌≤◌, ◌⊎◌, Bool, true, false, not, ◌&&◌, nat_lt, if◌then◌else◌, Some, None, slice_index_or, arith, refl, sym, ◌∙◌, ap, subst, inl, inr}
use Rattle.std.specs.Prelude.{unwrap_or}
use Rattle.std.specs.List.{list_any}
use Rattle.std.proofs.lemmas.Bool.{and_parts, and_from, and_left, and_cases, or_parts, ltb-false, cond-true, cond-false, not-false, not-true, both_ways, false_from_ne_true}
use Rattle.vsm_model.specs.declared.Subpool.{Subpool}
use Rattle.vsm_model.specs.declared.limits.Settings.{Settings}
use Rattle.vsm_model.specs.declared.replies.Reply.TheVariants.{Returned}
use Rattle.vsm_model.specs.declared.services.Release.{Release}
use Rattle.vsm_model.specs.Search.{some_pass, holds}
use Rattle.vsm_model.specs.Regions.{among, in_a_region, doublewords}
use Rattle.vsm_model.specs.CellPools.{CellPool, CellExtent, extent_doublewords}
use Rattle.vsm_model.specs.State.{State}
use Rattle.vsm_model.specs.Subpools.{same_subpool, seen_or_own}
use Rattle.vsm_model.specs.Registers.{with_register}
use Rattle.vsm_model.specs.Releasing.{is_idle, is_foreign, is_not_taken, overlaps_extent, overlaps_cells, without_area}
use Rattle.vsm_model.specs.Services.{release}
use Rattle.vsm_model.proofs.Chosen.{accepted_has_its_effect, accepted_state, accepted_reply}
use Rattle.vsm_model.proofs.Least.{all_pass_at, all_pass_is_all}
use Rattle.service_laws.specs.StorageRegisters.{ReturnCodeIsSet}
use Rattle.service_laws.specs.GivenBack.{HasNoCells, IsGivenBack, ReleaseGivesTakenStorageBack}
use Rattle.service_laws.proofs.Cases.{same_some, none_some, some_from, belongs_is, belongs_from, chosen, none_pass_at}
use Rattle.service_laws.proofs.Registers.{code_is_set, code_is_all}
use Rattle.service_laws.proofs.Kept.{none_of}
use Rattle.service_laws.proofs.Allowed.{ReleaseIsAllowed, release_allowed}

-- the subpool that a task sees
pub seen_is : (s : State) (number owner : ℕ) → s.sight s.current number ≡ Some owner → seen_or_own s number ≡ record { number = number; owner = owner }
seen_is s number owner e = λ i. record { number = number; owner = unwrap_or (e i) s.current }

-- an extent that has no byte of an area lies before or after it
extent_apart : (address size : ℕ) (pool : CellPool) (x : CellExtent) → overlaps_extent address size pool x ≡ false →
    (address + size ≤ x.address) ⊎ (x.address + 8 * extent_doublewords pool x.cells ≤ address)
extent_apart address size pool x e =
    elim (and_cases (nat_lt address (x.address + 8 * extent_doublewords pool x.cells)) (nat_lt x.address (address + size)) e) [
      | inl before ↦ inr (ltb-false address (x.address + 8 * extent_doublewords pool x.cells) before)
      | inr behind ↦ inl (ltb-false x.address (address + size) behind)
    ]

pub no_cells_from : (s : State) (address size : ℕ) → overlaps_cells s address size ≡ false → HasNoCells s.cell_pools address size
no_cells_from s address size apart k row below i x under =
    let pool : CellPool = (slice_index_or s.cell_pools k row).1 in
    extent_apart address size pool (slice_index_or pool.extents i x)
    (none_of (overlaps_extent address size pool) pool.extents i x
    (none_of (λ row. list_any (overlaps_extent address size row.1) row.1.extents) s.cell_pools k row apart below) under)

module _ (settings : Settings) (s : State) (r : Release) (may : ReleaseIsAllowed settings s r) (owner : ℕ) (seen : s.sight s.current r.number ≡ Some owner) where
  abbrev its : Subpool
  its = record { number = r.number; owner = owner }

  abbrev left : ℕ → Bool
  left k = not (among (r.address / 8) (doublewords r.length) k) && s.taken k

  -- a page that keeps a taken doubleword isn't idle
  busy : (k d : ℕ) → d / 512 ≡ k → left d ≡ true → (holds (same_subpool its) (s.pages k) && is_idle left k) ≡ false
  unfolding is_idle
  busy k d at taken =
      false_from_ne_true (holds (same_subpool its) (s.pages k) && is_idle left k) (λ gone.
      let idle = and_parts (holds (same_subpool its) (s.pages k)) (is_idle left k) gone in
      both_ways (left d) (not-true (left d) (all_pass_at (λ j. not (left j)) (k * 512) 512 d idle.1 (omega (arith, at)) (omega (arith, at)))) taken)

  -- a page without a taken doubleword is idle
  quiet : (k : ℕ) → s.pages k ≡ Some its → ((d : ℕ) → d / 512 ≡ k → left d ≡ false) → (holds (same_subpool its) (s.pages k) && is_idle left k) ≡ true
  unfolding is_idle
  quiet k e none =
      and_from (holds (same_subpool its) (s.pages k)) (is_idle left k) (belongs_from its (s.pages k) e)
      ((all_pass_is_all (λ j. not (left j)) (k * 512) 512).1 (λ d from below. ap not (none d (omega (arith, from, below)))))

  -- a page that is as it was isn't one that leaves
  unmoved : (k : ℕ) → (if holds (same_subpool its) (s.pages k) && is_idle left k then None else s.pages k) ≡ s.pages k → (holds (same_subpool its) (s.pages k) && is_idle left k) ≡ false
  unmoved k same =
      false_from_ne_true (holds (same_subpool its) (s.pages k) && is_idle left k) (λ gone.
      let none : s.pages k ≡ None = sym same ∙ cond-true (holds (same_subpool its) (s.pages k) && is_idle left k) None (s.pages k) gone in
      none_some its (sym none ∙ belongs_is its (s.pages k) (and_parts (holds (same_subpool its) (s.pages k)) (is_idle left k) gone).0))

  abbrev after : State
  after = without_area s its (r.address / 8) (doublewords r.length)

  code_in_register_15 : ReturnCodeIsSet s (with_register after 15 0) 0
  code_in_register_15 = let h = code_is_set after 0 in record { register_15 = h.register_15; other_registers = h.other_registers }

  used : some_pass (is_not_taken s its) (r.address / 8) (doublewords r.length) ≡ false
  used = ap (λ p. some_pass (is_not_taken s p) (r.address / 8) (doublewords r.length)) (sym (seen_is s r.number owner seen)) ∙ may.used

  own : some_pass (is_foreign settings s its) (r.address / 8) (doublewords r.length) ≡ false
  own = ap (λ p. some_pass (is_foreign settings s p) (r.address / 8) (doublewords r.length)) (sym (seen_is s r.number owner seen)) ∙ may.own

  given_back : IsGivenBack settings s (with_register (without_area s its (r.address / 8) (doublewords r.length)) 15 0) r
  given_back =
      let here : (d : ℕ) → among (r.address / 8) (doublewords r.length) d ≡ true → (holds (same_subpool its) (s.pages (d / 512)) && s.taken d) ≡ true =
      λ d e. not-false _ (none_pass_at (is_not_taken s its) (r.address / 8) (doublewords r.length) d used e) in
      record {
        private = may.private;
        some = may.some;
        on_doubleword = may.aligned;
        owner = owner;
        seen = seen;
        in_region = λ d e. not-false _ (or_parts (not (in_a_region settings (d / 512))) (holds (λ q. not (same_subpool its q)) (s.pages (d / 512)))
            (none_pass_at (is_foreign settings s its) (r.address / 8) (doublewords r.length) d own e)).0;
        was_taken = λ d e. (and_parts _ _ (here d e)).1;
        in_subpool = λ d e. belongs_is its (s.pages (d / 512)) (and_parts _ _ (here d e)).0;
        no_cells = no_cells_from s r.address (8 * doublewords r.length) may.apart;
        taken = λ d. refl;
        idle_leaves = λ k e none. cond-true (holds (same_subpool its) (s.pages k) && is_idle left k) None (s.pages k) (quiet k e none);
        stays = λ k p d e at taken. cond-false (holds (same_subpool its) (s.pages k) && is_idle left k) None (s.pages k) (busy k d at taken) ∙ e;
        others_stay = λ k p e other.
            cond-false (holds (same_subpool its) (s.pages k) && is_idle left k) None (s.pages k)
            (and_left (holds (same_subpool its) (s.pages k)) (is_idle left k)
            (false_from_ne_true (holds (same_subpool its) (s.pages k)) (λ own. other (same_some p its (sym e ∙ belongs_is its (s.pages k) own)))))
            ∙ e;
        none_new = λ k p e.
            chosen (holds (same_subpool its) (s.pages k) && is_idle left k) None (s.pages k) (Some p) _ e
            (λ _ is. absurd (none_some p is)) (λ _ old. old);
        no_bytes = λ a p e gone.
            chosen (holds (same_subpool its) (s.pages (a / 4096)) && is_idle left (a / 4096)) None (s.pages (a / 4096)) None _ gone
            (λ leaves _. cond-true (holds (same_subpool its) (s.pages (a / 4096)) && is_idle left (a / 4096)) None (s.bytes a) leaves)
            (λ _ none. absurd (none_some p (sym none ∙ e)));
        same_bytes = λ a same.
            cond-false (holds (same_subpool its) (s.pages (a / 4096)) && is_idle left (a / 4096)) None (s.bytes a) (unmoved (a / 4096) same);
        current = refl;
        parents = refl;
        same_subpools = refl;
        same_sight = refl;
        cell_pools = refl;
        registers = code_in_register_15;
      }

pub release_gives_taken_storage_back : ReleaseGivesTakenStorageBack
release_gives_taken_storage_back settings names_full s t r reply e =
    elim (accepted_has_its_effect settings names_full s t (release r) reply e) [
      | inl done ↦
          let may = release_allowed settings s r done.0 in
          let (owner, seen) = some_from (s.sight s.current r.number) may.seen in
          inl (
            subst (λ u. IsGivenBack settings s u r) (accepted_state _ t (Returned 0) reply done.1)
                (subst (λ p. IsGivenBack settings s (with_register (without_area s p (r.address / 8) (doublewords r.length)) 15 0) r) (sym (seen_is s r.number owner seen))
                (given_back settings s r may owner seen)),
            sym (accepted_reply _ t (Returned 0) reply done.1),
          )
      | inr four ↦ inr (four.0, four.1, code_is_all s t 4 four.2)
    ]
