-- A gift leaves pages and cell pools sound.
use Rattle.std.proofs.Common.{◌≡◌, ◌⊎◌, ℕ, ◌+◌, ◌*◌, ◌/◌, ◌≤◌, true, false, not, ◌&&◌, ◌||◌, ◌==◌, List, map, AllPairs, refl, sym, ◌∙◌, ap, subst, arith, inl, inr}
use Rattle.std.specs.Option.{option_map}
use Rattle.std.proofs.lemmas.Bool.{cond-true, cond-false, and_from, and_cases, or_left, or_right, eq-eqb, cases_Bool, both_ways}
use Rattle.std.proofs.lemmas.List.{length-map}
use Rattle.std.proofs.lemmas.List.Elements.{All-map}
use Rattle.std.proofs.lemmas.List.Folds.{flat_map-map}
use Rattle.vsm_model.specs.declared.Subpool.{Subpool}
use Rattle.vsm_model.specs.declared.limits.Settings.{Settings}
use Rattle.vsm_model.specs.CellPools.{CellPool, CellExtent, extent_doublewords}
use Rattle.vsm_model.specs.State.{State}
use Rattle.vsm_model.specs.Subpools.{same_subpool}
use Rattle.vsm_model.specs.Passing.{handed_on, with_gift}
use Rattle.vsm_model.specs.WellFormed.{PagesAreSound, IsInSubpool, PoolIsSound, CellPoolsAreSound}
use Rattle.service_laws.proofs.Options.{mapped, some_mapped}
use Rattle.service_laws.proofs.TaskTables.{ascending_changed}

module _ (s : State) (old new number : ℕ) where
  abbrev after : State
  after = with_gift s old new number

  abbrev olds : Subpool
  olds = record { number = number; owner = old }

  abbrev news : Subpool
  news = record { number = number; owner = new }

  abbrev handed : Subpool → Subpool
  handed = handed_on number old new

  -- a subpool that exists still exists, as the new owner's if it was given
  there_still : (p : Subpool) → s.subpools p.number p.owner ≡ true → after.subpools (handed p).number (handed p).owner ≡ true
  there_still p there =
      elim (cases_Bool (same_subpool p olds)) [
        | inl is ↦ subst (λ (q : Subpool). after.subpools q.number q.owner ≡ true) (sym (cond-true (same_subpool p olds) news p is))
            (cond-true (number == number) ((new == new) || (not (new == old) && s.subpools number new)) (s.subpools number new) (eq-eqb number number refl)
            ∙ or_left (new == new) _ (eq-eqb new new refl))
        | inr other ↦ subst (λ (q : Subpool). after.subpools q.number q.owner ≡ true) (sym (cond-false (same_subpool p olds) news p other))
            (elim (cases_Bool (p.number == number)) [
              | inl is ↦
                  cond-true (p.number == number) ((p.owner == new) || (not (p.owner == old) && s.subpools p.number p.owner)) (s.subpools p.number p.owner) is
                  ∙ or_right (p.owner == new) _ (and_from (not (p.owner == old)) (s.subpools p.number p.owner) (ap not (others other is)) there)
              | inr is_not ↦
                  cond-false (p.number == number) ((p.owner == new) || (not (p.owner == old) && s.subpools p.number p.owner)) (s.subpools p.number p.owner) is_not ∙ there
            ])
      ]
    where
      others : same_subpool p olds ≡ false → (p.number == number) ≡ true → (p.owner == old) ≡ false
      others other is =
          elim (and_cases (p.number == number) (p.owner == old) other) [
            | inl apart ↦ absurd (both_ways (p.number == number) apart is)
            | inr apart ↦ apart
          ]

  pub pages_given : (settings : Settings) → PagesAreSound settings s → PagesAreSound settings (with_gift s old new number)
  pages_given settings w = record {
    in_region = λ k p e. let (q, at, is) = mapped handed (s.pages k) p e in w.in_region k q at;
    has_subpool = λ k p e.
        let (q, at, is) = mapped handed (s.pages k) p e in
        subst (λ (x : Subpool). after.subpools x.number x.owner ≡ true) is (there_still q (w.has_subpool k q at));
    has_taken = λ k p e. let (q, at, is) = mapped handed (s.pages k) p e in w.has_taken k q at;
    in_page = λ d taken. some_mapped handed (s.pages (d / 512)) ∙ w.in_page d taken;
    has_bytes = λ a. w.has_bytes a ∙ sym (some_mapped handed (s.pages (a / 4096)));
    are_bytes = w.are_bytes;
  }

  -- the cell pool in the subpool's new owner's hands
  abbrev moved : CellPool → CellPool
  moved pool = record pool { subpool = handed pool.subpool }

  extent_given : (pool : CellPool) (x : CellExtent) → IsInSubpool s pool x → IsInSubpool after (moved pool) x
  extent_given pool x w =
      record { has_cells = w.has_cells; on_doubleword = w.on_doubleword; is_taken = w.is_taken; in_pages = λ d in_it. ap (option_map handed) (w.in_pages d in_it) }

  pool_given : (pool : CellPool) → PoolIsSound s pool → PoolIsSound after (moved pool)
  pool_given pool w = record {
    has_subpool = there_still pool.subpool w.has_subpool;
    in_subpool = λ k d below. extent_given pool _ (w.in_subpool k d below);
    are_cells_of_it = w.are_cells_of_it;
    distinct = w.distinct;
    bounds = w.bounds;
  }

  abbrev spans : List ℕ × CellPool → List (ℕ × ℕ)
  spans row = map (λ (x : CellExtent). (x.address, x.address + 8 * extent_doublewords row.1 x.cells)) row.1.extents

  abbrev row_given : List ℕ × CellPool → List ℕ × CellPool
  row_given row = (row.0, moved row.1)

  pub cell_pools_given : CellPoolsAreSound s → CellPoolsAreSound (with_gift s old new number)
  cell_pools_given w = record {
    ascending = ascending_changed moved s.cell_pools ∙ w.ascending;
    few = let same = length-map s.cell_pools row_given in let few = w.few in omega (arith, same, few);
    each = All-map (λ (row : List ℕ × CellPool). PoolIsSound after row.1) row_given s.cell_pools (λ k d below. pool_given _ (w.each k d below));
    apart = subst (AllPairs (λ (x y : ℕ × ℕ). (x.1 ≤ y.0) ⊎ (y.1 ≤ x.0))) (sym (flat_map-map spans row_given s.cell_pools)) w.apart;
  }
