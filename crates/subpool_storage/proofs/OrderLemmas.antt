-- The subpools and the sharers in order, as the set of subpools reads them.
use Rattle.std.proofs.Common.{◌≡◌, ℕ, true, false, ◌==◌, List, [], ◌∷◌, ◌++◌, map, Option, Some, None, refl, sym, ap, ◌∙◌}
use Rattle.std.proofs.lemmas.Bool.{cond-false, cond-true}
use Rattle.std.specs.Prelude.{if◌then◌else◌, option_map}
use Rattle.std.specs.List.{flat_map, filter_map, cons_option}
use Rattle.std.proofs.lemmas.List.{map-append}
use Rattle.vsm_elements.specs.Store.{Store}
use Rattle.vsm_elements.proofs.ChainFrame.{false_if}
use Rattle.subpool_set.proofs.KeyLemmas.{not_both, eqb_refl, eqb_same}
use Rattle.subpool_set.specs.Pools.{Pool, tasks, numbers, ids_in_order}
use Rattle.subpool_set.specs.SubpoolSet.{sight, pool, number_of, owner_of, IsSubpool}
use Rattle.subpool_set.proofs.LawLemmas.{pools_are_named, own_is_there}
use Rattle.subpool_set.proofs.PoolLemmas.{ids_some}
use Rattle.vsm_model.specs.declared.Subpool.{Subpool}
use Rattle.vsm_model.specs.Search.{holds}
use Rattle.subpool_storage.specs.declared.storage.SubpoolStorage.{SubpoolStorage}
use Rattle.subpool_storage.specs.Subpools.{is_there}
use Rattle.subpool_storage.specs.SubpoolStorage.{subpools_of, named, Stands}
use Rattle.subpool_storage.specs.Order.{subpool_at, subpools_in_order}

-- what a list in order gives, each turned by a function
module _ {A B : Type 0} (f : A → B) where
  map_cons : (o : Option A) (xs : List A) → map f (cons_option o xs) ≡ cons_option (option_map f o) (map f xs)
  map_cons None xs = refl
  map_cons (Some x) xs = refl

  map_given : (p : ℕ → Option A) (q : ℕ → Option B) → ((t : ℕ) → option_map f (p t) ≡ q t) → (ts : List ℕ) → map f (filter_map p ts) ≡ filter_map q ts
  map_given p q e [] = refl
  map_given p q e (t ∷ ts) = map_cons (p t) (filter_map p ts) ∙ ap (λ (o : Option B). cons_option o (map f (filter_map p ts))) (e t) ∙ ap (cons_option (q t)) (map_given p q e ts)

  map_flat : (p : ℕ → List A) (q : ℕ → List B) → ((n : ℕ) → map f (p n) ≡ q n) → (ns : List ℕ) → map f (flat_map p ns) ≡ flat_map q ns
  map_flat p q e [] = refl
  map_flat p q e (n ∷ ns) = map-append f (p n) (flat_map p ns) ∙ ap (λ (z : List B). z ++ map f (flat_map p ns)) (e n) ∙ ap (λ (z : List B). q n ++ z) (map_flat p q e ns)

  map_order : (p : ℕ → ℕ → Option A) (q : ℕ → ℕ → Option B) → ((n o : ℕ) → option_map f (p n o) ≡ q n o)
      → map f (flat_map (λ n. filter_map (p n) tasks) numbers) ≡ flat_map (λ n. filter_map (q n) tasks) numbers
  map_order p q e = map_flat (λ n. filter_map (p n) tasks) (λ n. filter_map (q n) tasks) (λ n. map_given (p n) (q n) (e n) tasks) numbers

pub seen_by : (o : ℕ) (y : Option ℕ) → holds (λ owner. owner == o) y ≡ true → y ≡ Some o
seen_by o None e = absurd (not_both false e refl)
seen_by o (Some z) e = ap Some (eqb_same z o e)

module _ (s : Store) (q : SubpoolStorage) (h : Stands s q) where
  abbrev subpool : ℕ → ℕ → Subpool
  subpool n o = record { number = n; owner = o }

  named_at : (n o : ℕ) → option_map (named s) (option_map (λ (x : Pool). x.id) (pool s q.set n o)) ≡ subpool_at (subpools_of s q) n o
  unfolding Stands subpools_of
  named_at n o = go (pool s q.set n o) refl where
    go : (y : Option Pool) → pool s q.set n o ≡ y → option_map (named s) (option_map (λ (x : Pool). x.id) y) ≡ (if is_there (subpools_of s q) (subpool n o) then Some (subpool n o) else None)
    go None e = sym (cond-false (is_there (subpools_of s q) (subpool n o)) (Some (subpool n o)) None (false_if (is_there (subpools_of s q) (subpool n o)) (λ k. own_is_there s q.set n o e (seen_by o (sight s q.set o n) k))))
    go (Some x) e =
        let k : IsSubpool s q.set x.id × (number_of s x.id ≡ n) × (owner_of s x.id ≡ o) × (sight s q.set o n ≡ Some o) = pools_are_named s q.set n o x h.set e in
        (λ i. Some (record { number = k.1 i; owner = k.2 i }))
        ∙ sym (cond-true (is_there (subpools_of s q) (subpool n o)) (Some (subpool n o)) None (ap (holds (λ owner. owner == o)) k.3 ∙ eqb_refl o))

  -- all subpools are those of all ids
  pub all_named : map (named s) (ids_in_order (pool s q.set)) ≡ subpools_in_order (subpools_of s q)
  all_named =
      ap (map (named s)) (map_order (λ (x : Pool). x.id) (pool s q.set) (λ n o. option_map (λ (x : Pool). x.id) (pool s q.set n o)) (λ n o. refl))
      ∙ map_order (named s) (λ n o. option_map (λ (x : Pool). x.id) (pool s q.set n o)) (subpool_at (subpools_of s q)) named_at

  -- the subpool of an id exists
  pub named_there : (id n o : ℕ) → IsSubpool s q.set id → number_of s id ≡ n → owner_of s id ≡ o → is_there (subpools_of s q) (subpool n o) ≡ true
  unfolding Stands subpools_of
  named_there id n o is a b =
      let p : (p : Pool) × (pool s q.set (number_of s id) (owner_of s id) ≡ Some p) × (p.id ≡ id) = ids_some (pool s q.set (number_of s id) (owner_of s id)) id is in
      let seen : sight s q.set (owner_of s id) (number_of s id) ≡ Some (owner_of s id) = (pools_are_named s q.set (number_of s id) (owner_of s id) p.0 h.set p.1).3 in
      (λ i. holds (λ owner. owner == sym b i) (sight s q.set (sym b i) (sym a i))) ∙ ap (holds (λ owner. owner == owner_of s id)) seen ∙ eqb_refl (owner_of s id)
