-- A place among subpools or sharers stays one if the elements of the storage are as they were.
use Rattle.std.proofs.Common.{◌≡◌, ℕ, zero, suc, Bool, true, false, ◌||◌, ◌==◌, List, [], ◌∷◌, drop, Option, refl, ap, ◌∙◌, arith}
use Rattle.std.specs.Prelude.{map, unwrap_or, if◌then◌else◌}
use Rattle.vsm_elements.specs.declared.element.Element.{Element}
use Rattle.vsm_elements.specs.Store.{Store, at, among, blank}
use Rattle.vsm_elements.specs.Chain.{Link, ids}
use Rattle.row_table.specs.Keys.{seven, links}
use Rattle.row_table.proofs.KeyLemmas.{owned_links}
use Rattle.vsm_elements.proofs.StoreLemmas.{among_first, among_later}
use Rattle.vsm_elements.proofs.TimesLemmas.{times-some}
use Rattle.row_table.specs.Rows.{word}
use Rattle.row_table.specs.RowTable.{rows, row_of, words_of, place_index}
use Rattle.row_table.specs.RowTable
use Rattle.subpool_set.specs.declared.set.SubpoolSet.{SubpoolSet as TheSet}
use Rattle.subpool_set.specs.declared.places.SubpoolPlace.{SubpoolPlace}
use Rattle.subpool_set.specs.Kept.{owner_in}
use Rattle.subpool_set.specs.Walks.{pool_ids}
use Rattle.subpool_set.specs.SubpoolSet.{owned, number_of, owner_of, pools_left}
use Rattle.subpool_set.proofs.KeyLemmas.{not_both}
use Rattle.subpool_set.proofs.PlaceLemmas.{places_kept}
use Rattle.subpool_storage.specs.SubpoolStorage.{hold, named, Stands, IsSubpoolPlace, subpools_left, sharers_left}
use Rattle.subpool_storage.specs.PlaceLaws.{PlacesStay}

-- an id is among more if it's among fewer
or_more : (b c d : Bool) → (c ≡ true → d ≡ true) → b || c ≡ true → b || d ≡ true
or_more true c d more h = refl
or_more false c d more h = more h

here : (b : Bool) (j i : ℕ) (xs ys : List ℕ) → (among i xs ≡ true → among i ys ≡ true) → among i (if b then j ∷ xs else xs) ≡ true → among i (j ∷ ys) ≡ true
here true j i xs ys more h = or_more (i == j) (among i xs) (among i ys) more h
here false j i xs ys more h = among_later i j ys (more h)

-- the ids of the subpools that are left are those of elements of the set
left_among : (ns : List Link) (k i : ℕ) → among i (pool_ids (drop k (map row_of ns))) ≡ true → among i (ids ns) ≡ true
left_among [] zero i h = absurd (not_both false h refl)
left_among [] (suc k) i h = absurd (not_both false h refl)
left_among (n ∷ ns) (suc k) i h = among_later i n.id (ids ns) (left_among ns k i h)
left_among (n ∷ ns) zero i h = here (owner_in (row_of n) == word n.words 0) n.id i (pool_ids (map row_of ns)) (ids ns) (left_among ns zero i) h

left_owned : (s : Store) (q : TheSet) (place : SubpoolPlace) (i : ℕ) → among i (pools_left s q place) ≡ true → among i (owned s q) ≡ true
unfolding pools_left owned rows RowTable.owned
left_owned s q place i h = ap (among i) (owned_links s q.rows.tree) ∙ left_among (links s q.rows.tree) (place_index place.next) i h

-- what an id names, only by its element
same_named : (s t : Store) (id : ℕ) → at t id ≡ at s id → named t id ≡ named s id
unfolding number_of owner_of words_of
same_named s t id e =
    let w : words_of t id ≡ words_of s id = ap (λ (o : Option Element). seven (drop 1 ((unwrap_or o blank).words))) e in
    λ i. record { number = word (w i) 1; owner = word (w i) 2 }

same_names : (s t : Store) (xs : List ℕ) → ((i : ℕ) → among i xs ≡ true → at t i ≡ at s i) → map (named t) xs ≡ map (named s) xs
same_names s t [] h = refl
same_names s t (x ∷ xs) h = λ i. same_named s t x (h x (among_first x xs)) i ∷ same_names s t xs (λ j m. h j (among_later j x xs m)) i

pub places_stay : PlacesStay
unfolding Stands hold IsSubpoolPlace subpools_left sharers_left
places_stay s t q h same =
    let own : (i : ℕ) → among i (owned s q.set) ≡ true → at t i ≡ at s i = λ i m. same i (omega (arith, times-some i (owned s q.set) m)) in
    let k = places_kept s t q.set h.set own in (
      (λ place p.
          let r = k.0 place p in
          (r.0, ap (map (named t)) r.1 ∙ same_names s t (pools_left s q.set place) (λ i m. own i (left_owned s q.set place i m)))),
      (λ place p. k.1 place p.number p.owner),
    )
