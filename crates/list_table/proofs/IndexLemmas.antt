-- The index of a row, by its id.
use Rattle.std.proofs.Common.{◌≡◌, ℕ, zero, suc, ◌+◌, ◌<◌, ◌||◌, ◌==◌, Bool, true, false, inl, inr, List, [], ◌∷◌, length, drop, Some, None, refl, sym, ap, ◌∙◌, subst, arith}
use Rattle.std.proofs.lemmas.Bool.{cond-false, cond-true}
use Rattle.std.specs.Prelude.{map, slice_get, if◌then◌else◌}
use Rattle.std.proofs.lemmas.Bool.Decides.{eqb_tells}
use Rattle.vsm_elements.specs.Store.{Store, among, Distinct}
use Rattle.vsm_elements.specs.Chain.{Link, links, ids, head_or, IsLink, IsChain}
use Rattle.vsm_elements.specs.declared.chain.Chain.{Chain}
use Rattle.vsm_elements.proofs.ChainLemmas.{not_both}
use Rattle.list_table.specs.Entries.{Entry}
use Rattle.list_table.specs.Kept.{entry_in, place_of}
use Rattle.list_table.proofs.ListParts.{or_right}
use Rattle.list_table.proofs.TableLemmas.{drop_link, entry_ids}

same : (a : ℕ) → (a == a) ≡ true
same a = elim (eqb_tells a a) [
  | inl p ↦ p.0
  | inr p ↦ absurd (p.1 refl)
]

-- the id of a link in a list is among its ids
among_at : (ns : List Link) (k : ℕ) (n : Link) → slice_get ns k ≡ Some n → among n.id (ids ns) ≡ true
among_at [] k n h = absurd (none_some h) where
  none_some : None ≡ Some n → ⊥
  none_some e = cc
among_at (m ∷ ns) zero n h = ap (λ (b : Bool). b || among n.id (ids ns)) (ap (λ (z : Link). n.id == z.id) (some_is h) ∙ same n.id) where
  some_is : Some m ≡ Some n → m ≡ n
  some_is e = cc
among_at (m ∷ ns) (suc k) n h = or_right (n.id == m.id) (among n.id (ids ns)) (among_at ns k n h)

-- the place of its id is where it is
pub place_at : (ns : List Link) (k : ℕ) (n : Link) → Distinct (ids ns) → slice_get ns k ≡ Some n → place_of n.id ns ≡ k
place_at [] k n d h = absurd (none_some h) where
  none_some : None ≡ Some n → ⊥
  none_some e = cc
place_at (m ∷ ns) zero n d h = cond-true (n.id == m.id) 0 (suc (place_of n.id ns)) (ap (λ (z : Link). n.id == z.id) (some_is h) ∙ same n.id) where
  some_is : Some m ≡ Some n → m ≡ n
  some_is e = cc
place_at (m ∷ ns) (suc k) n d h = cond-false (n.id == m.id) 0 (suc (place_of n.id ns)) other ∙ ap suc (place_at ns k n d.1 h) where
  other : (n.id == m.id) ≡ false
  other = elim (eqb_tells n.id m.id) [
    | inl p ↦ absurd (not_both (among m.id (ids ns)) (ap (λ (i : ℕ). among i (ids ns)) (sym p.1) ∙ among_at ns k n h) d.0)
    | inr p ↦ p.0
  ]

-- an id among the links' is that of the link at its place
there_is : (id : ℕ) (ns : List Link) → among id (ids ns) ≡ true → (place_of id ns < length ns) × (id ≡ head_or (drop (place_of id ns) ns) 0)
there_is id [] h = absurd (not_both false h refl)
there_is id (n ∷ ns) h = elim (eqb_tells id n.id) [
  | inl p ↦
      let P : ℕ → Type 0 = λ k. (k < suc (length ns)) × (id ≡ head_or (drop k (n ∷ ns)) 0) in
      subst P (sym (cond-true (id == n.id) 0 (suc (place_of id ns)) p.0)) (omega arith, p.1)
  | inr p ↦
      let P : ℕ → Type 0 = λ k. (k < suc (length ns)) × (id ≡ head_or (drop k (n ∷ ns)) 0) in
      let r : (place_of id ns < length ns) × (id ≡ head_or (drop (place_of id ns) ns) 0) = there_is id ns (sym (ap (λ (b : Bool). b || among id (ids ns)) p.0) ∙ h) in
      subst P (sym (cond-false (id == n.id) 0 (suc (place_of id ns)) p.0)) (omega (arith, r.0), r.1)
]

-- so an entry's id is that of the link at its place
pub link_there : (s : Store) (c : Chain) (id : ℕ) → IsChain s c → among id (map (λ (e : Entry). e.id) (map (entry_in s) (links s c))) ≡ true → IsLink s c (place_of id (links s c)) id
link_there s c id chain h =
    let r : (place_of id (links s c) < length (links s c)) × (id ≡ head_or (drop (place_of id (links s c)) (links s c)) 0) = there_is id (links s c) (ap (among id) (sym (entry_ids s (links s c))) ∙ h) in
    (omega (arith, r.0, chain.count), r.1)

-- the link at an index has the id that was read there
pub named_at : (ns : List Link) (k id : ℕ) (n : Link) → slice_get ns k ≡ Some n → id ≡ head_or (drop k ns) 0 → id ≡ n.id
named_at ns k id n there at = at ∙ ap (λ (z : List Link). head_or z 0) (drop_link ns k n there)

-- the id of the link at an index is among the entries'
pub id_among : (s : Store) (c : Chain) (k id : ℕ) (n : Link) → slice_get (links s c) k ≡ Some n → id ≡ head_or (drop k (links s c)) 0 → among id (map (λ (e : Entry). e.id) (map (entry_in s) (links s c))) ≡ true
id_among s c k id n there at =
    ap (among id) (entry_ids s (links s c)) ∙ ap (λ (i : ℕ). among i (ids (links s c))) (named_at (links s c) k id n there at) ∙ among_at (links s c) k n there

-- and its index is that one
pub index_is : (s : Store) (c : Chain) (k id : ℕ) (n : Link) → IsChain s c → slice_get (links s c) k ≡ Some n → id ≡ head_or (drop k (links s c)) 0 → place_of id (links s c) ≡ k
index_is s c k id n chain there at = ap (λ (i : ℕ). place_of i (links s c)) (named_at (links s c) k id n there at) ∙ place_at (links s c) k n chain.distinct there
