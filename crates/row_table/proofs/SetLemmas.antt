-- A row is written by its id.
use Rattle.std.proofs.Common.{◌≡◌, ℕ, zero, suc, ◌-◌, ◌<◌, ◌≤◌, Bool, true, false, List, [], ◌∷◌, ◌++◌, length, take, drop, Option, Some, None, IsSome, refl, sym, ap, ◌∙◌, subst, arith, get_or-set_other}
use Rattle.std.specs.Prelude.{if◌then◌else◌, option_map, slice_set}
use Rattle.std.proofs.lemmas.List.{length-drop}
use Rattle.vsm_elements.specs.Store.{Store, among}
use Rattle.vsm_elements.specs.Chain.{element}
use Rattle.row_table.specs.declared.item.Item.{Item}
use Rattle.row_table.specs.declared.tree.ItemTree.{ItemTree}
use Rattle.row_table.specs.Items.{key, item_in}
use Rattle.row_table.specs.Trees.{items, owned, words_at, Writes}
use Rattle.row_table.proofs.ItemSetLemmas.{stored}
use Rattle.row_table.specs.declared.row.Row.{Row}
use Rattle.row_table.specs.Rows.{word, is_under, row_in}
use Rattle.row_table.specs.Keys.{key_of, seven, row_in_item, links}
use Rattle.row_table.specs.Kept.{IsKept}
use Rattle.row_table.proofs.RowLemmas.{same_self}
use Rattle.row_table.proofs.KeyLemmas.{some_low, item_of_row}
use Rattle.row_table.proofs.CallLemmas.{found_key, found_owned, own_key}
use Rattle.row_table.proofs.CallLemmas
use Rattle.row_table.proofs.TableLemmas.{stored_in}

none_is : (id : ℕ) → None ≡ Some id → ⊥
none_is id e = cc

inside : (i j : ℕ) → Some i ≡ Some j → i ≡ j
inside i j e = cc

pub row_of_id : (o : Option Row) (id : ℕ) → option_map (λ (r : Row). r.id) o ≡ Some id → (r : Row) × ((o ≡ Some r) × (r.id ≡ id))
row_of_id None id e = absurd (none_is id e)
row_of_id (Some r) id e = (r, (refl, inside r.id id e))

-- the item that an element is
abbrev pub item_at : Store → ℕ → Item
item_at s id = record { id = id; words = drop 1 ((element s id).words) }

-- the item whose id is that of the row under the key of these words
module _ (s : Store) (h : ItemTree) (id : ℕ) (words : List ℕ) (kept : IsKept s h)
    (there : option_map (λ (r : Row). r.id) (row_in (word words 0) (word words 1) (links s h)) ≡ Some id) where
  abbrev a : ℕ
  a = word words 0

  abbrev b : ℕ
  b = word words 1

  found_row : (r : Row) × ((row_in a b (links s h) ≡ Some r) × (r.id ≡ id))
  found_row = row_of_id (row_in a b (links s h)) id there

  found_item : (n : Item) × ((item_in (key_of a b) (items s h) ≡ Some n) × (row_in_item n ≡ found_row.0))
  found_item = item_of_row a b (items s h) found_row.0 found_row.1.0

  item_id : found_item.0.id ≡ id
  item_id = ap (λ (r : Row). r.id) found_item.1.1 ∙ found_row.1.1

  low : a < 256
  low = let P : Option Row → Type 0 = λ o. IsSome o in some_low a b (items s h) (subst P (sym found_row.1.0) refl)

  pub named_owned : among id (owned s h) ≡ true
  named_owned = ap (λ (z : ℕ). among z (owned s h)) (sym item_id) ∙ found_owned s h (key_of a b) found_item.0 found_item.1.0

  module _ (item : Item) (named : item.id ≡ id) (is_stored : item.words ≡ drop 1 ((element s id).words)) where
    same_item : found_item.0 ≡ item
    same_item =
        let w : found_item.0.words ≡ item.words = (stored_in s (key_of a b) (items s h) (stored s h kept.tree) found_item.0 found_item.1.0).0 ∙ ap (λ (z : ℕ). drop 1 ((element s z).words)) item_id ∙ sym is_stored in
        ap (λ (i : ℕ). record { id = i; words = found_item.0.words }) (item_id ∙ sym named) ∙ ap (λ (v : List ℕ). record { id = item.id; words = v }) w

    found_is : item_in (key_of a b) (items s h) ≡ Some item
    found_is = found_item.1.0 ∙ ap Some same_item

    here : key item ≡ key_of a b
    here = found_key (key_of a b) (items s h) item found_is

    pub own_parts : (key item ≡ key_of a b) × (a < 256)
    own_parts = (here, low)

    module _ (t : Store) (six : List ℕ) (key_is : word six 0 ≡ word item.words 0) (back : seven six ≡ words) (w : Writes s t h id six) where
      write : Writes s t h item.id six
      write = let P : ℕ → Type 0 = λ z. Writes s t h z six in subst P (sym named) w

      pub named_kept : IsKept t h
      named_kept = CallLemmas.set_kept s t h a b item six words kept low found_is key_is here back (same_self a b) write

      pub named_rows : (x y : ℕ) → row_in x y (links t h) ≡ (if is_under x y words then Some (record { id = id; words = words }) else row_in x y (links s h))
      named_rows x y =
          CallLemmas.set_rows s t h a b item six words kept low found_is key_is here back (same_self a b) write x y
          ∙ ap (λ (z : Option Row). if is_under x y words then option_map (λ (r : Row). record { id = r.id; words = words }) z else (if is_under x y words then None else row_in x y (links s h))) found_row.1.0
          ∙ ap (λ (z : ℕ). if is_under x y words then Some (record { id = z; words = words }) else (if is_under x y words then None else row_in x y (links s h))) found_row.1.1
          ∙ twice (is_under x y words) (Some (record { id = id; words = words })) None (row_in x y (links s h)) where
            twice : (z : Bool) (p q r : Option Row) → (if z then p else (if z then q else r)) ≡ (if z then p else r)
            twice true p q r = refl
            twice false p q r = refl

-- A word of a row after its key is the item's at the place before.

seven_set : (w : List ℕ) (p v : ℕ) → 2 ≤ p → seven (slice_set w (p - 1) v) ≡ slice_set (seven w) p v
seven_set w zero v h = absurd (omega arith)
seven_set w (suc zero) v h = absurd (omega arith)
seven_set w (suc (suc k)) v h =
    let e : suc (suc k) - 1 ≡ suc k = omega arith in
    ap (λ (z : ℕ). seven (slice_set w z v)) e ∙ go w where
      go : (w : List ℕ) → seven (slice_set w (suc k) v) ≡ slice_set (seven w) (suc (suc k)) v
      go [] = refl
      go (x ∷ xs) = refl

seven_at : (w : List ℕ) (p : ℕ) → 2 ≤ p → word w (p - 1) ≡ word (seven w) p
seven_at w zero h = absurd (omega arith)
seven_at w (suc zero) h = absurd (omega arith)
seven_at w (suc (suc k)) h =
    let e : suc (suc k) - 1 ≡ suc k = omega arith in
    ap (word w) e ∙ go w where
      go : (w : List ℕ) → word w (suc k) ≡ word (seven w) (suc (suc k))
      go [] = refl
      go (x ∷ xs) = refl

pub swapped_answer : (s : Store) (id p x : ℕ) → 2 ≤ p → x ≡ word (words_at s id) (p - 1) → x ≡ word (seven (words_at s id)) p
swapped_answer s id p x low e = e ∙ seven_at (words_at s id) p low

pub swapped_here : (s : Store) (id p v : ℕ) → 2 ≤ p → word (slice_set (words_at s id) (p - 1) v) (p - 1) ≡ v → word (slice_set (seven (words_at s id)) p v) p ≡ v
swapped_here s id p v low e =
    ap (λ (z : List ℕ). word z p) (sym (seven_set (words_at s id) p v low)) ∙ sym (seven_at (slice_set (words_at s id) (p - 1) v) p low) ∙ e

-- the row of an id gets another word
module _ (s : Store) (h : ItemTree) (id p v : ℕ) (kept : IsKept s h)
    (own : row_in (word (seven (words_at s id)) 0) (word (seven (words_at s id)) 1) (links s h) ≡ Some (record { id = id; words = seven (words_at s id) }))
    (low : 2 ≤ p) (t : Store) (w : Writes s t h id (slice_set (words_at s id) (p - 1) v)) where
  abbrev was : List ℕ
  was = seven (words_at s id)

  abbrev words' : List ℕ
  words' = slice_set was p v

  first : word words' 0 ≡ word was 0
  first = get_or-set_other was p 0 v 0 (λ e. omega (arith, e, low))

  second : word words' 1 ≡ word was 1
  second = get_or-set_other was p 1 v 0 (λ e. omega (arith, e, low))

  there' : option_map (λ (r : Row). r.id) (row_in (word words' 0) (word words' 1) (links s h)) ≡ Some id
  there' =
      ap (λ (z : ℕ). option_map (λ (r : Row). r.id) (row_in z (word words' 1) (links s h))) first
      ∙ ap (λ (z : ℕ). option_map (λ (r : Row). r.id) (row_in (word was 0) z (links s h))) second ∙ ap (option_map (λ (r : Row). r.id)) own

  same_key' : word (slice_set (words_at s id) (p - 1) v) 0 ≡ word (words_at s id) 0
  same_key' = get_or-set_other (words_at s id) (p - 1) 0 v 0 (λ e. omega (arith, e, low))

  pub swapped_kept : IsKept t h
  swapped_kept = named_kept s h id words' kept there' (item_at s id) refl refl t (slice_set (words_at s id) (p - 1) v) same_key' (seven_set (words_at s id) p v low) w

  pub swapped_rows : (x y : ℕ) → row_in x y (links t h) ≡ (if is_under x y words' then Some (record { id = id; words = words' }) else row_in x y (links s h))
  swapped_rows = named_rows s h id words' kept there' (item_at s id) refl refl t (slice_set (words_at s id) (p - 1) v) same_key' (seven_set (words_at s id) p v low) w

-- The last four words of a row are the item's.

seven_last : (w four : List ℕ) → length w ≡ 6 → seven (take 2 w ++ four) ≡ take 3 (seven w) ++ four
seven_last [] four h = absurd (omega (arith, h))
seven_last (x ∷ []) four h = absurd (omega (arith, h))
seven_last (x ∷ y ∷ r) four h = refl

same_first : (w four : List ℕ) → length w ≡ 6 → word (take 2 w ++ four) 0 ≡ word w 0
same_first [] four h = absurd (omega (arith, h))
same_first (x ∷ r) four h = refl

pub seven_long : (w : List ℕ) → length w ≡ 6 → length (seven w) ≡ 7
seven_long w h = omega (arith, h, length-drop 1 w)

-- the row of an id gets other words at its end
module _ (s : Store) (h : ItemTree) (id : ℕ) (four : List ℕ) (kept : IsKept s h)
    (own : row_in (word (seven (words_at s id)) 0) (word (seven (words_at s id)) 1) (links s h) ≡ Some (record { id = id; words = seven (words_at s id) }))
    (six : length (words_at s id) ≡ 6) (t : Store) (w : Writes s t h id (take 2 (words_at s id) ++ four)) where
  abbrev ended : List ℕ
  ended = take 3 (seven (words_at s id)) ++ four

  pub last_kept : IsKept t h
  last_kept = named_kept s h id ended kept (ap (option_map (λ (r : Row). r.id)) own) (item_at s id) refl refl t (take 2 (words_at s id) ++ four) (same_first (words_at s id) four six) (seven_last (words_at s id) four six) w

  pub last_rows : (x y : ℕ) → row_in x y (links t h) ≡ (if is_under x y ended then Some (record { id = id; words = ended }) else row_in x y (links s h))
  last_rows = named_rows s h id ended kept (ap (option_map (λ (r : Row). r.id)) own) (item_at s id) refl refl t (take 2 (words_at s id) ++ four) (same_first (words_at s id) four six) (seven_last (words_at s id) four six) w
