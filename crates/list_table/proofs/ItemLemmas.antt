-- Items of a list at a place.
use Rattle.std.proofs.Common.{◌≡◌, ℕ, ◌+◌, ◌<◌, ◌≤◌, List, ◌∷◌, [], ◌++◌, length, take, drop, get_or, Some, refl, sym, ap, ◌∙◌, arith, length-append, length-drop}
use Rattle.std.specs.Prelude.{slice_get, option_map}
use Rattle.std.proofs.lemmas.Option.{slice_get-get_or, slice_get-map}
use Rattle.std.proofs.lemmas.List.{map-append, take-map, drop-map, take-append-drop, drop-drop, length-take-le}
use Rattle.std.proofs.Math.Seq.{take-append_seam, drop-append_seam}
use Rattle.vsm_elements.specs.Store.{Store}
use Rattle.vsm_elements.specs.Chain.{Link, links, head_or, last_or, IsChain}
use Rattle.vsm_elements.specs.declared.chain.Chain.{Chain}
use Rattle.list_table.specs.Stocks.{items_of}
use Rattle.list_table.proofs.TableLemmas.{none, drop_link, next_place}

abbrev pub words_in : Link → List ℕ
words_in n = n.words

link_at : (ns : List Link) (k : ℕ) → k < length ns → slice_get ns k ≡ Some (get_or ns k none)
link_at ns k h = slice_get-get_or ns k none h

pub step_before : (ns : List Link) (k before next : ℕ) → k < length ns → next ≡ head_or (drop k ns) 0 → next ≡ last_or 0 (take (k + 1) ns)
step_before ns k before next h e = e ∙ ap (λ (z : List Link). head_or z 0) (drop_link ns k (get_or ns k none) (link_at ns k h)) ∙ sym (next_place ns k (get_or ns k none) (link_at ns k h))

pub count_is : (s : Store) (c : Chain) → IsChain s c → (k : ℕ) → k < c.count → k < length (links s c)
count_is s c h k l = omega (arith, h.count)

pub item_at : (ns : List Link) (k id : ℕ) (words : List ℕ) → slice_get ns k ≡ Some (record { id = id; words = words }) → slice_get (items_of ns) k ≡ Some words
item_at ns k id words h = slice_get-map words_in ns k ∙ ap (option_map words_in) h

pub take_items : (k : ℕ) (ns : List Link) → items_of (take k ns) ≡ take k (items_of ns)
take_items k ns = sym (take-map words_in k ns)

pub drop_items : (k : ℕ) (ns : List Link) → items_of (drop k ns) ≡ drop k (items_of ns)
drop_items k ns = sym (drop-map words_in k ns)

pub put_items : (ns ms : List Link) (k id : ℕ) (words : List ℕ) → ms ≡ take k ns ++ record { id = id; words = words } ∷ drop k ns → items_of ms ≡ take k (items_of ns) ++ words ∷ drop k (items_of ns)
put_items ns ms k id words e =
    ap items_of e ∙ map-append words_in (take k ns) (record { id = id; words = words } ∷ drop k ns)
    ∙ ap (λ (z : List (List ℕ)). z ++ words ∷ items_of (drop k ns)) (take_items k ns) ∙ ap (λ (z : List (List ℕ)). take k (items_of ns) ++ words ∷ z) (drop_items k ns)

pub cut_items : (ns ms : List Link) (k j : ℕ) → ms ≡ take k ns ++ drop j ns → items_of ms ≡ take k (items_of ns) ++ drop j (items_of ns)
cut_items ns ms k j e =
    ap items_of e ∙ map-append words_in (take k ns) (drop j ns)
    ∙ ap (λ (z : List (List ℕ)). z ++ items_of (drop j ns)) (take_items k ns) ∙ ap (λ (z : List (List ℕ)). take k (items_of ns) ++ z) (drop_items j ns)

pub seam_take : (xs ys : List Link) (k : ℕ) → length xs ≡ k → take k (xs ++ ys) ≡ xs
seam_take xs ys k e = ap (λ (z : ℕ). take z (xs ++ ys)) (sym e) ∙ take-append_seam xs ys

pub seam_drop : (xs ys : List Link) (k : ℕ) → length xs ≡ k → drop k (xs ++ ys) ≡ ys
seam_drop xs ys k e = ap (λ (z : ℕ). drop z (xs ++ ys)) (sym e) ∙ drop-append_seam xs ys

-- an item is inserted at its place
pub in_count : (ns ms : List Link) (k : ℕ) (n : Link) → k ≤ length ns → ms ≡ take k ns ++ n ∷ drop k ns → length ms ≡ length ns + 1
in_count ns ms k n l e =
    let f : length (take k ns) ≡ k = length-take-le k ns l in
    omega (arith, ap length e, length-append (take k ns) (n ∷ drop k ns), f, length-drop k ns)

-- an item is removed
pub out_take : (ns0 ns ms : List Link) (k : ℕ) → k ≤ length ns → take k ns ≡ take k ns0 → ms ≡ take k ns ++ drop (k + 1) ns → take k ms ≡ take k ns0
out_take ns0 ns ms k l front e = ap (take k) e ∙ seam_take (take k ns) (drop (k + 1) ns) k (length-take-le k ns l) ∙ front

pub out_drop : (ns0 ns ms : List Link) (k j : ℕ) → k ≤ length ns → drop k ns ≡ drop j ns0 → ms ≡ take k ns ++ drop (k + 1) ns → drop k ms ≡ drop (j + 1) ns0
out_drop ns0 ns ms k j l behind e = ap (drop k) e ∙ seam_drop (take k ns) (drop (k + 1) ns) k (length-take-le k ns l) ∙ sym (drop-drop 1 k ns) ∙ ap (drop 1) behind ∙ drop-drop 1 j ns0

pub out_items : (ns0 ns : List Link) (k j : ℕ) → take k ns ≡ take k ns0 → drop k ns ≡ drop j ns0 → items_of ns ≡ take k (items_of ns0) ++ drop j (items_of ns0)
out_items ns0 ns k j front behind = cut_items ns0 ns k j (sym (take-append-drop k ns) ∙ ap (λ (z : List Link). z ++ drop k ns) front ∙ ap (λ (z : List Link). take k ns0 ++ z) behind)

pub length-items : (ns : List Link) → length (items_of ns) ≡ length ns
length-items [] = refl
length-items (n ∷ ns) = omega (arith, length-items ns)

pub out_count : (ns ms : List Link) (k : ℕ) → k < length ns → ms ≡ take k ns ++ drop (k + 1) ns → length ms + 1 ≡ length ns
out_count ns ms k l e =
    let f : length (take k ns) ≡ k = length-take-le k ns (omega arith) in
    omega (arith, ap length e, length-append (take k ns) (drop (k + 1) ns), f, length-drop (k + 1) ns)
