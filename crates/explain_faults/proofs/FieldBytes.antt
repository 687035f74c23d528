-- The lines have the bytes of a field at their places.
use Rattle.std.proofs.Common.{◌≡◌, ℕ, ◌+◌, ◌-◌, ◌≤◌, Bool, true, false, not, if◌then◌else◌, ◌||◌, ◌==◌, List, [], ◌∷◌, ◌++◌, length, map, take, drop, get_or, Option, Some, None, refl, sym, ap, ◌∙◌, append_assoc, arith, add-zero}
use Rattle.std.proofs.lemmas.List.{append-nil, map-append, length-append, take-append-drop, drop-drop, drop_at, drop_all, get_or-drop, get_or_at}
use Rattle.operand_texts.specs.Words.{word, word_len, blank_len, after_word, after_blanks}
use Rattle.operand_texts.specs.Field.{outside, field_len}
use Rattle.macro_operands.specs.declared.rows.Behind.{Behind}
use Rattle.macro_operands.specs.declared.rows.Behind.TheVariants as behind
use Rattle.macro_statements.specs.Statements.{from_operation, from_operands, operands_in, behind_of, operation_of, is_misplaced}
use Rattle.macro_reader.specs.Columns.{is_blank}
use Rattle.macro_reader.specs.Continuation.{Joined, no_field, begun, with_part, with_line, with_lines, ends_with_comma}
use Rattle.explain_faults.specs.Places.{in_row, added, added_by, byte_at, FieldBytesAreThere}

-- bytes one after another
row_reads : (all : List (List ℕ)) (line c : ℕ) (t rest : List ℕ) → drop c (get_or all line []) ≡ t ++ rest → map (byte_at all) (in_row line (c + 1) (length t)) ≡ t
row_reads all line c [] rest h = refl
row_reads all line c (x ∷ t) rest h =
    let card = get_or all line [] in
    let back : c + 1 - 1 ≡ c = omega arith in
    let here : get_or card c 0 ≡ x = ap (λ i. get_or card i 0) (sym (add-zero c)) ∙ sym (get_or-drop c card 0 0) ∙ ap (λ l. get_or l 0 0) h in
    let behind : drop (c + 1) card ≡ t ++ rest = sym (drop-drop 1 c card) ∙ ap (λ l. drop 1 l) h in
    ap (λ i. get_or card i 0 ∷ map (byte_at all) (in_row line (c + 1 + 1) (length t))) back
    ∙ ap (λ b. b ∷ map (byte_at all) (in_row line (c + 1 + 1) (length t))) here
    ∙ ap (λ bs. x ∷ bs) (row_reads all line (c + 1) t rest behind)

-- what a line adds
part_reads : (all : List (List ℕ)) (line c : ℕ) (j : Joined) (part : List ℕ) → drop c (get_or all line []) ≡ part
    → map (byte_at all) (added line (c + 1) j (with_part j.text j.at part)) ≡ take (field_len j.at part) part
part_reads all line c j part h =
    let t = take (field_len j.at part) part in
    let size = length-append j.text t in
    let many : length (j.text ++ t) - length j.text ≡ length t = omega (arith, size) in
    ap (λ n. map (byte_at all) (in_row line (c + 1) n)) many
    ∙ row_reads all line c t (drop (field_len j.at part) part) (h ∙ sym (take-append-drop (field_len j.at part) part))

same_added : (all : List (List ℕ)) (line column : ℕ) (j k : Joined) → k.text ≡ j.text → j.text ++ map (byte_at all) (added line column j k) ≡ k.text
same_added all line column j k e =
    let none : length k.text - length j.text ≡ 0 = let same : length k.text ≡ length j.text = ap length e in omega (arith, same) in
    ap (λ n. j.text ++ map (byte_at all) (in_row line column n)) none ∙ append-nil j.text ∙ sym e

the_joined : (j k : Joined) → Some j ≡ Some k → j ≡ k
the_joined j k h = cc

line_cases : (all : List (List ℕ)) (line : ℕ) (j k : Joined) (part : List ℕ) (blank goes stops comma : Bool) → drop 15 (get_or all line []) ≡ part
    → (if not blank then None else if not goes then Some j
    else if stops then (if comma then None else Some (record { text = j.text; at = j.at; goes_on = false }))
    else Some (with_part j.text j.at part)) ≡ Some k
    → j.text ++ map (byte_at all) (added line 16 j k) ≡ k.text
line_cases all line j k part false goes stops comma is h = cc
line_cases all line j k part true false stops comma is h = same_added all line 16 j k (ap (λ (m : Joined). m.text) (sym (the_joined j k h)))
line_cases all line j k part true true true true is h = cc
line_cases all line j k part true true true false is h = same_added all line 16 j k (ap (λ (m : Joined). m.text) (sym (the_joined _ k h)))
line_cases all line j k part true true false comma is h =
    let e : with_part j.text j.at part ≡ k = the_joined _ k h in
    ap (λ (m : Joined). j.text ++ map (byte_at all) (added line 16 j m)) (sym e) ∙ ap (λ t. j.text ++ t) (part_reads all line 15 j part is)
    ∙ ap (λ (m : Joined). m.text) e

joins_one : (r : Option Joined) (cards : List (List ℕ)) (k : Joined) → elim r [ None ↦ None | Some m ↦ with_lines m cards ] ≡ Some k
    → (m : Joined) × (r ≡ Some m) × (with_lines m cards ≡ Some k)
joins_one None cards k h = cc
joins_one (Some m) cards k h = (m, refl, h)

-- what continuation lines add
lines_read : (all front cards : List (List ℕ)) (line : ℕ) (j k : Joined) → all ≡ front ++ cards → length front ≡ line → with_lines j cards ≡ Some k
    → j.text ++ map (byte_at all) (added_by line j cards) ≡ k.text
lines_read all front [] line j k split at h = append-nil j.text ∙ ap (λ (m : Joined). m.text) (the_joined j k h)
lines_read all front (card ∷ cards) line j k split at h =
    let one = joins_one (with_line j card) cards k h in
    let m = one.0 in
    let f = map (byte_at all) in
    let here : get_or all line [] ≡ card = ap (λ l. get_or l line []) split ∙ get_or_at front card cards [] line at in
    let mine = line_cases all line j m (drop 15 card) (is_blank (take 15 card)) j.goes_on _ (ends_with_comma j.text) (ap (drop 15) here) one.1 in
    let others = lines_read all (front ++ card ∷ []) cards (line + 1) m k (split ∙ sym (append_assoc front (card ∷ []) cards))
    (length-append front (card ∷ []) ∙ ap (λ n. n + 1) at) one.2 in
    ap (λ (r : Option Joined). j.text ++ f (elim r [ None ↦ [] | Some m ↦ added line 16 j m ++ added_by (line + 1) m cards ])) one.1
    ∙ ap (λ t. j.text ++ t) (map-append (byte_at all) (added line 16 j m) (added_by (line + 1) m cards))
    ∙ sym (append_assoc j.text (f (added line 16 j m)) (f (added_by (line + 1) m cards)))
    ∙ ap (λ t. t ++ f (added_by (line + 1) m cards)) mine ∙ others

-- what follows the operation ends a first line
in_suffix : (b : Behind) (card t : List ℕ) (m : ℕ) → t ≡ drop m card → (k : ℕ) × (operands_in b t ≡ drop k card)
in_suffix behind.Operands card t m e = (m, e)
in_suffix behind.Remarks card t m e = (length card, sym (drop_all (length card) card (omega arith)))

operands_end : (card : List ℕ) → (k : ℕ) × (from_operands card ≡ drop k card)
operands_end card =
    let from = from_operation card in
    let w = word_len card in
    let b = blank_len (after_word card) in
    let x = word_len from in
    let y = blank_len (after_word from) in
    in_suffix (behind_of (operation_of (word from))) card (after_blanks (after_word from)) (w + (b + (x + y)))
    (drop-drop y x from ∙ drop-drop (x + y) b (drop w card) ∙ drop-drop (b + (x + y)) w card)

end_reads : (xs part : List ℕ) (k : ℕ) → part ≡ drop k xs → drop (length xs - length part) xs ≡ part
end_reads xs part k e =
    let front = take k xs in
    let whole : front ++ part ≡ xs = ap (λ t. front ++ t) e ∙ take-append-drop k xs in
    let size : length xs ≡ length front + length part = ap length (sym whole) ∙ length-append front part in
    let many : length front ≡ length xs - length part = omega (arith, size) in
    ap (λ l. drop (length xs - length part) l) (sym whole) ∙ drop_at front part (length xs - length part) many

part_fits : (xs part : List ℕ) (k : ℕ) → part ≡ drop k xs → length part ≤ length xs
part_fits xs part k e =
    let whole : take k xs ++ part ≡ xs = ap (λ t. take k xs ++ t) e ∙ take-append-drop k xs in
    let size : length xs ≡ length (take k xs) + length part = ap length (sym whole) ∙ length-append (take k xs) part in
    omega (arith, size)

first_cases : (all : List (List ℕ)) (c column : ℕ) (part : List ℕ) (none : Bool) → column ≡ c + 1 → drop c (get_or all 0 []) ≡ part
    → map (byte_at all) (added 0 column no_field (if none then no_field else with_part [] outside part)) ≡ (if none then no_field else with_part [] outside part).text
first_cases all c column part true e is = refl
first_cases all c column part false e is =
    ap (λ n. map (byte_at all) (added 0 n no_field (with_part [] outside part))) e ∙ part_reads all 0 c no_field part is

first_reads : (card : List ℕ) (cards : List (List ℕ)) → length card ≡ 71
    → map (byte_at (card ∷ cards)) (added 0 (72 - length (from_operands card)) no_field (begun card)) ≡ (begun card).text
first_reads card cards size =
    let part = from_operands card in
    let end = operands_end card in
    let fits = part_fits card part end.0 end.1 in
    let column : 72 - length part ≡ length card - length part + 1 = omega (arith, size, fits) in
    first_cases (card ∷ cards) (length card - length part) (72 - length part) part (is_misplaced card || (length part == 0)) column (end_reads card part end.0 end.1)

pub bytes_are_there : FieldBytesAreThere
bytes_are_there card cards j size h =
    let all = card ∷ cards in
    map-append (byte_at all) (added 0 (72 - length (from_operands card)) no_field (begun card)) (added_by 1 (begun card) cards)
    ∙ ap (λ t. t ++ map (byte_at all) (added_by 1 (begun card) cards)) (first_reads card cards size)
    ∙ lines_read all (card ∷ []) cards 1 (begun card) j refl refl h
