-- The field over a statement's lines, and the caret that is put by it.
use Rattle.std.proofs.Common.{◌≡◌, ℕ, zero, suc, ◌+◌, ◌<◌, ◌≤◌, true, List, [], ◌∷◌, ◌++◌, length, map, take, drop, get_or, Option, Some, None, is_some, not, Bool, false, Err, refl, sym, ap, ◌∙◌, subst, arith, ◌-◌}
use Rattle.std.specs.List.{slice_get, AllByRecursion}
use Rattle.std.specs.Option.{IfSome}
use Rattle.std.proofs.lemmas.List.{append-nil, map-append, map_more, take-append-drop, drop_more, length-drop, length-map, length-take-le}
use Rattle.macro_operands.specs.declared.faults.FaultKind.{FaultKind}
use Rattle.macro_statements.specs.Statements.{statement_with, from_operands}
use Rattle.macro_reader.specs.Continuation.{Joined, no_field, begun, with_line, with_lines}
use Rattle.explain_faults.specs.Operands.{IsWrongOperand}
use Rattle.explain_faults.specs.Places.{added, added_by, in_row, places_of, card_in, first_card, further_cards, joined_of, IsFieldOver, IsOperandCaret, MarksOperand, is_of_operand}
use Rattle.explain_faults.specs.declared.carets.Caret.{Caret}
use Rattle.explain_faults.specs.declared.gathered.Field.{Field}
use Rattle.explain_faults.specs.declared.gathered.TextPlace.{TextPlace}
use Rattle.explain_faults.specs.declared.lines.SourceLine.{SourceLine}
use Rattle.explain_faults.proofs.FieldPlaces.{joins_push, places_push, joins_broken}

-- only the first line
pub over_first : (card : List ℕ) (f : Field) → joined_of f ≡ begun card → f.places.items ≡ added 0 (72 - length (from_operands card)) no_field (begun card)
    → IsFieldOver card [] f
over_first card f e h = record { joined = ap (λ (j : Joined). Some j) (sym e); places = h ∙ sym (append-nil _) }

-- one more line
pub over_more : (script card : List ℕ) (lines : List SourceLine) (i : ℕ) (d : SourceLine) (mine : List ℕ) (f g : Field) → i < length lines
    → mine ≡ card_in script (get_or lines i d) → f.lines ≡ i → IsFieldOver card (map (card_in script) (take i lines)) f
    → with_line (joined_of f) mine ≡ Some (joined_of g) → g.places.items ≡ f.places.items ++ added (f.lines + 1) 16 (joined_of f) (joined_of g)
    → IsFieldOver card (map (card_in script) (take (i + 1) lines)) g
over_more script card lines i d mine f g more read at h e places =
    let cards = map (card_in script) (take i lines) in
    let next : map (card_in script) (take (i + 1) lines) ≡ cards ++ mine ∷ [] = map_more (card_in script) lines i d more ∙ ap (λ m. cards ++ m ∷ []) (sym read) in
    let size : length cards ≡ i = length-map (take i lines) (card_in script) ∙ length-take-le i lines (omega (arith, more)) in
    let all : f.places.items ++ added (f.lines + 1) 16 (joined_of f) (joined_of g) ≡ places_of card cards ++ added (length cards + 1) 16 (joined_of f) (joined_of g) =
    ap (λ t. t ++ added (f.lines + 1) 16 (joined_of f) (joined_of g)) h.places
    ∙ ap (λ n. places_of card cards ++ added (n + 1) 16 (joined_of f) (joined_of g)) (at ∙ sym size) in
    subst (λ cs. IsFieldOver card cs g) (sym next) (record {
      joined = joins_push (begun card) (joined_of f) (joined_of g) cards mine h.joined e;
      places = places ∙ all ∙ sym (places_push card (joined_of f) (joined_of g) cards mine h.joined e);
    })

-- and one that breaks a rule
pub over_broken : (script card : List ℕ) (lines : List SourceLine) (i : ℕ) (d : SourceLine) (mine : List ℕ) (f : Field) → i < length lines
    → mine ≡ card_in script (get_or lines i d) → IsFieldOver card (map (card_in script) (take i lines)) f → with_line (joined_of f) mine ≡ None
    → with_lines (begun card) (map (card_in script) lines) ≡ None
over_broken script card lines i d mine f more read h e =
    let cards = map (card_in script) (take i lines) in
    let behind = map (card_in script) (drop (i + 1) lines) in
    let split : lines ≡ take i lines ++ get_or lines i d ∷ drop (i + 1) lines =
    sym (take-append-drop i lines) ∙ ap (λ l. take i lines ++ l) (drop_more lines i d more) in
    ap (λ l. with_lines (begun card) (map (card_in script) l)) split
    ∙ ap (with_lines (begun card)) (map-append (card_in script) (take i lines) (get_or lines i d ∷ drop (i + 1) lines))
    ∙ ap (λ m. with_lines (begun card) (cards ++ m ∷ behind)) (sym read)
    ∙ joins_broken (begun card) (joined_of f) cards mine behind h.joined e

same_joined : (j k : Joined) → Some j ≡ Some k → j ≡ k
same_joined j k h = cc

-- the caret of a fault of an operand
marks : (card : List ℕ) (cards : List (List ℕ)) (kind : FaultKind) (f : Field) (broken : Option TextPlace) (text : List ℕ) (from to : ℕ) (place : TextPlace)
    → (broken ≡ None → IsFieldOver card cards f) → IfSome broken (λ p. with_lines (begun card) cards ≡ None) → text ≡ f.text.items
    → (statement_with card text ≡ Err kind → IsWrongOperand card text kind from to)
    → (is_of_operand kind ≡ true → from < length f.text.items → slice_get f.places.items from ≡ Some place)
    → (j : Joined) → with_lines (begun card) cards ≡ Some j → statement_with card j.text ≡ Err kind → is_of_operand kind ≡ true
    → IsWrongOperand card j.text kind from to × (from < length j.text → slice_get (places_of card cards) from ≡ Some place)
marks card cards kind f (Some p) text from to place whole breaks is wrong there j h e k = let bad : None ≡ Some j = sym breaks ∙ h in cc
marks card cards kind f None text from to place whole breaks is wrong there j h e k =
    let over = whole refl in
    let same : j.text ≡ f.text.items = ap (λ (m : Joined). m.text) (same_joined j (joined_of f) (sym h ∙ over.joined)) in
    let mine : text ≡ j.text = is ∙ sym same in (
      subst (λ t. IsWrongOperand card t kind from to) mine (wrong (ap (λ t. statement_with card t) mine ∙ e)),
      λ less. ap (λ ps. slice_get ps from) (sym over.places) ∙ there k (subst (λ t. from < length t) same less),
    )

abbrev Marks : List ℕ → List (List ℕ) → FaultKind → ℕ → ℕ → TextPlace → Type 0
Marks card cards kind from to place =
    (j : Joined) → with_lines (begun card) cards ≡ Some j → statement_with card j.text ≡ Err kind → is_of_operand kind ≡ true
    → IsWrongOperand card j.text kind from to × (from < length j.text → slice_get (places_of card cards) from ≡ Some place)

-- by the lines of a script
pub caret_marks : (script : List ℕ) (lines more : List SourceLine) (card : List ℕ) (kind : FaultKind) (f : Field) (broken : Option TextPlace) (text : List ℕ)
    (from to : ℕ) (place : TextPlace) → card ≡ first_card script lines → more ≡ drop 1 lines
    → (broken ≡ None → IsFieldOver card (map (card_in script) more) f)
    → IfSome broken (λ p. with_lines (begun card) (map (card_in script) more) ≡ None) → text ≡ f.text.items
    → (statement_with card text ≡ Err kind → IsWrongOperand card text kind from to)
    → (is_of_operand kind ≡ true → from < length f.text.items → slice_get f.places.items from ≡ Some place)
    → Marks (first_card script lines) (further_cards script lines) kind from to place
caret_marks script lines more card kind f broken text from to place first further whole breaks is wrong there =
    subst (λ k. Marks k (further_cards script lines) kind from to place) first
    (subst (λ ls. Marks card (map (card_in script) ls) kind from to place) further
    (marks card (map (card_in script) more) kind f broken text from to place whole breaks is wrong there))

-- the caret of a statement that has the fault
pub operand_caret : (card : List ℕ) (cards : List (List ℕ)) (kind : FaultKind) (caret : Caret) (text : List ℕ) → caret.card ≡ card → IsFieldOver card cards caret.field
    → text ≡ caret.field.text.items → statement_with caret.card text ≡ Err kind → MarksOperand card cards kind caret → is_of_operand kind ≡ true
    → IsOperandCaret card cards kind caret
operand_caret card cards kind caret text same over is has marks k =
    let fault : statement_with card caret.field.text.items ≡ Err kind = (λ i. statement_with (sym same i) (sym is i)) ∙ has in
    let wrong = marks (joined_of caret.field) over.joined fault k in
    record { joined = joined_of caret.field; joins = over.joined; fault = fault; wrong = wrong.0; place = wrong.1; places = over.places }

-- ---- the line of a place

each_both : {X : Type 0} (P : X → Type 0) (xs ys : List X) → AllByRecursion P xs → AllByRecursion P ys → AllByRecursion P (xs ++ ys)
each_both P [] ys h k = k
each_both P (x ∷ xs) ys h k = (h.0, each_both P xs ys h.1 k)

each_got : {X : Type 0} (P : X → Type 0) (xs : List X) (i : ℕ) (x : X) → AllByRecursion P xs → slice_get xs i ≡ Some x → P x
each_got P [] zero x h e = cc
each_got P [] (suc i) x h e = cc
each_got P (y ∷ xs) zero x h e = let same : y ≡ x = cc in subst P same h.0
each_got P (y ∷ xs) (suc i) x h e = each_got P xs i x h.1 e

abbrev UpTo : ℕ → List TextPlace → Type 0
UpTo n = AllByRecursion (λ (p : TextPlace). p.line ≤ n)

row_lines : (n line column count : ℕ) → line ≤ n → UpTo n (in_row line column count)
row_lines n line column zero h = tt
row_lines n line column (suc count) h = (h, row_lines n line (column + 1) count h)

added_lines : (n line : ℕ) (j : Joined) (cards : List (List ℕ)) → line + length cards ≤ n + 1 → UpTo n (added_by line j cards)
added_lines n line j [] h = tt
added_lines n line j (c ∷ cards) h =
    elim (with_line j c) as (λ r. UpTo n (elim r [ None ↦ [] | Some k ↦ added line 16 j k ++ added_by (line + 1) k cards ])) [
      | None ↦ tt
      | Some k ↦ each_both (λ (p : TextPlace). p.line ≤ n) (added line 16 j k) (added_by (line + 1) k cards) (row_lines n line 16 _ (omega (arith, h)))
          (added_lines n (line + 1) k cards (omega (arith, h)))
    ]

places_lines : (card : List ℕ) (cards : List (List ℕ)) → UpTo (length cards) (places_of card cards)
places_lines card cards =
    each_both (λ (p : TextPlace). p.line ≤ length cards) (added 0 (72 - length (from_operands card)) no_field (begun card)) (added_by 1 (begun card) cards)
    (row_lines (length cards) 0 _ _ (omega arith)) (added_lines (length cards) 1 (begun card) cards (omega arith))

-- a place that stays, if it's on a line
pub marks_stay : (script : List ℕ) (lines : List SourceLine) (kind : FaultKind) (from to : ℕ) (place its : TextPlace) → (place.line ≤ length lines - 1 → its ≡ place)
    → Marks (first_card script lines) (further_cards script lines) kind from to place → Marks (first_card script lines) (further_cards script lines) kind from to its
marks_stay script lines kind from to place its same h = λ j e f k.
    let m = h j e f k in
    let cards = further_cards script lines in
    let size : length cards ≡ length lines - 1 = length-map (drop 1 lines) (card_in script) ∙ length-drop 1 lines in (
      m.0,
      λ less.
          let there = m.1 less in
          let on : place.line ≤ length cards = each_got (λ (p : TextPlace). p.line ≤ length cards) (places_of (first_card script lines) cards) from place (places_lines (first_card script lines) cards) there in
          there ∙ ap (λ (p : TextPlace). Some p) (sym (same (omega (arith, on, size)))),
    )

-- lines of a script that break a rule
pub broken_lines : (script : List ℕ) (lines more : List SourceLine) (card : List ℕ) (broken : Option TextPlace) (joins : Bool) → is_some broken ≡ not joins
    → card ≡ first_card script lines → more ≡ drop 1 lines → IfSome broken (λ p. with_lines (begun card) (map (card_in script) more) ≡ None) → joins ≡ false
    → with_lines (begun (first_card script lines)) (further_cards script lines) ≡ None
broken_lines script lines more card None joins e first further breaks stops = let bad : false ≡ true = e ∙ ap not stops in cc
broken_lines script lines more card (Some p) joins e first further breaks stops =
    subst (λ k. with_lines (begun k) (further_cards script lines) ≡ None) first
    (subst (λ ls. with_lines (begun card) (map (card_in script) ls) ≡ None) further breaks)
