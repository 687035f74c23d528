-- The places of the bytes of a field, line after line.
use Rattle.std.proofs.Common.{◌≡◌, ℕ, zero, suc, ◌+◌, Bool, true, false, not, ◌&&◌, ◌==◌, if◌then◌else◌, get_or, take, drop, List, [], ◌∷◌, ◌++◌, length, Option, Some, None, sym, ap, ◌∙◌, append_assoc, arith, add-zero, ◌-◌}
use Rattle.std.proofs.lemmas.List.{append-nil}
use Rattle.macro_reader.specs.Columns.{is_blank}
use Rattle.macro_reader.specs.Continuation.{Joined, no_field, begun, ends_with_comma, with_part, with_line, with_lines}
use Rattle.macro_statements.specs.Statements.{from_operands}
use Rattle.explain_faults.specs.Places.{in_row, added, added_by, places_of}
use Rattle.explain_faults.specs.declared.gathered.TextPlace.{TextPlace}

-- one more place
abbrev pub spot : ℕ → ℕ → TextPlace
spot line column = record { line = line; column = column }

row_next : (line column n : ℕ) → in_row line column (suc n) ≡ in_row line column n ++ spot line (column + n) ∷ []
row_next line column zero = ap (λ c. spot line c ∷ []) (sym (add-zero column))
row_next line column (suc n) =
    let more : column + 1 + n ≡ column + suc n = omega arith in
    ap (λ r. spot line column ∷ r) (row_next line (column + 1) n)
    ∙ ap (λ c. spot line column ∷ (in_row line (column + 1) n ++ spot line c ∷ [])) more

row_more : (line column n : ℕ) → in_row line column (n + 1) ≡ in_row line column n ++ spot line (column + n) ∷ []
row_more line column n = let more : n + 1 ≡ suc n = omega arith in ap (in_row line column) more ∙ row_next line column n

pub row_push : (line column n : ℕ) (old now next : List TextPlace) → now ≡ old ++ in_row line column n → next ≡ now ++ spot line (column + n) ∷ []
    → next ≡ old ++ in_row line column (n + 1)
row_push line column n old now next h e =
    e ∙ ap (λ t. t ++ spot line (column + n) ∷ []) h ∙ append_assoc old (in_row line column n) (spot line (column + n) ∷ [])
    ∙ ap (λ t. old ++ t) (sym (row_more line column n))

-- a line on which the field goes on
abbrev by_tests : Joined → List ℕ → Bool → Bool → Bool → Option Joined
by_tests j card blank goes stops =
    if not blank then None else if not goes then Some j
    else if stops then (if ends_with_comma j.text then None else Some (record { text = j.text; at = j.at; goes_on = false }))
    else Some (with_part j.text j.at (drop 15 card))

pub goes_on : (j k : Joined) (card : List ℕ) → is_blank (take 15 card) ≡ true → j.goes_on ≡ true → (not j.at.quoted && (get_or card 15 0 == 32)) ≡ false
    → k ≡ with_part j.text j.at (drop 15 card) → with_line j card ≡ Some k
goes_on j k card blank goes stays e =
    ap (λ b. by_tests j card b j.goes_on (not j.at.quoted && (get_or card 15 0 == 32))) blank
    ∙ ap (λ g. by_tests j card true g (not j.at.quoted && (get_or card 15 0 == 32))) goes
    ∙ ap (λ s. by_tests j card true true s) stays
    ∙ ap (λ (m : Joined). Some m) (sym e)

-- one more line
pub joins_push : (j k l : Joined) (cards : List (List ℕ)) (card : List ℕ) → with_lines j cards ≡ Some k → with_line k card ≡ Some l
    → with_lines j (cards ++ card ∷ []) ≡ Some l
joins_push j k l [] card h e =
    let same : j ≡ k = cc in
    let here : with_line j card ≡ Some l = rw same e in
    ap (λ (r : Option Joined). elim r [ None ↦ None | Some m ↦ with_lines m [] ]) here
joins_push j k l (c ∷ cards) card h e =
    elim (with_line j c) as (λ r. elim r [ None ↦ None | Some m ↦ with_lines m cards ] ≡ Some k
    → elim r [ None ↦ None | Some m ↦ with_lines m (cards ++ card ∷ []) ] ≡ Some l) [
      | None ↦ λ x. cc
      | Some m ↦ λ x. joins_push m k l cards card x e
    ] h

one_added : (line : ℕ) (j l : Joined) (r : Option Joined) → r ≡ Some l
    → elim r [ None ↦ [] | Some m ↦ added line 16 j m ++ added_by (line + 1) m [] ] ≡ added line 16 j l
one_added line j l None e = cc
one_added line j l (Some m) e = let same : m ≡ l = cc in append-nil (added line 16 j m) ∙ ap (λ (n : Joined). added line 16 j n) same

first_added : (line : ℕ) (j k l : Joined) → j ≡ k → added line 16 j l ≡ added (line + 0) 16 k l
first_added line j k l e = ap (λ n. added n 16 j l) (sym (add-zero line)) ∙ ap (λ (m : Joined). added (line + 0) 16 m l) e

more_added : (a b c : List TextPlace) (n o : ℕ) (k l : Joined) → b ≡ c ++ added n 16 k l → n ≡ o → a ++ b ≡ (a ++ c) ++ added o 16 k l
more_added a b c n o k l h e =
    ap (λ t. a ++ t) h ∙ ap (λ i. a ++ (c ++ added i 16 k l)) e ∙ sym (append_assoc a c (added o 16 k l))

added_push : (line : ℕ) (j k l : Joined) (cards : List (List ℕ)) (card : List ℕ) → with_lines j cards ≡ Some k → with_line k card ≡ Some l
    → added_by line j (cards ++ card ∷ []) ≡ added_by line j cards ++ added (line + length cards) 16 k l
added_push line j k l [] card h e =
    let same : j ≡ k = cc in
    let here : with_line j card ≡ Some l = rw same e in
    one_added line j l (with_line j card) here ∙ first_added line j k l same
added_push line j k l (c ∷ cards) card h e =
    elim (with_line j c) as (λ r. elim r [ None ↦ None | Some m ↦ with_lines m cards ] ≡ Some k
    → elim r [ None ↦ [] | Some m ↦ added line 16 j m ++ added_by (line + 1) m (cards ++ card ∷ []) ]
    ≡ elim r [ None ↦ [] | Some m ↦ added line 16 j m ++ added_by (line + 1) m cards ] ++ added (line + length (c ∷ cards)) 16 k l) [
      | None ↦ λ x. cc
      | Some m ↦ λ x.
          let more : line + 1 + length cards ≡ line + length (c ∷ cards) = omega arith in
          more_added (added line 16 j m) (added_by (line + 1) m (cards ++ card ∷ [])) (added_by (line + 1) m cards) (line + 1 + length cards)
          (line + length (c ∷ cards)) k l (added_push (line + 1) m k l cards card x e) more
    ] h

pub places_push : (first : List ℕ) (k l : Joined) (cards : List (List ℕ)) (card : List ℕ) → with_lines (begun first) cards ≡ Some k
    → with_line k card ≡ Some l → places_of first (cards ++ card ∷ []) ≡ places_of first cards ++ added (length cards + 1) 16 k l
places_push first k l cards card h e =
    let more : 1 + length cards ≡ length cards + 1 = omega arith in
    more_added (added 0 (72 - length (from_operands first)) no_field (begun first)) (added_by 1 (begun first) (cards ++ card ∷ []))
    (added_by 1 (begun first) cards) (1 + length cards) (length cards + 1) k l (added_push 1 (begun first) k l cards card h e) more

-- and one that breaks a rule
pub joins_broken : (j k : Joined) (cards : List (List ℕ)) (card : List ℕ) (more : List (List ℕ)) → with_lines j cards ≡ Some k → with_line k card ≡ None
    → with_lines j (cards ++ card ∷ more) ≡ None
joins_broken j k [] card more h e =
    let same : j ≡ k = cc in
    let here : with_line j card ≡ None = rw same e in
    ap (λ (r : Option Joined). elim r [ None ↦ None | Some m ↦ with_lines m more ]) here
joins_broken j k (c ∷ cards) card more h e =
    elim (with_line j c) as (λ r. elim r [ None ↦ None | Some m ↦ with_lines m cards ] ≡ Some k
    → elim r [ None ↦ None | Some m ↦ with_lines m (cards ++ card ∷ more) ] ≡ None) [
      | None ↦ λ x. cc
      | Some m ↦ λ x. joins_broken m k cards card more x e
    ] h
