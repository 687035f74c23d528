-- Entries of names: the search for a name's place, a write there, one more entry, and a statement after which each is
-- looked at.
use Rattle.std.proofs.Common.{◌≡◌, ℕ, zero, suc, ◌+◌, ◌<◌, ◌≤◌, Bool, true, false, cond, not, ◌&&◌, ◌==◌, nat_eq, Option, Some, None, List, [], ◌∷◌, ◌++◌, length, drop, map, get_or, set, take, refl, sym, ap, ◌∙◌, arith, true≢false}
use Rattle.std.specs.Option.{option_map}
use Rattle.std.specs.Cmp.Lexicographic.{pointwise}
use Rattle.std.proofs.lemmas.Bool.{and_parts, cond-true, cond-false, eqb-true}
use Rattle.std.proofs.lemmas.List.{append-nil, at_drop_more, drop_all, take_all}
use Rattle.vsm_model.specs.Names.{same_name}
use Rattle.vsm_model.specs.State.{State}
use Rattle.explain_who.specs.Taken.{taken_at}
use Rattle.explain_findings.specs.Endings.{first_line, is_used}
use Rattle.explain_findings.specs.NameEndings.{can_end_in, ended_after, ended_in, ended_now, entry_of, place_of, word_in}
use Rattle.explain_findings.specs.declared.endings.CanEnd.{CanEnd}
use Rattle.explain_findings.specs.declared.endings.CanEnd.TheVariants as ends
use Rattle.explain_findings.specs.declared.endings.NameEnding.{NameEnding}

-- ---- equal names

-- the code compares names byte by byte
pub same_bytes-is : (xs ys : List ℕ) → pointwise nat_eq xs ys ≡ same_name xs ys
same_bytes-is [] [] = refl
same_bytes-is [] (y ∷ ys) = refl
same_bytes-is (x ∷ xs) [] = refl
same_bytes-is (x ∷ xs) (y ∷ ys) = ap (λ b. (x == y) && b) (same_bytes-is xs ys)

same_name-is : (xs ys : List ℕ) → same_name xs ys ≡ true → xs ≡ ys
same_name-is [] [] e = refl
same_name-is [] (y ∷ ys) e = absurd (true≢false (sym e))
same_name-is (x ∷ xs) [] e = absurd (true≢false (sym e))
same_name-is (x ∷ xs) (y ∷ ys) e =
    let parts = and_parts (x == y) (same_name xs ys) e in
    let first = eqb-true x y parts.0 in
    let rest = same_name-is xs ys parts.1 in
    λ i. first i ∷ rest i

-- ---- the place of a name

pub place_here : (es : List NameEnding) (name : List ℕ) (i : ℕ) (x : NameEnding) → i < length es → x ≡ get_or es i x → same_name x.name.bytes name ≡ true →
    place_of (drop i es) name ≡ 0
place_here es name i x within is same =
    at_drop_more (λ l. place_of l name) es i x within
    ∙ cond-true (same_name (get_or es i x).name.bytes name) 0 (suc (place_of (drop (i + 1) es) name)) (ap (λ y. same_name y.name.bytes name) (sym is) ∙ same)

pub place_passed : (es : List NameEnding) (name : List ℕ) (i : ℕ) (x : NameEnding) → i < length es → x ≡ get_or es i x → same_name x.name.bytes name ≡ false →
    place_of (drop i es) name ≡ suc (place_of (drop (i + 1) es) name)
place_passed es name i x within is other =
    at_drop_more (λ l. place_of l name) es i x within
    ∙ cond-false (same_name (get_or es i x).name.bytes name) 0 (suc (place_of (drop (i + 1) es) name)) (ap (λ y. same_name y.name.bytes name) (sym is) ∙ other)

pub entry_there : (es : List NameEnding) (name : List ℕ) (d : NameEnding) → place_of es name < length es →
    entry_of es name ≡ Some (get_or es (place_of es name) d)
entry_there [] name d within = absurd (omega arith)
entry_there (e ∷ es) name d within =
    (elim (same_name e.name.bytes name) as (λ b. cond b 0 (suc (place_of es name)) < suc (length es) →
    cond b (Some e) (entry_of es name) ≡ Some (get_or (e ∷ es) (cond b 0 (suc (place_of es name))) d)) [
      | true ↦ λ _. refl
      | false ↦ λ less. entry_there es name d (omega arith)
    ]) within

pub no_entry : (es : List NameEnding) (name : List ℕ) → length es ≤ place_of es name → entry_of es name ≡ None
no_entry [] name past = refl
no_entry (e ∷ es) name past =
    (elim (same_name e.name.bytes name) as (λ b. suc (length es) ≤ cond b 0 (suc (place_of es name)) →
    cond b (Some e) (entry_of es name) ≡ None) [
      | true ↦ λ less. absurd (omega arith)
      | false ↦ λ less. no_entry es name (omega arith)
    ]) past

-- ---- a name that is given a word

-- two names that are the same, if the head's is the one that is given; and never both if it isn't
head_or : (own name other : List ℕ) (e x : NameEnding) (rest : Option NameEnding) → same_name own name ≡ false →
    cond (same_name own other) (Some x) (cond (same_name name other) (Some e) rest)
    ≡ cond (same_name name other) (Some e) (cond (same_name own other) (Some x) rest)
head_or own name other e x rest differ =
    (elim (same_name own other) as (λ b. same_name own other ≡ b →
    cond b (Some x) (cond (same_name name other) (Some e) rest) ≡ cond (same_name name other) (Some e) (cond b (Some x) rest)) [
      | true ↦ λ is. (elim (same_name name other) as (λ b. same_name name other ≡ b →
          Some x ≡ cond b (Some e) (Some x)) [
            | true ↦ λ too. absurd (true≢false (sym (ap (same_name own) (same_name-is name other too) ∙ is) ∙ differ))
            | false ↦ λ _. refl
          ]) refl
      | false ↦ λ _. refl
    ]) refl

pub entry_of-set : (es : List NameEnding) (name other : List ℕ) (e : NameEnding) → e.name.bytes ≡ name → place_of es name < length es →
    entry_of (set es (place_of es name) e) other ≡ cond (same_name name other) (Some e) (entry_of es other)
entry_of-set [] name other e own within = absurd (omega arith)
entry_of-set (x ∷ es) name other e own within =
    (elim (same_name x.name.bytes name) as (λ b. same_name x.name.bytes name ≡ b → cond b 0 (suc (place_of es name)) < suc (length es) →
    entry_of (set (x ∷ es) (cond b 0 (suc (place_of es name))) e) other ≡ cond (same_name name other) (Some e) (entry_of (x ∷ es) other)) [
      | true ↦ λ is _.
          ap (λ n. cond (same_name n other) (Some e) (entry_of es other)) own
          ∙ (elim (same_name name other) as (λ b. same_name name other ≡ b →
          cond b (Some e) (entry_of es other) ≡ cond b (Some e) (cond (same_name x.name.bytes other) (Some x) (entry_of es other))) [
            | true ↦ λ _. refl
            | false ↦ λ no. sym (cond-false (same_name x.name.bytes other) (Some x) (entry_of es other)
                (ap (λ n. same_name n other) (same_name-is x.name.bytes name is) ∙ no))
          ]) refl
      | false ↦ λ differ less.
          ap (λ o. cond (same_name x.name.bytes other) (Some x) o) (entry_of-set es name other e own (omega arith))
          ∙ head_or x.name.bytes name other e x (entry_of es other) differ
    ]) refl within

pub entry_of-push : (es : List NameEnding) (name other : List ℕ) (e : NameEnding) → e.name.bytes ≡ name → length es ≤ place_of es name →
    entry_of (es ++ e ∷ []) other ≡ cond (same_name name other) (Some e) (entry_of es other)
entry_of-push [] name other e own past = ap (λ n. cond (same_name n other) (Some e) None) own
entry_of-push (x ∷ es) name other e own past =
    (elim (same_name x.name.bytes name) as (λ b. same_name x.name.bytes name ≡ b → suc (length es) ≤ cond b 0 (suc (place_of es name)) →
    entry_of (x ∷ (es ++ e ∷ [])) other ≡ cond (same_name name other) (Some e) (entry_of (x ∷ es) other)) [
      | true ↦ λ _ less. absurd (omega arith)
      | false ↦ λ differ less.
          ap (λ o. cond (same_name x.name.bytes other) (Some x) o) (entry_of-push es name other e own (omega arith))
          ∙ head_or x.name.bytes name other e x (entry_of es other) differ
    ]) refl past

pub ended_in-cond : (b : Bool) (e : NameEnding) (o : Option NameEnding) → ended_in (cond b (Some e) o) ≡ cond b e.ended (ended_in o)
ended_in-cond true e o = refl
ended_in-cond false e o = refl

pub word_in-cond : (b : Bool) (e : NameEnding) (o : Option NameEnding) → word_in (cond b (Some e) o) ≡ cond b (Some e.word) (word_in o)
word_in-cond true e o = refl
word_in-cond false e o = refl

-- ---- after a statement

-- an entry after a statement
abbrev pub after : State → CanEnd → ℕ → NameEnding → NameEnding
after s can line e = record e { ended = ended_after s can line e }

-- in the loop over the entries there are as many as before it,
pub length-front : (f : NameEnding → NameEnding) (es : List NameEnding) (i : ℕ) → length (map f (take i es) ++ drop i es) ≡ length es
length-front f [] zero = refl
length-front f [] (suc i) = refl
length-front f (e ∷ es) zero = refl
length-front f (e ∷ es) (suc i) = ap suc (length-front f es i)

-- and at its end each is as it is after the statement
pub mapped : (f : NameEnding → NameEnding) (es : List NameEnding) (i : ℕ) → length es ≤ i → map f (take i es) ++ drop i es ≡ map f es
mapped f es i all =
    ap (λ l. map f l ++ drop i es) (take_all i es all)
    ∙ ap (λ l. map f es ++ l) (drop_all i es all)
    ∙ append-nil (map f es)

pub entry_of-after : (s : State) (can : CanEnd) (line : ℕ) (es : List NameEnding) (name : List ℕ) →
    entry_of (map (after s can line) es) name ≡ option_map (after s can line) (entry_of es name)
entry_of-after s can line [] name = refl
entry_of-after s can line (e ∷ es) name =
    (elim (same_name e.name.bytes name) as (λ b. cond b (Some (after s can line e)) (entry_of (map (after s can line) es) name)
    ≡ option_map (after s can line) (cond b (Some e) (entry_of es name))) [
      | true ↦ refl
      | false ↦ entry_of-after s can line es name
    ])

pub ended_in-after : (s : State) (can : CanEnd) (line : ℕ) (o : Option NameEnding) →
    ended_in (option_map (after s can line) o) ≡ first_line (ended_in o) (cond (ended_now s can (word_in o)) (Some line) None)
ended_in-after s can line None = refl
ended_in-after s can line (Some e) = refl

pub word_in-after : (s : State) (can : CanEnd) (line : ℕ) (o : Option NameEnding) → word_in (option_map (after s can line) o) ≡ word_in o
word_in-after s can line None = refl
word_in-after s can line (Some e) = refl

-- a statement that can end nothing
pub nothing_ends : (s : State) (can : CanEnd) (line : ℕ) (o w : Option ℕ) → can ≡ ends.Nothing → o ≡ first_line o (cond (ended_now s can w) (Some line) None)
nothing_ends s can line (Some n) w is = refl
nothing_ends s can line None None is = refl
nothing_ends s can line None (Some word) is =
    ap (λ x. cond (can_end_in x word && not (is_used (taken_at s word))) (Some line) None) (sym is)
