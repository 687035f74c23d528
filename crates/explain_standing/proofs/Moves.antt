-- The marks of statements follow which of them are in effect.
use Rattle.std.proofs.Common.{◌≡◌, ℕ, zero, suc, ◌+◌, ◌-◌, ◌≤◌, min, List, [], ◌∷◌, ◌++◌, length, map, reverse, take, append_assoc, refl, sym, ap, ◌∙◌, arith}
use Rattle.std.proofs.lemmas.Grind.{reverse_onto}
use Rattle.std.proofs.lemmas.List.{length-reverse, length-append, length-map, map-append}
use Rattle.std.proofs.Math.Seq.{take-append_seam}
use Rattle.vsm_model.specs.Standing.{Stood, Standing, undo, redo}
use Rattle.explain_standing.specs.declared.trail.TrailEntry.{TrailEntry}
use Rattle.explain_standing.specs.Trails.{Marks, with_mark, stepped, seen_along, in_turn, Follows, nothing_marked}
use Rattle.vsm_model.specs.Standing.{nothing_stands}

turn_over : {A : Type 0} (x : A) (stood undone : List A) → reverse (x ∷ stood) ++ undone ≡ reverse stood ++ (x ∷ undone)
turn_over x stood undone = ap (λ xs. xs ++ undone) (reverse_onto stood x []) ∙ append_assoc (reverse stood) (x ∷ []) undone

module _ {X R : Type 0} where
  undo_turn : (n : ℕ) (stood : List (Stood X R)) (kept : ℕ) (undone : List (Stood X R)) →
      in_turn (undo n stood kept undone) ≡ map (λ x. x.statement) (reverse stood ++ undone)
  undo_turn zero stood kept undone = refl
  undo_turn (suc n) [] kept undone = refl
  undo_turn (suc n) (x ∷ stood) kept undone =
      undo_turn n stood (kept - 1) (x ∷ undone) ∙ ap (map (λ x. x.statement)) (sym (turn_over x stood undone))

  undo_stood : (n : ℕ) (stood : List (Stood X R)) (kept : ℕ) (undone : List (Stood X R)) → n ≤ length stood →
      length (undo n stood kept undone).stood + n ≡ length stood
  undo_stood zero stood kept undone few = omega arith
  undo_stood (suc n) [] kept undone few = absurd (omega (arith, few))
  undo_stood (suc n) (x ∷ stood) kept undone few = let h = undo_stood n stood (kept - 1) (x ∷ undone) (omega (arith, few)) in omega (arith, h)

  undo_kept : (n : ℕ) (stood : List (Stood X R)) (kept : ℕ) (undone : List (Stood X R)) → n ≤ length stood →
      (undo n stood kept undone).kept ≡ kept - n
  undo_kept zero stood kept undone few = omega arith
  undo_kept (suc n) [] kept undone few = absurd (omega (arith, few))
  undo_kept (suc n) (x ∷ stood) kept undone few = let h = undo_kept n stood (kept - 1) (x ∷ undone) (omega (arith, few)) in omega (arith, h)

  redo_turn : (n : ℕ) (stood : List (Stood X R)) (kept : ℕ) (undone : List (Stood X R)) →
      in_turn (redo n stood kept undone) ≡ map (λ x. x.statement) (reverse stood ++ undone)
  redo_turn zero stood kept undone = refl
  redo_turn (suc n) stood kept [] = refl
  redo_turn (suc n) stood kept (x ∷ undone) =
      redo_turn n (x ∷ stood) (suc kept) undone ∙ ap (map (λ x. x.statement)) (turn_over x stood undone)

  redo_stood : (n : ℕ) (stood : List (Stood X R)) (kept : ℕ) (undone : List (Stood X R)) → n ≤ length undone →
      length (redo n stood kept undone).stood ≡ length stood + n
  redo_stood zero stood kept undone few = omega arith
  redo_stood (suc n) stood kept [] few = absurd (omega (arith, few))
  redo_stood (suc n) stood kept (x ∷ undone) few = let h = redo_stood n (x ∷ stood) (suc kept) undone (omega (arith, few)) in omega (arith, h)

  redo_kept : (n : ℕ) (stood : List (Stood X R)) (kept : ℕ) (undone : List (Stood X R)) → n ≤ length undone →
      (redo n stood kept undone).kept ≡ kept + n
  redo_kept zero stood kept undone few = omega arith
  redo_kept (suc n) stood kept [] few = absurd (omega (arith, few))
  redo_kept (suc n) stood kept (x ∷ undone) few = let h = redo_kept n (x ∷ stood) (suc kept) undone (omega (arith, few)) in omega (arith, h)

module _ {X V : Type 0} (read : List X → V) where
  -- the statements after those of another list, newest first
  abbrev pub onto : List X → List (ℕ × X) → List X
  onto older [] = older
  onto older (x ∷ xs) = onto (x.1 ∷ older) xs

  pub onto_both : (older : List X) (xs ys : List (ℕ × X)) → onto older (xs ++ ys) ≡ onto (onto older xs) ys
  onto_both older [] ys = refl
  onto_both older (x ∷ xs) ys = onto_both (x.1 ∷ older) xs ys

  pub seen_both : (older : List X) (xs ys : List (ℕ × X)) →
      seen_along read older (xs ++ ys) ≡ seen_along read older xs ++ seen_along read (onto older xs) ys
  seen_both older [] ys = refl
  seen_both older (x ∷ xs) ys =
      ap (λ zs. record { line = x.0; seen = read (x.1 ∷ older) } ∷ zs) (seen_both (x.1 ∷ older) xs ys)

  pub seen_count : (older : List X) (xs : List (ℕ × X)) → length (seen_along read older xs) ≡ length xs
  seen_count older [] = refl
  seen_count older (x ∷ xs) = ap suc (seen_count (x.1 ∷ older) xs)

module _ {X R V : Type 0} (read : List X → V) where
  pub turned : (x : Stood (ℕ × X) R) (stood : List (Stood (ℕ × X) R)) → map (λ y. y.statement) (reverse (x ∷ stood)) ≡ map (λ y. y.statement) (reverse stood) ++ x.statement ∷ []
  turned x stood = ap (map (λ y. y.statement)) (reverse_onto stood x []) ∙ map-append (λ y. y.statement) (reverse stood) (x ∷ [])

  pub onto_turned : (stood : List (Stood (ℕ × X) R)) → onto read [] (map (λ x. x.statement) (reverse stood)) ≡ map (λ x. x.statement.1) stood
  onto_turned [] = refl
  onto_turned (x ∷ stood) =
      ap (onto read []) (turned x stood)
      ∙ onto_both read [] (map (λ y. y.statement) (reverse stood)) (x.statement ∷ [])
      ∙ ap (λ xs. x.statement.1 ∷ xs) (onto_turned stood)

  -- how many marks there are
  marks_count : (l : Standing (ℕ × X) R) (t : Marks V) → Follows read l t → length t.entries ≡ length l.stood + length l.undone
  marks_count l t f =
      ap length f.entries ∙ seen_count read [] (in_turn l) ∙ length-map (reverse l.stood ++ l.undone) (λ x. x.statement)
      ∙ length-append (reverse l.stood) l.undone ∙ ap (λ n. n + length l.undone) (length-reverse l.stood)

  pub nothing_follows : Follows read (nothing_stands {X = ℕ × X} {R = R}) nothing_marked
  nothing_follows = record { entries = refl; standing = refl; kept = omega arith }

  pub undone_follows : (l : Standing (ℕ × X) R) (t : Marks V) (n : ℕ) → Follows read l t → n ≤ l.kept →
      Follows read (undo n l.stood l.kept l.undone) (stepped t l.kept (undo n l.stood l.kept l.undone).kept)
  undone_follows l t n f few =
      let within : n ≤ length l.stood = omega (arith, few, f.kept) in
      let stood = undo_stood n l.stood l.kept l.undone within in
      let kept = undo_kept n l.stood l.kept l.undone within in
      let all = marks_count l t f in
      record {
        entries = f.entries ∙ ap (seen_along read []) (sym (undo_turn n l.stood l.kept l.undone));
        standing = omega (arith, stood, kept, all, f.standing, f.kept, few);
        kept = omega (arith, stood, kept, f.kept, few);
      }

  pub redone_follows : (l : Standing (ℕ × X) R) (t : Marks V) (n : ℕ) → Follows read l t → n ≤ length l.undone →
      Follows read (redo n l.stood l.kept l.undone) (stepped t l.kept (redo n l.stood l.kept l.undone).kept)
  redone_follows l t n f few =
      let stood = redo_stood n l.stood l.kept l.undone few in
      let kept = redo_kept n l.stood l.kept l.undone few in
      let all = marks_count l t f in
      record {
        entries = f.entries ∙ ap (seen_along read []) (sym (redo_turn n l.stood l.kept l.undone));
        standing = omega (arith, stood, kept, all, f.standing, few);
        kept = omega (arith, stood, kept, f.kept, few);
      }

  -- the marks of the statements in effect
  pub standing_marks : (l : Standing (ℕ × X) R) (t : Marks V) → Follows read l t →
      take t.standing t.entries ≡ seen_along read [] (map (λ y. y.statement) (reverse l.stood))
  standing_marks l t f =
      let old : List (ℕ × X) = map (λ y. y.statement) (reverse l.stood) in
      let before : List (TrailEntry V) = seen_along read [] old in
      let count : length before ≡ t.standing = seen_count read [] old ∙ length-map (reverse l.stood) (λ y. y.statement) ∙ length-reverse l.stood ∙ sym f.standing in
      let split : t.entries ≡ before ++ seen_along read (onto read [] old) (map (λ y. y.statement) l.undone) =
      f.entries ∙ ap (seen_along read []) (map-append (λ y. y.statement) (reverse l.stood) l.undone) ∙ seen_both read [] old (map (λ y. y.statement) l.undone) in
      (λ i. take (sym count i) (split i)) ∙ take-append_seam before (seen_along read (onto read [] old) (map (λ y. y.statement) l.undone))

  pub applied_follows : (limit : ℕ) (l : Standing (ℕ × X) R) (t : Marks V) (line : ℕ) (x : X) (r : R) (seen : V) → Follows read l t →
      seen ≡ read (x ∷ map (λ y. y.statement.1) l.stood) →
      Follows read (record { stood = record { statement = (line, x); reply = r } ∷ l.stood; kept = min limit (suc l.kept); undone = [] }) (with_mark t line seen)
  applied_follows limit l t line x r seen f is =
      let old : List (ℕ × X) = map (λ y. y.statement) (reverse l.stood) in
      let before : List (TrailEntry V) = seen_along read [] old in
      let last : TrailEntry V = record { line = line; seen = read (x ∷ map (λ y. y.statement.1) l.stood) } in
      let kept : take t.standing t.entries ≡ before = standing_marks l t f in
      let new : Stood (ℕ × X) R = record { statement = (line, x); reply = r } in
      let whole : seen_along read [] (map (λ y. y.statement) (reverse (new ∷ l.stood) ++ [])) ≡ before ++ last ∷ [] =
      ap (λ ys. seen_along read [] (map (λ y. y.statement) ys)) (turn_over new l.stood [])
      ∙ ap (seen_along read []) (map-append (λ y. y.statement) (reverse l.stood) (new ∷ []))
      ∙ seen_both read [] old ((line, x) ∷ [])
      ∙ ap (λ older. before ++ record { line = line; seen = read (x ∷ older) } ∷ []) (onto_turned l.stood) in
      record {
        entries = (λ i. kept i ++ record { line = line; seen = is i } ∷ []) ∙ sym whole;
        standing = ap suc f.standing;
        kept = omega (arith, f.kept);
      }
