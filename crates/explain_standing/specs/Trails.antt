-- The lines of statements in effect or undone, with what was read after each.
use Rattle.std.specs.Prelude.{◌≡◌, ℕ, suc, ◌+◌, ◌-◌, ◌≤◌, min, List, [], ◌∷◌, ◌++◌, length, map, reverse, take}
use Rattle.vsm_model.specs.Standing.{Standing}
use Rattle.explain_standing.specs.declared.trail.TrailEntry.{TrailEntry}
use Rattle.explain_standing.specs.declared.trail.Trail.{Trail}

-- The statements in effect, oldest first: the first `standing` entries; the others are undone, the next one first.
pub record Marks (V : Type 0) : Type 0 where
  pub entries : List (TrailEntry V)
  pub standing : ℕ

abbrev pub marks_of : {V : Type 0} → Trail V → Marks V
marks_of t = record { entries = t.entries.items; standing = t.standing }

abbrev pub nothing_marked : {V : Type 0} → Marks V
nothing_marked = record { entries = []; standing = 0 }

-- another statement is in effect, and none is undone
abbrev pub with_mark : {V : Type 0} → Marks V → ℕ → V → Marks V
with_mark t line seen =
    record {
      entries = take t.standing t.entries ++ record { line = line; seen = seen } ∷ [];
      standing = suc t.standing;
    }

-- the number in effect changes by the difference of the two numbers
abbrev pub stepped : {V : Type 0} → Marks V → ℕ → ℕ → Marks V
stepped t before after =
    record { entries = t.entries; standing = min (length t.entries) (t.standing + after - before) }

module _ {X R : Type 0} where
  -- the statements in effect, oldest first, and after them those that are undone
  abbrev pub in_turn : Standing X R → List X
  in_turn l = map (λ x. x.statement) (reverse l.stood ++ l.undone)

module _ {X V : Type 0} (read : List X → V) where
  -- What is read after each of these statements, if `older` precede them, newest first.
  abbrev pub seen_along : List X → List (ℕ × X) → List (TrailEntry V)
  seen_along older [] = []
  seen_along older (x ∷ xs) =
      record { line = x.0; seen = read (x.1 ∷ older) } ∷ seen_along (x.1 ∷ older) xs

module _ {X R V : Type 0} (read : List X → V) where
  -- The marks are those of the statements in effect and undone: what was read after a statement is what is read after
  -- it and those before it.
  pub record Follows (l : Standing (ℕ × X) R) (t : Marks V) : Type 0 where
    pub entries : t.entries ≡ seen_along read [] (in_turn l)
    pub standing : t.standing ≡ length l.stood
    pub kept : l.kept ≤ length l.stood
