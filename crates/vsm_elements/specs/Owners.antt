-- How often a list holds an id, and what a call leaves unchanged, by counts: no order of what is owned matters.
use Rattle.std.specs.Prelude.{◌≡◌, ℕ, ◌+◌, ◌<◌, Bool, true, false, ◌==◌, List, [], ◌∷◌, None}
use Rattle.vsm_elements.specs.Store.{Store, at}

abbrev pub one : Bool → ℕ
one true = 1
one false = 0

-- how often the id occurs in the list
abbrev pub times : ℕ → List ℕ → ℕ
times i [] = 0
times i (j ∷ js) = one (i == j) + times i js

-- Structures that held each id `had` times hold it `has` times: all other elements are as they were, what they gained
-- was not live, and what they lost is not.
pub record Moves (old new : Store) (had has : ℕ → ℕ) : Type 0 where
  pub others : (id : ℕ) → had id ≡ 0 → has id ≡ 0 → at new id ≡ at old id
  pub gained : (id : ℕ) → had id ≡ 0 → 0 < has id → at old id ≡ None
  pub lost : (id : ℕ) → 0 < had id → has id ≡ 0 → at new id ≡ None
