-- How many elements are held, and that the spare ones grow by that number.
use Rattle.std.specs.Prelude.{◌≡◌, ℕ, ◌+◌, List, length}
use Rattle.vsm_elements.specs.Store.{Store}
use Rattle.vsm_elements.specs.Owners.{times}

-- The spare elements grow by exactly as many as were held: `had` says how often each was, and these are their ids.
pub record GivenBack (had : ℕ → ℕ) (old new : Store) : Type 0 where
  pub ids : List ℕ
  pub held : (id : ℕ) → times id ids ≡ had id
  pub spare : new.spare ≡ old.spare + length ids
