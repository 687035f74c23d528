-- Subpools under whose names a change parks empty ones. Assembler Services Guide, "Virtual storage management",
-- "Subpool handling".
use Rattle.std.specs.Prelude.{◌≡◌, ◌≤◌, false, All, AllPairs, List}
use Rattle.vsm_model.specs.declared.Subpool.{Subpool}
use Rattle.vsm_model.specs.Subpools.{same_subpool}

-- Subpools that can exist, each only once.
pub record AreNames (names : List Subpool) : Type 0 where
  pub owners : All (λ p. (1 ≤ p.owner) × (p.owner ≤ 64)) names
  pub numbers : All (λ p. p.number ≤ 127) names
  pub once : AllPairs (λ p q. same_subpool p q ≡ false) names
