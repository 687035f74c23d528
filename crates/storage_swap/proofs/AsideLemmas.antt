-- If no element is made or set aside, neither number changes.
use Rattle.std.proofs.Common.{◌≡◌, ℕ, ap}
use Rattle.vsm_elements.specs.Store.{Store, made, made_and_aside}

pub made-same : (s t : Store) → made_and_aside t ≡ made_and_aside s → made t ≡ made s
made-same s t e = ap (λ (z : ℕ × ℕ). z.0) e

pub aside-same : (s t : Store) → made_and_aside t ≡ made_and_aside s → t.aside ≡ s.aside
aside-same s t e = ap (λ (z : ℕ × ℕ). z.1) e
