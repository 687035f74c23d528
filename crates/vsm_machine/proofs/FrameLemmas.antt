-- A change has frames for exactly the pages that it assigns.
use Rattle.std.proofs.Common.{◌≡◌, ℕ, ◌*◌, ◌/◌, ap, sym, ◌∙◌, arith}
use Rattle.storage_changes.proofs.AssignedPages.{assigned-brought}
use Rattle.vsm_machine.specs.Changes.{overlay}
use Rattle.vsm_machine.specs.Laws.{FramesAreExact}

first-address : (page : ℕ) → (4096 * page) / 4096 ≡ page
first-address page = omega arith

pub frames-exact : FramesAreExact
frames-exact m d f page = (
  (λ some. (
    ap m.storage.unassigned (sym (first-address page)) ∙ f.0.fits.fresh (4096 * page) some,
    ap (overlay m d).storage.unassigned (sym (first-address page)) ∙ f.0.frames (4096 * page) some,
  )),
  (λ both. assigned-brought m.storage d.storage page f.0.fits both.0 both.1),
)
