use Rattle.std.proofs.Common.{◌≡◌, ℕ, ◌+◌, ◌<◌, ◌≤◌, true, is_some, ap, arith, ◌∙◌}
use Rattle.raw_region.specs.Pages.{Pages, bytes_at}
use Rattle.tests_lower.proofs.frames.a_parked_page_comes_back_over_its_next_bytes.Goals as goal

-- a run of one page
only_page : (s : Pages) (page : ℕ) → is_some (bytes_at s page) ≡ true → (p : ℕ) → page ≤ p → p < page + 1 → is_some (bytes_at s p) ≡ true
only_page s page h p low high =
    let e : p ≡ page = omega arith in
    ap (λ k. is_some (bytes_at s k)) e ∙ h

pub park-first-requires : goal.park-first-requires
park-first-requires g c = only_page c.fill.new.region 6 (c.fill.ensures.assigned 6 ∙ ap is_some c.assign.ensures.updates.changed)

pub park-second-requires : goal.park-second-requires
park-second-requires g c = only_page c.fill-2.new.region 6 (c.fill-2.ensures.assigned 6 ∙ ap is_some c.assign-2.ensures.updates.changed)
