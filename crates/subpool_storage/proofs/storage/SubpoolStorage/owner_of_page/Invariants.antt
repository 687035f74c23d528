use Rattle.std.proofs.Common.{◌≡◌, ℕ, ◌<◌, false}
use Rattle.subpool_storage.specs.SubpoolStorage.{subpools_of}
use Rattle.subpool_storage.proofs.storage.SubpoolStorage.owner_of_page.Given as goal

abbrev pub invariant-loop-owner : goal.invariant-loop-owner
invariant-loop-owner l = (o : ℕ) → o < l.owner → (subpools_of l.elements l.self).pages (record { number = l.number; owner = o }) l.page ≡ false
