use Rattle.std.proofs.Common.{◌≡◌, ℕ, ◌<◌, false}
use Rattle.subpool_storage.specs.SubpoolStorage.{subpools_of}
use Rattle.subpool_storage.proofs.storage.SubpoolStorage.subpool_of_page.Given as goal

abbrev pub invariant-loop-number : goal.invariant-loop-number
invariant-loop-number l = (n o : ℕ) → n < l.number → (subpools_of l.elements l.self).pages (record { number = n; owner = o }) l.page ≡ false
