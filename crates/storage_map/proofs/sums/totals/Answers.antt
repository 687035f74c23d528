use Rattle.std.proofs.Common.{◌≡◌, ◌+◌, ◌-◌, ◌*◌, true, false, sym, ap, ◌∙◌, arith}
use Rattle.std.specs.Prelude.{◌/◌}
use Rattle.storage_core.specs.Meaning.{state_in_place, state_of, settings_of}
use Rattle.vsm_model.specs.declared.limits.Settings.{Settings}
use Rattle.vsm_model.specs.Map.{total_bytes}
use Rattle.storage_map.proofs.Bounds.{sums_are}
use Rattle.storage_map.proofs.sums.totals.Goals as goal

pub sums-free-requires-clause-low : goal.sums-free-requires-clause-low
sums-free-requires-clause-low c =
    let s = c.args.storage.now in
    let sums = sums_are (settings_of s) (state_in_place s) s.held.valid s.held.sound c.totals_are_sums.ensures.pages c.totals_are_sums.ensures.bytes c.totals_are_sums.ensures.few in
    omega (arith, sums.low_most)

pub sums-free-requires-clause-high : goal.sums-free-requires-clause-high
sums-free-requires-clause-high c =
    let s = c.args.storage.now in
    let sums = sums_are (settings_of s) (state_in_place s) s.held.valid s.held.sound c.totals_are_sums.ensures.pages c.totals_are_sums.ensures.bytes c.totals_are_sums.ensures.few in
    omega (arith, sums.high_most)

pub sums-free-requires-clause-free : goal.sums-free-requires-clause-free
sums-free-requires-clause-free c =
    let s = c.args.storage.now in
    let sums = sums_are (settings_of s) (state_in_place s) s.held.valid s.held.sound c.totals_are_sums.ensures.pages c.totals_are_sums.ensures.bytes c.totals_are_sums.ensures.few in
    omega (arith, sums.free_most)

pub overflow_sub-result : goal.overflow_sub-result
overflow_sub-result c =
    let s = c.args.storage.now in
    let sums = sums_are (settings_of s) (state_in_place s) s.held.valid s.held.sound c.totals_are_sums.ensures.pages c.totals_are_sums.ensures.bytes c.totals_are_sums.ensures.few in
    omega (arith, sums.free, sums.all, c.from-free.ensures, c.from.ensures, c.from-2.ensures, c.sums-free.ensures.low, c.sums-free.ensures.high, c.sums-free.ensures.free)

pub returns : goal.returns
returns c =
    let s = c.args.storage.now in
    let sums = sums_are (settings_of s) (state_in_place s) s.held.valid s.held.sound c.totals_are_sums.ensures.pages c.totals_are_sums.ensures.bytes c.totals_are_sums.ensures.few in
    let low = c.sums-free.ensures.low ∙ sym sums.low in
    let high = c.sums-free.ensures.high ∙ sym sums.high in
    let low_size = ap (λ (x : Settings). x.low_k / 4) c.settings-settings.ensures in
    let high_size = ap (λ (x : Settings). x.high_k / 4) c.settings-settings.ensures in
    let free : 8 * c.from-free.result ≡ total_bytes (settings_of s) (state_of s) false = omega (arith, sums.free, c.from-free.ensures, c.sums-free.ensures.free) in
    let taken : 4096 * (c.from.result + c.from-2.result) - 8 * c.from-free.result ≡ total_bytes (settings_of s) (state_of s) true =
    omega (arith, sums.free, sums.all, c.from-free.ensures, c.from.ensures, c.from-2.ensures, c.sums-free.ensures.low, c.sums-free.ensures.high, c.sums-free.ensures.free) in
    λ i. record { low_pages = low i; low_size = low_size i; high_pages = high i; high_size = high_size i; taken = taken i; free = free i }
