use Rattle.std.proofs.Common.{ℕ, ◌+◌, ◌<◌, ◌≤◌, sym, arith}
use Rattle.subpool_storage.specs.Extents.{free_areas}
use Rattle.storage_core.specs.Meaning.{state_in_place}
use Rattle.explain_areas.proofs.Walking.{next_of, others_of, none_of, on_to}
use Rattle.explain_areas.proofs.walks.next_before.Goals as goal

pub returns-then-area-end-clause-next : goal.returns-then-area-end-clause-next
returns-then-area-end-clause-next c = λ p d (j, at, ahead).
    let m = (state_in_place c.args.storage.now).subpools in
    let got = sym (c.in-Some.ensures.is p j at) in
    (next_of (m.free p) (free_areas m p) j d ahead c.in-Some.area got, (j + 1, c.in-Some.ensures.next p j at, others_of (m.free p) (free_areas m p) j d ahead c.in-Some.area got))

pub returns-else-area-end-clause-none : goal.returns-else-area-end-clause-none
returns-else-area-end-clause-none c = λ p d (j, at, ahead) on.
    let m = (state_in_place c.args.storage.now).subpools in
    let next = next_of (m.free p) (free_areas m p) j d ahead c.in-Some.area (sym (c.in-Some.ensures.is p j at)) in
    let none = λ (n : ℕ) (from : d ≤ n) (to : n < c.args.end). next.before n from (omega (arith, to, c.if-area-end.false)) in
    ((j, at, on_to (m.free p) (free_areas m p) j d ahead c.args.end on none), none)

pub returns-in-None-clause-none : goal.returns-in-None-clause-none
returns-in-None-clause-none c = λ p d (j, at, ahead) on.
    let m = (state_in_place c.args.storage.now).subpools in
    let all = none_of (m.free p) (free_areas m p) j d ahead (sym (c.in-None.ensures.is p j at)) in
    let none = λ (n : ℕ) (from : d ≤ n) (to : n < c.args.end). all n from in
    ((j, at, on_to (m.free p) (free_areas m p) j d ahead c.args.end on none), none)
