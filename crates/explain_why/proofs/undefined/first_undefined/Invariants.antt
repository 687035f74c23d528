use Rattle.std.proofs.Common.{◌≡◌, drop, map}
use Rattle.macro_operands.specs.Requests.{written_in}
use Rattle.bench_core.specs.Stands.{bench_of}
use Rattle.explain_why.specs.Undefined.{first_undefined}
use Rattle.explain_why.proofs.undefined.first_undefined.Given as goal

abbrev pub invariant-loop-value : goal.invariant-loop-value
invariant-loop-value l =
    first_undefined (bench_of l.bench).present (map written_in (drop l.value-index l.values))
    ≡ first_undefined (bench_of l.bench).present (map written_in l.values)
