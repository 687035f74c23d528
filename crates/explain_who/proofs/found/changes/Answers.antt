use Rattle.std.proofs.Common.{map}
use Rattle.explain_who.specs.Code.{difference_in}
use Rattle.explain_who.proofs.Traced.{all_found}
use Rattle.explain_who.proofs.found.changes.Goals as goal

pub returns-clause-standing : goal.returns-clause-standing
returns-clause-standing c = all_found c.differences.result (λ xs. map difference_in xs.items) c.args.traced.now c.as_slice.result.now c.as_slice.ensures.value c.differences.ensures
