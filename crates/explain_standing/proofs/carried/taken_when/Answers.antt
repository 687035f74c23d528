use Rattle.std.proofs.Common.{true, sym, ap, ◌∙◌}
use Rattle.vsm_model.specs.Map.{total_bytes}
use Rattle.storage_map.specs.declared.counts.Totals.{Totals}
use Rattle.explain_standing.specs.Carried.{taken_when}
use Rattle.explain_standing.proofs.carried.taken_when.Goals as goal

pub returns-then-asked : goal.returns-then-asked
returns-then-asked c =
    ap (λ (t : Totals). t.taken) c.totals.ensures ∙ (λ i. total_bytes (c.storage.ensures.settings i) (c.storage.ensures.state i) true)
    ∙ sym (ap (λ b. taken_when b c.args.bench.now) c.if-asked.true)
