use Rattle.std.proofs.Common.{rules, ◌≡◌, if◌then◌else◌, [], ◌∷◌}
use Rattle.storage_changes.proofs.record.cell_words.Goals as goal

pub returns : goal.returns
returns c =
    let value : c.from-value.result ≡ (if c.args.value then 1 else 0) = search rules in
    λ i. c.args.kind ∷ c.args.pool ∷ 0 ∷ c.args.cells.start ∷ c.args.cells.len ∷ value i ∷ 0 ∷ []
