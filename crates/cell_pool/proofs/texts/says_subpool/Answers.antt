use Rattle.std.proofs.Common.{ℕ, Bool, ◌==◌, ◌&&◌, sym, ap, ◌∙◌}
use Rattle.row_table.proofs.RowLemmas.{eqb_refl}
use Rattle.vsm_model.specs.declared.Subpool.{Subpool}
use Rattle.vsm_model.specs.Subpools.{same_subpool}
use Rattle.cell_pool.proofs.texts.says_subpool.Goals as goal

pub returns-then-said-subpool : goal.returns-then-said-subpool
returns-then-said-subpool c =
    let said = c.subpool_of-said.result in
    sym (ap (λ (b : Bool). b && (said.owner == c.args.subpool.owner)) (ap (λ (n : ℕ). n == c.args.subpool.number) c.if-said-subpool.true ∙ eqb_refl c.args.subpool.number))
    ∙ ap (λ (p : Subpool). same_subpool p c.args.subpool) c.subpool_of-said.ensures
