use Rattle.std.proofs.Common.{◌/◌, sym, subst}
use Rattle.std.proofs.lemmas.Result.{on_ok_weaker}
use Rattle.explain_standing.specs.Carried.{IsCellTaken}
use Rattle.explain_standing.specs.NumberMaps.{number_in}
use Rattle.explain_standing.proofs.NumberMaps.{put_at}
use Rattle.explain_standing.proofs.carried.take_cell.Goals as goal

pub returns-in-Cell : goal.returns-in-Cell
returns-in-Cell c =
    let old = number_in c.args.cells.now in
    let new = number_in c.take.new.self in
    on_ok_weaker c.take.result
    (λ put. subst (λ r. IsCellTaken r c.args.line old new) (sym c.in-Cell.is) (put_at (c.in-Cell.address / 4) c.args.line old new put)) c.take.ensures
