use Rattle.row_table.proofs.TableLemmas.{places_kept}
use Rattle.row_table.proofs.laws.places_kept.Goals as goal

pub returns : goal.returns
returns c = places_kept
