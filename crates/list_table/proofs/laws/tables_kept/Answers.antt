use Rattle.list_table.proofs.TableLemmas.{tables_kept}
use Rattle.list_table.proofs.laws.tables_kept.Goals as goal

pub returns : goal.returns
returns c = tables_kept
