use Rattle.vsm_elements.proofs.ChainFrame.{Leaves-trans}
use Rattle.row_table.proofs.RekeyLemmas.{rekeyed}
use Rattle.row_table.proofs.table.RowTable.set_key.Goals as goal

pub returns-clause-rows : goal.returns-clause-rows
returns-clause-rows c = rekeyed c.args.elements.now c.take_out-row.new.elements _ c.args.self.now c.take_out-row.new.self _ c.args.first c.args.second c.args.words c.take_out-row.result c.take_out-row.ensures.row c.take_out-row.ensures.rows assumption

pub returns-clause-owned : goal.returns-clause-owned
returns-clause-owned c = Leaves-trans _ _ _ _ _ _ c.take_out-row.ensures.owned assumption
