use Rattle.storage_swap.proofs.SettingsLemmas.{first-is-first}
use Rattle.storage_swap.proofs.laws.first_is_first.Goals as goal

pub returns : goal.returns
returns c = first-is-first c.rows_are_counted.ensures
