use Rattle.service_laws.proofs.Longest.{fixed_is_variable_with_one_bound, greatest_length_is_given}
use Rattle.service_laws.proofs.storage.greatest_length.Goals as goal

pub returns-clause-fixed : goal.returns-clause-fixed
returns-clause-fixed c = fixed_is_variable_with_one_bound

pub returns-clause-greatest : goal.returns-clause-greatest
returns-clause-greatest c = greatest_length_is_given
