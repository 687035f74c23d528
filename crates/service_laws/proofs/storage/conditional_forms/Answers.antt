use Rattle.service_laws.proofs.Forms.{conditional_forms_differ_by_four}
use Rattle.service_laws.proofs.storage.conditional_forms.Goals as goal

pub returns : goal.returns
returns c = conditional_forms_differ_by_four
