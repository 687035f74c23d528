use Rattle.macro_statements.proofs.RequestTexts.{valid_request_is_spelled}
use Rattle.macro_statements.proofs.laws.valid_requests_are_spelled.Goals as goal

pub returns : goal.returns
returns c = valid_request_is_spelled
