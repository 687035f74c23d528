use Rattle.macro_reader.proofs.ReadRequests.{valid_request_is_read}
use Rattle.macro_reader.proofs.laws.valid_requests_are_read.Goals as goal

pub returns : goal.returns
returns c = valid_request_is_read
