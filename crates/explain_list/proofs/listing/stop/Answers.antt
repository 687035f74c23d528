use Rattle.std.proofs.Common.{inr}
use Rattle.explain_list.proofs.listing.stop.Goals as goal

pub returns-in-Ok : goal.returns-in-Ok
returns-in-Ok g c = λ layout settings first script h. (h.0, h.1, h.2, h.3, (h.4.0, h.4.1, c.in-Ok.ensures.writes first _ h.4.2))

pub returns-in-Err : goal.returns-in-Err
returns-in-Err g c = λ layout settings first script h. c.write_fault.ensures layout settings script first _ (h.0, h.1, inr h.2, inr h.3, (h.4.0, h.4.1, c.in-Err.ensures.writes first _ h.4.2))
