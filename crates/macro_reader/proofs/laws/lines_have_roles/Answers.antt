use Rattle.macro_reader.proofs.LineRoles.{roles_are_of_parts, roles_at_break, roles_when_open}
use Rattle.macro_reader.proofs.laws.lines_have_roles.Goals as goal

pub returns-clause-whole : goal.returns-clause-whole
returns-clause-whole c = roles_are_of_parts

pub returns-clause-broken : goal.returns-clause-broken
returns-clause-broken c = roles_at_break

pub returns-clause-open_still : goal.returns-clause-open_still
returns-clause-open_still c = roles_when_open
