-- What lines are to a reader, in the code's words.
use Rattle.std.specs.Prelude.{List, [], ◌∷◌, Result, Ok, Err}
use Rattle.macro_statements.specs.Requests.{Asked}
use Rattle.macro_operands.specs.declared.faults.FaultKind.{FaultKind}
use Rattle.macro_reader.specs.Scripts.{Answer}
use Rattle.macro_reader.specs.Roles as roles
use Rattle.explain_faults.specs.declared.roles.Brought.{Brought}
use Rattle.explain_faults.specs.declared.roles.Brought.TheVariants as brought
use Rattle.explain_faults.specs.declared.roles.Role.{Role}
use Rattle.explain_faults.specs.declared.roles.Role.TheVariants as role

-- What an answer is, and what the answers to a line are, which has one at most.
abbrev pub brought_as : Result Asked FaultKind → Brought
brought_as (Ok asked) = brought.Answer
brought_as (Err kind) = brought.Fault kind

abbrev pub brought_by : List Answer → Brought
brought_by [] = brought.Nothing
brought_by (answer ∷ answers) = brought_as answer.what

-- The role that the code's is.
abbrev pub role_in : Role → roles.Role
role_in role.Aside = roles.aside
role_in role.First = roles.first
role_in role.Further = roles.further
role_in role.Breaking = roles.breaking
role_in role.Gone = roles.gone
