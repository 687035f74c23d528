use Rattle.std.proofs.Common.{◌≡◌, sym, subst}
use Rattle.macro_reader.specs.Roles.{IsStand, role}
use Rattle.macro_reader.specs.Scripts.{Mode, moved}
use Rattle.explain_faults.specs.Roles.{brought_by, role_in}
use Rattle.explain_faults.proofs.RoleCases.{awaits, gathers}
use Rattle.explain_faults.proofs.roles.role_of.Goals as goal

pub returns-in-Awaiting : goal.returns-in-Awaiting
returns-in-Awaiting c = λ number mode line s t h.
    subst (λ (m : Mode). IsStand (moved number m line).0 c.args.after → brought_by (moved number m line).1 ≡ c.args.brought → role_in c.first_role.result ≡ role m line)
    (sym (awaits mode c.args.before s c.in-Awaiting.is)) (c.first_role.ensures number line) t h

pub returns-in-Gathering : goal.returns-in-Gathering
returns-in-Gathering c = λ number mode line s t h.
    let g = gathers mode c.args.before s c.in-Gathering.is in
    subst (λ (m : Mode). brought_by (moved number m line).1 ≡ c.args.brought → role_in c.further_role.result ≡ role m line)
    (sym g.4) (c.further_role.ensures number g.0 g.1 g.2 g.3 line) h
