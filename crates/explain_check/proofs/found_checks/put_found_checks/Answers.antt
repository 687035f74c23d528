use Rattle.std.proofs.Common.{List, ℕ, [], ◌++◌, Option, subst}
use Rattle.explain_check.specs.Findings.{outside_found, part_found, stale_found, unset_found}
use Rattle.explain_check.specs.Lines.{PutsChecks, manner_of}
use Rattle.explain_check.proofs.Said.{checks_each, checks_no}
use Rattle.explain_check.proofs.found_checks.put_found_checks.Goals as goal

pub returns-in-Some : goal.returns-in-Some
returns-in-Some g c =
    let manner = manner_of c.args.spot.now.manner in
    let f = c.in-Some.finding.now in
    rw c.in-Some.is
    (subst (λ (used : Option (List ℕ)). PutsChecks manner [] [] (outside_found f.outside ++ (stale_found used f.stale ++ (part_found f.part ++ unset_found f.unset))) (g.W.Write.contents c.args.writer.now) (g.W.Write.contents c.put_unset_check.new.writer) c.args.gathered.now c.put_unset_check.new.gathered)
    c.name_told-name.ensures
    (checks_each manner [] [] [] [] _ _ _ _ _ _ _ _ c.put_outside_check.ensures
    (checks_each manner [] [] [] [] _ _ _ _ _ _ _ _ c.put_stale_check.ensures
    (checks_each manner [] [] [] [] _ _ _ _ _ _ _ _ c.put_part_check.ensures c.put_unset_check.ensures))))

pub returns-in-None : goal.returns-in-None
returns-in-None g c = rw c.in-None.is (checks_no (manner_of c.args.spot.now.manner) _ _)
