use Rattle.std.proofs.Common.{List, ℕ, [], ◌∷◌, refl, subst}
use Rattle.explain_check.specs.Findings.{stale}
use Rattle.explain_check.specs.Lines.{PutsChecks, found, line_at, manner_of}
use Rattle.explain_check.proofs.Said.{checks_no, one_line}
use Rattle.explain_check.proofs.found_checks.put_stale_check.Goals as goal

pub returns-in-Some : goal.returns-in-Some
returns-in-Some g c =
    let manner = manner_of c.args.spot.now.manner in
    let its = stale c.name_bytes-name.result.now c.in-Some.line in
    rw c.in-Some.is
    (subst (λ (bytes : List ℕ). PutsChecks manner [] [] (stale bytes c.in-Some.line ∷ []) (g.W.Write.contents c.args.writer.now) (g.W.Write.contents c.put_check_line.new.writer) c.args.gathered.now c.put_check_line.new.gathered)
    c.name_bytes-name.ensures
    (one_line manner (line_at c.args.spot.now.place (found its)) [] [] (its ∷ []) _ _ _ _ tt refl refl refl c.put_check_line.ensures))

pub returns-in-None : goal.returns-in-None
returns-in-None g c = rw c.in-None.is (checks_no (manner_of c.args.spot.now.manner) _ _)
