-- Findings by their parts.
use Rattle.std.proofs.Common.{◌≡◌, ℕ, Option, refl}
use Rattle.macro_statements.specs.Requests.{Written, number, named, register, peek}
use Rattle.explain_findings.specs.Endings.{name_used}
use Rattle.explain_findings.specs.Judged.{name_of}
use Rattle.explain_findings.specs.declared.findings.Finding.{Finding}
use Rattle.explain_findings.specs.declared.findings.Outside.{Outside}
use Rattle.explain_findings.specs.declared.findings.Part.{Part}
use Rattle.explain_findings.specs.declared.findings.Unset.{Unset}

abbrev of_parts : Option Outside → Option ℕ → Option Part → Option Unset → Finding
of_parts outside stale part unset = record { outside = outside; stale = stale; part = part; unset = unset }

-- findings with the same parts are the same
pub same_finding : {a b : Option Outside} {k l : Option ℕ} {p q : Option Part} {u v : Option Unset} → a ≡ b → k ≡ l → p ≡ q → u ≡ v → of_parts a k p u ≡ of_parts b l q v
same_finding same_outside same_stale same_part same_unset = λ i. of_parts (same_outside i) (same_stale i) (same_part i) (same_unset i)

-- the name that a PEEK uses is that in its address
pub name_read : (address : Written) (count : ℕ) → name_of address ≡ name_used (peek address count)
name_read (number n) count = refl
name_read (named name) count = refl
name_read (register n) count = refl
