-- The name in the address of a statement.
use Rattle.std.proofs.Common.{◌≡◌, ℕ, List, refl}
use Rattle.macro_statements.specs.Requests.{Stored, Written, act, free, named, number, peek, poke, register, release}
use Rattle.macro_operands.specs.declared.requests.Form.{Form}
use Rattle.explain_findings.specs.Endings.{name_used}

pub poke_name : (v : Written) (content : Stored) (count : ℕ) → name_used (peek v count) ≡ name_used (act (poke v content))
poke_name (number n) content count = refl
poke_name (named name) content count = refl
poke_name (register n) content count = refl

pub release_name : (length v subpool : Written) (form : Form) (count : ℕ) → name_used (peek v count) ≡ name_used (act (release length v subpool form))
release_name length (number n) subpool form count = refl
release_name length (named name) subpool form count = refl
release_name length (register n) subpool form count = refl

pub free_name : (pool : List ℕ) (v : Written) (count : ℕ) → name_used (peek v count) ≡ name_used (act (free pool v))
free_name pool (number n) count = refl
free_name pool (named name) count = refl
free_name pool (register n) count = refl
