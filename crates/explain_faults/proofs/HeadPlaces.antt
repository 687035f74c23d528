-- Where the caret of a fault of the first line is.
use Rattle.std.proofs.Common.{◌≡◌, ℕ, ◌+◌, ◌-◌, ◌≤◌, List, length, sym, subst, arith}
use Rattle.macro_operands.specs.declared.faults.FaultKind.{FaultKind}
use Rattle.macro_operands.specs.declared.faults.FaultKind.TheVariants as fault
use Rattle.operand_texts.specs.Words.{after_blanks, after_word}
use Rattle.explain_faults.specs.Places.{IsHeadPlace}
use Rattle.explain_faults.specs.declared.gathered.TextPlace.{TextPlace}

-- it stays there if a place on the first line does
pub head_stays : (card : List ℕ) (kind : FaultKind) (place its : TextPlace) (last : ℕ) → (place.line ≤ last → its ≡ place) → IsHeadPlace card kind place → IsHeadPlace card kind its
head_stays card fault.Column place its last same h = subst (λ (p : TextPlace). (p.line ≡ 0) × (p.column ≡ 1)) (sym (same (omega (arith, h.0)))) h
head_stays card fault.Operation place its last same h = λ some.
    subst (λ (p : TextPlace). (p.line ≡ 0) × (p.column ≡ length card - length (after_blanks (after_word card)) + 1)) (sym (same (omega (arith, (h some).0)))) (h some)
head_stays card fault.Continuation place its last same h = tt
head_stays card fault.Operand place its last same h = tt
head_stays card fault.Repeated place its last same h = tt
head_stays card fault.Missing place its last same h = tt
head_stays card fault.Value place its last same h = tt
head_stays card fault.LeftOut place its last same h = tt
