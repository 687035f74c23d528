-- ATTACH, and its row (Assembler Services Reference, ATTACH).
use Rattle.std.specs.Prelude.{Bool, true, List, ℕ, [], ◌∷◌, Option, Some, None, Result, Ok, codes}
use Rattle.std.specs.Prelude.{option_and_then, unwrap_or}
use Rattle.operand_texts.specs.Written.{Written}
use Rattle.macro_operands.specs.Rows.{keyword, entry, excluding, Row}
use Rattle.macro_operands.specs.Operands.{first_fault, unless_fault, text_at, value_at}
use Rattle.macro_operands.specs.Said.{condition_of}
use Rattle.macro_operands.specs.Requests.{WrittenSubpools, nothing, one, listed, attach, Asked, act}
use Rattle.macro_operands.specs.declared.faults.FaultKind.{FaultKind}
use Rattle.macro_operands.specs.declared.rows.Kind.TheVariants as kind

-- ATTACH has the name of a program, which has no effect; the subpools that the new task is given, and those that it
-- shares, each by one number or by the address of a list; and whether it shares subpool 0. Keywords for events, exits
-- and their parameters, programs and their libraries, dispatching, and lists of operands are left out.
abbrev pub attach_row : Row
attach_row = record {
  entries = entry (keyword (codes "EP")) kind.Name
      ∷ excluding (keyword (codes "GSPV")) kind.Value (keyword (codes "GSPL"))
      ∷ excluding (keyword (codes "GSPL")) kind.Value (keyword (codes "GSPV"))
      ∷ excluding (keyword (codes "SHSPV")) kind.Value (keyword (codes "SHSPL"))
      ∷ excluding (keyword (codes "SHSPL")) kind.Value (keyword (codes "SHSPV"))
      ∷ entry (keyword (codes "SZERO")) kind.Condition
      ∷ entry (keyword (codes "RELATED")) kind.Any ∷ entry (keyword (codes "LINKAGE")) kind.Any
      ∷ entry (keyword (codes "REGS")) kind.Any ∷ [];
  left_out = codes "ECB" ∷ codes "ETXR" ∷ codes "EPLOC" ∷ codes "DE" ∷ codes "DCB" ∷ codes "PARAM" ∷ codes "VL"
      ∷ codes "LPMOD" ∷ codes "DPMOD" ∷ codes "SF" ∷ codes "ESTAI" ∷ codes "STAI" ∷ codes "TASKLIB" ∷ codes "MF" ∷ [];
}

-- Subpools by one number, or by the address of a list, or none.
abbrev pub subpools_by : Option Written → Option Written → WrittenSubpools
subpools_by (Some n) list = one n
subpools_by None (Some address) = listed address
subpools_by None None = nothing

-- Subpools that are given and that are shared, each by one number or by a list, and whether subpool 0 is shared. None
-- of them is required, and SZERO is YES if it is left out.
abbrev pub attach_with : Option Written → Option Written → Option Written → Option Written → Option Bool → Asked
attach_with given given_list shared shared_list shares_zero =
    act (attach (subpools_by given given_list) (subpools_by shared shared_list) (unwrap_or shares_zero true))

abbrev pub attach_of : List (List ℕ) → Result Asked FaultKind
attach_of texts =
    let given = value_at (keyword (codes "GSPV")) texts in
    let given_list = value_at (keyword (codes "GSPL")) texts in
    let shared = value_at (keyword (codes "SHSPV")) texts in
    let shared_list = value_at (keyword (codes "SHSPL")) texts in
    let shares_zero = option_and_then condition_of (text_at (keyword (codes "SZERO")) texts) in
    unless_fault (first_fault attach_row texts) (Ok (attach_with given given_list shared shared_list shares_zero))
