-- GETMAIN: its forms that obtain one area (Assembler Services Reference, "GETMAIN - Allocate virtual storage").
use Rattle.std.specs.Prelude.{true, false, [], ◌∷◌, codes}
use Rattle.macro_operands.specs.Rows.{Row}
use Rattle.macro_operands.specs.declared.rows.Kind.{Kind}
use Rattle.macro_operands.specs.declared.rows.Kind.TheVariants as kind
use Rattle.macro_statements.specs.Forms.{storage_row, obtaining, StorageMacro}
use Rattle.vsm_model.specs.declared.causes.Family.TheVariants as family

-- The operands of a form: LV, A, BNDRY and LOC of the kinds that it has, and SP.
abbrev pub getmain_row : Kind → Kind → Kind → Kind → Row
getmain_row length address boundary location =
    storage_row (codes "LV") length (codes "A") address boundary location kind.OtherForm

-- R has a length that isn't in register 0; RC and RU have a length, VRC and VRU a pair, and these four BNDRY and LOC;
-- EC and EU have a length, BNDRY, and a name for the address.
abbrev pub register_row : Row
register_row = getmain_row kind.RegisterLength kind.OtherForm kind.OtherForm kind.OtherForm

abbrev pub fixed_row : Row
fixed_row = getmain_row kind.Value kind.OtherForm kind.Boundary kind.Location

abbrev pub variable_row : Row
variable_row = getmain_row kind.Pair kind.OtherForm kind.Boundary kind.Location

abbrev pub named_row : Row
named_row = getmain_row kind.Value kind.Name kind.Boundary kind.OtherForm

-- A form whose word ends in C is conditional. The forms that obtain several areas, or one between two lengths by a
-- list, are left out.
abbrev pub getmain_macro : StorageMacro
getmain_macro = record {
  forms = obtaining (codes "R") register_row family.R false ∷ obtaining (codes "RC") fixed_row family.S true
      ∷ obtaining (codes "RU") fixed_row family.S false ∷ obtaining (codes "VRC") variable_row family.S true
      ∷ obtaining (codes "VRU") variable_row family.S false ∷ obtaining (codes "EC") named_row family.E true
      ∷ obtaining (codes "EU") named_row family.E false ∷ [];
  left_out = codes "LC" ∷ codes "LU" ∷ codes "VC" ∷ codes "VU" ∷ [];
}
