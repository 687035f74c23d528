-- FREEMAIN: its forms that release one area, or all of a subpool (Assembler Services Reference, "FREEMAIN - Free
-- virtual storage").
use Rattle.std.specs.Prelude.{true, false, [], ◌∷◌, codes}
use Rattle.macro_operands.specs.Rows.{Row}
use Rattle.macro_operands.specs.declared.rows.Kind.{Kind}
use Rattle.macro_operands.specs.declared.rows.Kind.TheVariants as kind
use Rattle.macro_statements.specs.Forms.{storage_row, releasing, StorageMacro}
use Rattle.vsm_model.specs.declared.causes.Family.TheVariants as family

-- The operands of a form: LV and A of the kinds that it has, and SP.
abbrev pub freemain_row : Kind → Kind → Row
freemain_row length address =
    storage_row (codes "LV") length (codes "A") address kind.OtherForm kind.OtherForm kind.OtherForm

-- R has a length that isn't in register 0, and an address; RC and RU have a length and an address; E, EC and EU have a
-- length, and the name of the word that holds the address.
abbrev pub register_row : Row
register_row = freemain_row kind.RegisterLength kind.Value

abbrev pub fixed_row : Row
fixed_row = freemain_row kind.Value kind.Value

abbrev pub named_row : Row
named_row = freemain_row kind.Value kind.NamedValue

-- A form whose word ends in C is conditional. The forms that release several areas, or one by a list, are left out.
abbrev pub freemain_macro : StorageMacro
freemain_macro = record {
  forms = releasing (codes "R") register_row family.R false ∷ releasing (codes "RC") fixed_row family.S true
      ∷ releasing (codes "RU") fixed_row family.S false ∷ releasing (codes "E") named_row family.E false
      ∷ releasing (codes "EC") named_row family.E true ∷ releasing (codes "EU") named_row family.E false ∷ [];
  left_out = codes "L" ∷ codes "LC" ∷ codes "LU" ∷ codes "V" ∷ codes "VC" ∷ codes "VU" ∷ [];
}
