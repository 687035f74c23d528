-- STORAGE: its forms OBTAIN and RELEASE (Assembler Services Reference, "STORAGE - Obtain and release storage").
use Rattle.std.specs.Prelude.{false, [], ◌∷◌, codes}
use Rattle.macro_operands.specs.Rows.{Row}
use Rattle.macro_operands.specs.declared.rows.Kind.TheVariants as kind
use Rattle.macro_statements.specs.Forms.{storage_row, obtaining, releasing, StorageMacro}
use Rattle.vsm_model.specs.declared.causes.Family.TheVariants as family

-- STORAGE OBTAIN has a length, or a pair of them, and ADDR says where the address goes.
abbrev pub obtain_row : Row
obtain_row =
    storage_row (codes "LENGTH") kind.Length (codes "ADDR") kind.Place kind.Boundary kind.Location kind.Condition

-- STORAGE RELEASE has a length and an address.
abbrev pub release_row : Row
release_row =
    storage_row (codes "LENGTH") kind.Value (codes "ADDR") kind.Value kind.OtherForm kind.OtherForm kind.Condition

abbrev pub storage_macro : StorageMacro
storage_macro = record {
  forms = obtaining (codes "OBTAIN") obtain_row family.S false ∷ releasing (codes "RELEASE") release_row family.S false
      ∷ [];
  left_out = [];
}
