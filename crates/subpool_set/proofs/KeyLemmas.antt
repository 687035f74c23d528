-- Lemmas on the keys of rows, for the crates above.
pub use Rattle.row_table.specs.Rows.{same_key}
pub use Rattle.row_table.proofs.RowLemmas.{either, not_both, same_parts, same_by, same_self, same_sym, eqb_refl, eqb_same, none_some}
