-- The rows of a macro's forms have the shape of its slots.
use Rattle.std.proofs.Common.{◌≡◌, ℕ, ◌==◌, ◌&&◌, Bool, true, false, List, [], ◌∷◌, length, Some, None, if◌then◌else◌, refl, sym, ap, ◌∙◌, eqb-true}
use Rattle.std.specs.List.{list_all}
use Rattle.operand_texts.specs.Words.{is_word}
use Rattle.macro_operands.specs.Rows.{Entry, Row}
use Rattle.macro_operands.specs.Slots.{Slots, no_slots, are_apart}
use Rattle.macro_statements.specs.Forms.{StorageForm, form_for, is_storage_row}

pub both : (x y : Bool) → (x && y) ≡ true → (x ≡ true) × (y ≡ true)
both true y h = (refl, h)
both false y h = cc

-- a form that is found has such a row
pub found_row : (forms : List StorageForm) (word : List ℕ) (f : StorageForm) → list_all (λ (g : StorageForm). is_storage_row g.row) forms ≡ true
    → form_for forms word ≡ Some f → is_storage_row f.row ≡ true
found_row [] word f h e = cc
found_row (g ∷ forms) word f h e =
    let b = both (is_storage_row g.row) (list_all (λ (g : StorageForm). is_storage_row g.row) forms) h in
    elim (is_word word g.word) as (λ b. (if b then Some g else form_for forms word) ≡ Some f → is_storage_row f.row ≡ true) [
      | true ↦ λ k. (let same : g ≡ f = cc in ap (λ (x : StorageForm). is_storage_row x.row) (sym same) ∙ b.0)
      | false ↦ λ k. found_row forms word f b.1 k
    ] e

abbrev pub nothing_read : Slots
nothing_read = None ∷ None ∷ None ∷ None ∷ None ∷ None ∷ None ∷ None ∷ None ∷ []

nine_slots : (es : List Entry) → length es ≡ 9 → nothing_read ≡ no_slots es
nine_slots (a ∷ b ∷ c ∷ d ∷ e ∷ f ∷ g ∷ h ∷ i ∷ []) w = refl
nine_slots _ w = cc

pub row_slots : (row : Row) → is_storage_row row ≡ true → nothing_read ≡ no_slots row.entries
row_slots row h = nine_slots row.entries (eqb-true (length row.entries) 9 (both (length row.entries == 9) (are_apart row.entries) h).0)
