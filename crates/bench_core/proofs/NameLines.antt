-- The lines of names, one after the other.
use Rattle.std.proofs.Common.{◌≡◌, ℕ, zero, suc, ◌+◌, List, [], ◌∷◌, ◌++◌, take, Option, Some, None, refl, sym, ap, ◌∙◌, subst, arith}
use Rattle.std.specs.Prelude.{codes, slice_get}
use Rattle.std.proofs.lemmas.List.{append-nil}
use Rattle.std.proofs.lemmas.Grind.{flat_map-append}
use Rattle.step_history.proofs.Cursor.{take_get}
use Rattle.text_output.specs.Writing.{Puts}
use Rattle.text_output.specs.declared.writing.Gathered.{Gathered}
use Rattle.text_output.proofs.Gathering.{puts_both}
use Rattle.vsm_model.specs.Map.{hex_field, line, name_lines}

abbrev pub name_line : List ℕ × ℕ → List ℕ
name_line row = line (codes " NAME " ++ row.0 ++ hex_field row.1)

-- one more line after the first i
more : (rows : List (List ℕ × ℕ)) (i : ℕ) (row : List ℕ × ℕ) → slice_get rows i ≡ Some row
    → name_lines (take (i + 1) rows) ≡ name_lines (take i rows) ++ name_line row
more rows i row is =
    let next : i + 1 ≡ suc i = omega arith in
    ap (λ k. name_lines (take k rows)) next
    ∙ ap name_lines (take_get rows i row is)
    ∙ flat_map-append name_line (take i rows) (row ∷ [])
    ∙ ap (λ l. name_lines (take i rows) ++ l) (append-nil (name_line row))

pub name_put : (old now new : Option (List ℕ)) (a b c : Gathered) (rows : List (List ℕ × ℕ)) (i : ℕ) (row : List ℕ × ℕ)
    → slice_get rows i ≡ Some row → Puts old now a b (name_lines (take i rows)) → Puts now new b c (name_line row)
    → Puts old new a c (name_lines (take (i + 1) rows))
name_put old now new a b c rows i row is before one =
    subst (Puts old new a c) (sym (more rows i row is))
    (puts_both old now new a b c (name_lines (take i rows)) (name_line row) before one)

-- if none follows them, they are all
pub take_past : {A : Type 0} (xs : List A) (i : ℕ) → slice_get xs i ≡ None → take i xs ≡ xs
take_past [] zero none = refl
take_past [] (suc i) none = refl
take_past (x ∷ xs) zero none = cc
take_past (x ∷ xs) (suc i) none = ap (λ l. x ∷ l) (take_past xs i none)
