-- Another field after those of a row.
use Rattle.std.proofs.Common.{◌≡◌, ℕ, ◌+◌, ◌<◌, suc, take, get_or, length, arith, List, [], ◌∷◌, ◌++◌, Option, sym, ap, subst, ◌∙◌, append_assoc}
use Rattle.std.specs.Prelude.{map}
use Rattle.std.proofs.Math.Seq.{take-suc}
use Rattle.std.proofs.lemmas.List.{append-nil}
use Rattle.text_output.specs.Writing.{Puts}
use Rattle.text_output.specs.declared.writing.Gathered.{Gathered}
use Rattle.text_output.proofs.Gathering.{puts_both}
use Rattle.explain_text.specs.Rows.{field_of, fields_of, meant}
use Rattle.explain_text.specs.declared.json.Form.{Form}
use Rattle.explain_text.specs.declared.rows.Field.{Field}

abbrev pub fields_in : Form → List Field → List ℕ
fields_in form fs = fields_of form (map meant fs)

one_more : (form : Form) (fs : List Field) (f : Field) → fields_in form (fs ++ f ∷ []) ≡ fields_in form fs ++ field_of form (meant f)
one_more form [] f = append-nil (field_of form (meant f))
one_more form (x ∷ xs) f =
    ap (λ (z : List ℕ). field_of form (meant x) ++ z) (one_more form xs f)
    ∙ sym (append_assoc (field_of form (meant x)) (fields_in form xs) (field_of form (meant f)))

pub next_put : (form : Form) (old now new : Option (List ℕ)) (a b c : Gathered) (fs : List Field) (i : ℕ) (d : Field) → i < length fs
    → Puts old now a b (fields_in form (take i fs)) → Puts now new b c (field_of form (meant (get_or fs i d)))
    → Puts old new a c (fields_in form (take (i + 1) fs))
next_put form old now new a b c fs i d within h k =
    let x = get_or fs i d in
    let next : i + 1 ≡ suc i = omega arith in
    subst (Puts old new a c)
    (sym (ap (λ (n : ℕ). fields_in form (take n fs)) next ∙ ap (fields_in form) (take-suc fs i d within) ∙ one_more form (take i fs) x))
    (puts_both old now new a b c (fields_in form (take i fs)) (field_of form (meant x)) h k)
