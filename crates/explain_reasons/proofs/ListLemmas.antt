-- The numbers of a list, as text, one after the other.
use Rattle.std.proofs.Common.{◌≡◌, ℕ, Bool, suc, ◌+◌, ◌<◌, List, [], ◌∷◌, ◌++◌, Option, length, take, get_or, sym, ap, ◌∙◌, append_assoc, subst, arith}
use Rattle.std.proofs.Math.Seq.{take-suc}
use Rattle.std.proofs.lemmas.List.{append-nil}
use Rattle.vsm_model.specs.Search.{is_in}
use Rattle.vsm_model.specs.State.{State}
use Rattle.text_output.specs.Writing.{Puts}
use Rattle.text_output.specs.declared.writing.Gathered.{Gathered}
use Rattle.text_output.proofs.Gathering.{puts_both}
use Rattle.explain_reasons.specs.Tasks.{giver_note, numbers_text, turn_text, wrong_text}

module _ (s : State) (word : List ℕ) (by_owner first : Bool) where
  -- a number that was named before or wasn't
  abbrev pub said : List ℕ → ℕ → List ℕ
  said before number = turn_text s word number (wrong_text number (is_in before number)) (giver_note s by_owner number) first

  -- another number
  numbers_more : (before numbers : List ℕ) (number : ℕ) → numbers_text s word by_owner first before (numbers ++ number ∷ []) ≡ numbers_text s word by_owner first before numbers ++ said (before ++ numbers) number
  numbers_more before [] number = append-nil (said before number) ∙ ap (λ (z : List ℕ). said z number) (sym (append-nil before))
  numbers_more before (x ∷ xs) number =
      let its = said before x in
      ap (λ (z : List ℕ). its ++ z) (numbers_more (before ++ x ∷ []) xs number)
      ∙ sym (append_assoc its (numbers_text s word by_owner first (before ++ x ∷ []) xs) (said ((before ++ x ∷ []) ++ xs) number))
      ∙ ap (λ (z : List ℕ). (its ++ numbers_text s word by_owner first (before ++ x ∷ []) xs) ++ said z number) (append_assoc before (x ∷ []) xs)

  pub next_number : (old now new : Option (List ℕ)) (a b c : Gathered) (before numbers : List ℕ) (k : ℕ) → k < length numbers
      → Puts old now a b (numbers_text s word by_owner first before (take k numbers)) → Puts now new b c (said (before ++ take k numbers) (get_or numbers k 0))
      → Puts old new a c (numbers_text s word by_owner first before (take (k + 1) numbers))
  next_number old now new a b c before numbers k within h next =
      let one : k + 1 ≡ suc k = omega arith in
      subst (Puts old new a c)
      (sym (ap (λ (n : ℕ). numbers_text s word by_owner first before (take n numbers)) one ∙ ap (numbers_text s word by_owner first before) (take-suc numbers k 0 within)
      ∙ numbers_more before (take k numbers) (get_or numbers k 0)))
      (puts_both old now new a b c (numbers_text s word by_owner first before (take k numbers)) (said (before ++ take k numbers) (get_or numbers k 0)) h next)
