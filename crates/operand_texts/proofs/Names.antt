-- Names: their bytes are ASCII, and a text begins with one if the letters and digits at its start are one.
use Rattle.std.proofs.Common.{◌≡◌, ℕ, ◌+◌, ◌<◌, ◌≤◌, ◌&&◌, Bool, true, false, cond, if◌then◌else◌, List, [], ◌∷◌, length, get_or, take, Some, None, arith, refl, sym, ap, ◌∙◌, subst}
use Rattle.std.proofs.Math.Numerals.{one-add}
use Rattle.std.specs.List.{list_all}
use Rattle.std.specs.Str.{IsAscii}
use Rattle.std.proofs.lemmas.Str.Ascii.{IsAscii-nil, IsAscii-cons}
use Rattle.std.proofs.lemmas.Bool.{and_from, le-leb}
use Rattle.std.proofs.lemmas.Bool.Decides.{nat_tests}
use Rattle.std.proofs.lemmas.List.{get_or-take}
use Rattle.std.proofs.lemmas.List.Folds.{length-prefix_len}
use Rattle.operand_texts.specs.Words.{is_letter, is_name_byte, is_name, name_bytes, name_len}

both : (x y : Bool) → (x && y) ≡ true → (x ≡ true) × (y ≡ true)
both true y h = (refl, h)
both false y h = cc

small : (c : ℕ) → is_name_byte c ≡ true → c < 128
small c h = grind (arith, nat_tests)

all_ascii : (xs : List ℕ) → list_all is_name_byte xs ≡ true → IsAscii xs
all_ascii [] h = IsAscii-nil
all_ascii (x ∷ xs) h = let b = both (is_name_byte x) (list_all is_name_byte xs) h in IsAscii-cons x xs (small x b.0) (all_ascii xs b.1)

pub name_ascii : (text : List ℕ) → is_name text ≡ true → IsAscii text
name_ascii text h = all_ascii text (both _ (list_all is_name_byte text) h).1

all_of_names : (t : List ℕ) → list_all is_name_byte (take (name_bytes t) t) ≡ true
all_of_names [] = refl
all_of_names (c ∷ cs) =
    let k : ℕ = name_bytes cs in
    elim (is_name_byte c) as (λ b. is_name_byte c ≡ b → list_all is_name_byte (take (cond b (1 + k) 0) (c ∷ cs)) ≡ true) [
      | true ↦ λ q. subst (λ m. list_all is_name_byte (take m (c ∷ cs)) ≡ true) (sym (one-add k)) (and_from _ _ q (all_of_names cs))
      | false ↦ λ q. refl
    ] refl

pub name_begins : (t : List ℕ) (n : ℕ) → n ≡ name_bytes t → 1 ≤ n → n ≤ 63 → is_letter (get_or t 0 0) ≡ true → Some n ≡ name_len t
name_begins t n e least most letter =
    let k : ℕ = name_bytes t in
    let long : length (take k t) ≡ k = length-prefix_len is_name_byte t in
    let first : get_or (take k t) 0 0 ≡ get_or t 0 0 = get_or-take k t 0 0 (omega arith) in
    let is : is_name (take k t) ≡ true =
    and_from _ _ (and_from _ _ (and_from _ _ (le-leb 1 (length (take k t)) (omega arith)) (le-leb (length (take k t)) 63 (omega arith))) (ap is_letter first ∙ letter)) (all_of_names t) in
    sym (ap (λ b. if b then Some k else None) is ∙ ap Some (sym e))
