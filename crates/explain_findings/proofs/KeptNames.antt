-- The words of names after a reply.
use Rattle.std.proofs.Common.{◌≡◌, ℕ, Bool, true, false, true≢false, if◌then◌else◌, List, [], ◌∷◌, Option, Some, None, refl, sym, ap, ◌∙◌}
use Rattle.std.proofs.lemmas.Bool.{and_parts, eqb-true}
use Rattle.std.specs.Prelude.{◌==◌}
use Rattle.vsm_model.specs.declared.replies.Reply.{Reply}
use Rattle.vsm_model.specs.declared.replies.Reply.TheVariants.{Obtained, Returned, Cell, Attached, Turn, Stored}
use Rattle.vsm_model.specs.Names.{names_after, same_name, word_of, with_name}
use Rattle.vsm_model.proofs.Rows.{name_stands, others_stand}
use Rattle.explain_findings.specs.Endings.{gives}
use Rattle.explain_findings.specs.Replays.{word_given}

same_name-is : (xs ys : List ℕ) → same_name xs ys ≡ true → xs ≡ ys
same_name-is [] [] e = refl
same_name-is [] (y ∷ ys) e = absurd (true≢false (sym e))
same_name-is (x ∷ xs) [] e = absurd (true≢false (sym e))
same_name-is (x ∷ xs) (y ∷ ys) e =
    let parts = and_parts (x == y) (same_name xs ys) e in
    let first = eqb-true x y parts.0 in
    let rest = same_name-is xs ys parts.1 in
    λ i. first i ∷ rest i

-- a name that is given a word, and the others
word_with : (names : List (List ℕ × ℕ)) (name other : List ℕ) (word : ℕ) → word_of (with_name names name word) other ≡ (if same_name name other then Some word else word_of names other)
word_with names name other word = go (same_name name other) refl where
  go : (b : Bool) → same_name name other ≡ b → word_of (with_name names name word) other ≡ (if same_name name other then Some word else word_of names other)
  go true is =
      ap (word_of (with_name names name word)) (sym (same_name-is name other is)) ∙ name_stands names name word
      ∙ sym (ap (λ b. if b then Some word else word_of names other) is)
  go false is = others_stand names name other word is ∙ sym (ap (λ b. if b then Some word else word_of names other) is)

-- the word of a name after a reply
pub word_after : (names : List (List ℕ × ℕ)) (name : Option (List ℕ)) (reply : Reply) (other : List ℕ) →
    word_of (names_after names name reply) other ≡ (if gives (Some reply) name other then word_given reply else word_of names other)
word_after names None (Obtained address length) other = refl
word_after names None (Returned code) other = refl
word_after names None (Cell address) other = refl
word_after names None (Attached task) other = refl
word_after names None (Turn task) other = refl
word_after names None Stored other = refl
word_after names (Some name) (Obtained address length) other = word_with names name other address
word_after names (Some name) (Cell address) other = word_with names name other address
word_after names (Some name) (Returned code) other = refl
word_after names (Some name) (Attached task) other = refl
word_after names (Some name) (Turn task) other = refl
word_after names (Some name) Stored other = refl
