-- The column of the next byte.
use Rattle.std.proofs.Common.{◌≡◌, ◌+◌, ◌∙◌, ℕ, suc, Bool, true, false, if◌then◌else◌, List, [], ◌∷◌, ◌++◌, ap, subst, sym, arith}
use Rattle.explain_text.specs.Letters.{column_of, continues, shown_at, shown_to}

next : (i : ℕ) → suc i ≡ i + 1
next i = omega arith

abbrev by_case : List ℕ → ℕ → Bool → ℕ
by_case line i b = if b then column_of line i else column_of line i + 1

column_next : (line : List ℕ) (i : ℕ) (b : Bool) → b ≡ continues line (i + 1) → by_case line i b ≡ column_of line (i + 1)
column_next line i b e = subst (λ k. b ≡ continues line k → by_case line i b ≡ column_of line k) (next i) (λ h. ap (by_case line i) h) e

pub column_more : (line : List ℕ) (i column more : ℕ) (b : Bool) → b ≡ continues line (i + 1) → b ≡ false → more ≡ column + 1 → column ≡ column_of line i
    → more ≡ column_of line (i + 1)
column_more line i column more b e n is h = is ∙ ap (λ k. k + 1) h ∙ column_next line i false (sym n ∙ e)

pub column_same : (line : List ℕ) (i column more : ℕ) (b : Bool) → b ≡ continues line (i + 1) → b ≡ true → more ≡ column → column ≡ column_of line i
    → more ≡ column_of line (i + 1)
column_same line i column more b e n is h = is ∙ h ∙ column_next line i true (sym n ∙ e)

-- another byte is shown
pub shown_next : (line : List ℕ) (i : ℕ) (text more : List ℕ) (byte : ℕ) → text ≡ shown_to line i → byte ≡ shown_at line i → more ≡ text ++ byte ∷ []
    → more ≡ shown_to line (i + 1)
shown_next line i text more byte e b is =
    is ∙ (λ k. e k ++ b k ∷ []) ∙ ap (shown_to line) (next i)
