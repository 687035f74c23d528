-- What is left of a script after its lines.
use Rattle.std.proofs.Common.{◌≡◌, ◌≤◌, ℕ, zero, suc, List, [], ◌∷◌, ◌++◌, length, take, drop, ap, ◌∙◌, subst, arith}
use Rattle.std.proofs.lemmas.List.{append-nil, take-append-drop}
use Rattle.vsm_model.specs.declared.limits.Settings.{Settings}
use Rattle.script_steps.specs.Output.{Marked}
use Rattle.script_steps.specs.Script.{NoFeed}
use Rattle.script_steps.specs.Taken.{PassesBound}

-- after the end stands nothing
pub rest_none : (xs : List ℕ) (n : ℕ) → length xs ≤ n → NoFeed (drop n xs)
rest_none [] zero h = tt
rest_none [] (suc n) h = tt
rest_none (x ∷ xs) zero h = absurd (omega (arith, h))
rest_none (x ∷ xs) (suc n) h = rest_none xs n (omega (arith, h))

-- what is left of a script
pub whole_script : (script : List ℕ) (at : ℕ) (rest : List ℕ) → rest ≡ drop at script → take at script ++ rest ≡ script
whole_script script at rest is = ap (λ r. take at script ++ r) is ∙ take-append-drop at script

-- a bound that is passed there is passed in the script
pub script_past : (settings : Settings) (script : List ℕ) (at : ℕ) (rest : List ℕ) (answers : List Marked) → rest ≡ drop at script
    → ((behind : List ℕ) → PassesBound settings ((take at script ++ rest) ++ behind) answers) → PassesBound settings script answers
script_past settings script at rest answers is h =
    subst (λ s. PassesBound settings s answers) (append-nil (take at script ++ rest) ∙ whole_script script at rest is) (h [])
