-- Which subpool the current task sees at a number, as text.
use Rattle.std.specs.Prelude.{ℕ, List, [], ◌∷◌, Option, Some, None, codes}
use Rattle.std.specs.Fmt.{decimal}
use Rattle.vsm_model.specs.declared.Subpool.{Subpool}
use Rattle.vsm_model.specs.State.{State}
use Rattle.explain_text.specs.Pieces.{line}
use Rattle.explain_reasons.specs.Sights.{seen_subpool}

-- the task sees none at the number,
abbrev pub unseen_text : ℕ → ℕ → List ℕ
unseen_text task number =
    line (codes "task " ∷ decimal task ∷ codes " sees no subpool " ∷ decimal number ∷ [])

-- or that of an owner; a note follows
abbrev pub owned_text : ℕ → ℕ → ℕ → List ℕ → List ℕ
owned_text task number owner note =
    line
    (codes "task " ∷ decimal task ∷ codes " sees subpool " ∷ decimal number ∷ codes " of task " ∷ decimal owner ∷ note
    ∷ [])

-- what the task sees at the number
abbrev pub sight_text : ℕ → ℕ → Option Subpool → List ℕ → List ℕ
sight_text task number None note = unseen_text task number
sight_text task number (Some p) note = owned_text task number p.owner note

-- what the current task sees there
abbrev pub seen_text : State → ℕ → List ℕ → List ℕ
seen_text s number note = sight_text s.current number (seen_subpool s number) note
