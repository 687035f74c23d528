-- The next byte of a JSON string.
use Rattle.std.proofs.Common.{◌≡◌, ◌+◌, ◌∙◌, ℕ, suc, List, [], ◌++◌, ap, arith}
use Rattle.std.proofs.lemmas.List.{flat_map_more}
use Rattle.std.specs.List.{flat_map}
use Rattle.explain_text.specs.Json.{escaped}
use Rattle.explain_text.specs.Letters.{shown_at, shown_to}

pub escaped_next : (line : List ℕ) (i byte : ℕ) → byte ≡ shown_at line i
    → flat_map escaped (shown_to line i) ++ escaped byte ≡ flat_map escaped (shown_to line (i + 1))
escaped_next line i byte e =
    let next : suc i ≡ i + 1 = omega arith in
    ap (λ b. flat_map escaped (shown_to line i) ++ escaped b) e
    ∙ flat_map_more escaped [] (shown_to line i) (shown_at line i)
    ∙ ap (λ k. flat_map escaped (shown_to line k)) next
