-- Whose the pages of bytes are, as text.
use Rattle.std.specs.Prelude.{ℕ, ◌+◌, ◌-◌, ◌/◌, ◌^◌, ◌==◌, nat_lt, List, [], ◌∷◌, ◌++◌, Option, Some, None, codes}
use Rattle.std.specs.Prelude.{if◌then◌else◌, Bool, true, not, ◌&&◌, is_some}
use Rattle.std.specs.Fmt.{decimal}
use Rattle.vsm_model.specs.declared.Subpool.{Subpool}
use Rattle.vsm_model.specs.State.{State}
use Rattle.vsm_model.specs.Texts.{hexadecimal}
use Rattle.explain_text.specs.Pieces.{line}

-- the subpool that has the page of a byte, or that none has
abbrev pub page_text : ℕ → Option Subpool → List ℕ
page_text address None = line (codes "the page of " ∷ hexadecimal 8 address ∷ codes " isn't assigned" ∷ [])
page_text address (Some p) =
    line
    (codes "the page of " ∷ hexadecimal 8 address ∷ codes " is of subpool " ∷ decimal p.number ∷ codes " of task "
    ∷ decimal p.owner ∷ [])

abbrev pub byte_text : State → ℕ → List ℕ
byte_text s address = page_text address (s.pages (address / 4096))

-- the address of the last of a number of bytes; none past the last address
abbrev pub last_byte : ℕ → ℕ → Option ℕ
last_byte address count =
    if nat_lt (address + (count - 1)) (2 ^ 32) then Some (address + (count - 1)) else None

-- the page of the last byte, if it's another than that of the first
abbrev pub last_text : State → ℕ → Option ℕ → List ℕ
last_text s first None = line (codes "they run past X'FFFFFFFF'" ∷ [])
last_text s first (Some last) = if (last / 4096) == (first / 4096) then [] else byte_text s last

-- whether the last byte's page isn't assigned, or there is no such byte
abbrev pub is_unassigned : State → Option ℕ → Bool
is_unassigned s None = true
is_unassigned s (Some address) = not (is_some (s.pages (address / 4096)))

-- whether the last of some bytes decides that they have no page: that of the first one is assigned
abbrev pub last_decides : State → ℕ → Option ℕ → Bool
last_decides s first last = not (is_unassigned s (Some first)) && is_unassigned s last

-- the pages of the first and of the last of some bytes, the one first that decides
abbrev pub ends_text : State → ℕ → Option ℕ → List ℕ
ends_text s first last =
    if last_decides s first last then last_text s first last ++ byte_text s first
    else byte_text s first ++ last_text s first last

-- those of a number of bytes
abbrev pub pages_text : State → ℕ → ℕ → List ℕ
pages_text s address count = ends_text s address (last_byte address count)
