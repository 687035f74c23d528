-- How long the names and headers of cell pools are that can be written.
use Rattle.std.proofs.Common.{◌≡◌, ℕ, ◌≤◌, ◌&&◌, Bool, true, false, List, length, nat_le, slice_index, arith, refl}
use Rattle.std.specs.List.{list_all}
use Rattle.std.proofs.lemmas.Bool.Decides.{nat_tests}
use Rattle.operand_texts.specs.Words.{is_letter, is_name_byte, is_name, is_word}
use Rattle.macro_operands.specs.Headers.{is_header_byte}
use Rattle.macro_operands.specs.Requests.{IsName, IsHeader}

both : (x y : Bool) → (x && y) ≡ true → (x ≡ true) × (y ≡ true)
both true y h = (refl, h)
both false y h = cc

pub name_few : (n : List ℕ) → IsName n → length n ≤ 63
name_few n h =
    let t = (both (nat_le 1 (length n)) (nat_le (length n) 63) (both _ (is_letter (slice_index n 0)) (both _ (list_all is_name_byte n) (both (is_name n) (is_word n n) h).0).0).0).1 in
    grind (arith, nat_tests, t)

pub header_few : (h : List ℕ) → IsHeader h → length h ≤ 24
header_few h k =
    let t = (both (nat_le 1 (length h)) (nat_le (length h) 24) (both _ (list_all is_header_byte h) k).0).1 in
    grind (arith, nat_tests, t)

pub header_some : (h : List ℕ) → IsHeader h → 1 ≤ length h
header_some h k =
    let t = (both (nat_le 1 (length h)) (nat_le (length h) 24) (both _ (list_all is_header_byte h) k).0).0 in
    grind (arith, nat_tests, t)
