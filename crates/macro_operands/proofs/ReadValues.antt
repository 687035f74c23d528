-- What a value and a place are kept as is the value and the place that the text spells.
use Rattle.std.proofs.Common.{◌≡◌, ℕ, ◌==◌, Bool, true, false, ◌&&◌, List, map, Option, Some, None, is_some, nat_le, if◌then◌else◌, refl, ap, ◌∙◌}
use Rattle.std.specs.Option.{option_map}
use Rattle.std.specs.Char.{to_ascii_uppercase}
use Rattle.operand_texts.specs.Words.{is_name}
use Rattle.operand_texts.specs.Written as written
use Rattle.operand_texts.specs.Written.{Written, named, Target, in_name, in_register}
use Rattle.operand_texts.specs.Values.{number_of, register_of, or_other, value_of, target_register, target_of}
use Rattle.macro_operands.specs.Lengths.{name_of, is_register_0}
use Rattle.macro_operands.specs.Said.{Said, number, register, name, pair, condition, content, size, count, boundary, location, header, anything, other_said, value_said, place_register_said, place_said, unless_register_0}
use Rattle.macro_operands.specs.Slots.{as_value, as_pair, as_place}

-- a name as it is kept
pub name_in : (t : List ℕ) → is_name t ≡ true → name_of t ≡ Some (map to_ascii_uppercase t)
name_in t h = ap (λ b. if b then Some (map to_ascii_uppercase t) else None) h

register_value : (r : Option ℕ) → as_value (option_map register r) ≡ option_map written.register r
register_value None = refl
register_value (Some r) = refl

name_or_register : (t : List ℕ) (b : Bool) → is_name t ≡ b → as_value (if b then Some (name t) else option_map register (register_of t))
    ≡ (if b then Some (named (map to_ascii_uppercase t)) else option_map written.register (register_of t))
name_or_register t true h = ap (λ n. option_map named n) (name_in t h)
name_or_register t false h = register_value (register_of t)

other_value : (n : Option ℕ) (t : List ℕ) → as_value (other_said n t) ≡ or_other n t
other_value (Some n) t = refl
other_value None t = name_or_register t (is_name t) refl

pub value_kept : (t : List ℕ) → as_value (value_said t) ≡ value_of t
value_kept t = other_value (number_of t) t

-- a value is no pair
no_pair_register : (r : Option ℕ) → as_pair (option_map register r) ≡ None
no_pair_register None = refl
no_pair_register (Some r) = refl

no_pair_name : (t : List ℕ) (b : Bool) → as_pair (if b then Some (name t) else option_map register (register_of t)) ≡ None
no_pair_name t true = refl
no_pair_name t false = no_pair_register (register_of t)

no_pair_other : (n : Option ℕ) (t : List ℕ) → as_pair (other_said n t) ≡ None
no_pair_other (Some n) t = refl
no_pair_other None t = no_pair_name t (is_name t)

pub no_pair : (t : List ℕ) → as_pair (value_said t) ≡ None
no_pair t = no_pair_other (number_of t) t

-- a value that is read is kept
pub some_kept : (s : Option Said) (v : Written) → as_value s ≡ Some v → is_some s ≡ true
some_kept None v h = cc
some_kept (Some s) v h = refl

-- places
if_place : (b : Bool) (n : ℕ) → as_place (if b then Some (register n) else None) ≡ (if b then Some (in_register n) else None)
if_place true n = refl
if_place false n = refl

register_place : (r : Option ℕ) → as_place (place_register_said r) ≡ target_register r
register_place None = refl
register_place (Some n) = if_place (nat_le 1 n && nat_le n 12) n

name_or_place : (t : List ℕ) (b : Bool) → is_name t ≡ b → as_place (if b then Some (name t) else place_register_said (register_of t))
    ≡ (if b then Some (in_name (map to_ascii_uppercase t)) else target_register (register_of t))
name_or_place t true h = ap (λ n. option_map in_name n) (name_in t h)
name_or_place t false h = register_place (register_of t)

pub place_kept : (t : List ℕ) → as_place (place_said t) ≡ target_of t
place_kept t = name_or_place t (is_name t) refl

pub some_place_kept : (s : Option Said) (p : Target) → as_place s ≡ Some p → is_some s ≡ true
some_place_kept None p h = cc
some_place_kept (Some s) p h = refl

-- a value that isn't in register 0
besides_register : (n : ℕ) (b : Bool) → (n == 0) ≡ b → is_register_0 (written.register n) ≡ false → (if n == 0 then None else Some (register n)) ≡ Some (register n)
besides_register n b e h = ap (λ x. if x then None else Some (register n)) h

pub besides_kept : (s : Option Said) (v : Written) → as_value s ≡ Some v → is_register_0 v ≡ false → unless_register_0 s ≡ s
besides_kept None v h e = refl
besides_kept (Some (register n)) v h e = let same : written.register n ≡ v = cc in besides_register n (n == 0) refl (ap is_register_0 same ∙ e)
besides_kept (Some (number n)) v h e = refl
besides_kept (Some (name t)) v h e = refl
besides_kept (Some (pair t)) v h e = refl
besides_kept (Some (condition b)) v h e = refl
besides_kept (Some (content t)) v h e = refl
besides_kept (Some (size n)) v h e = refl
besides_kept (Some (count n)) v h e = refl
besides_kept (Some (boundary b)) v h e = refl
besides_kept (Some (location l)) v h e = refl
besides_kept (Some (header t)) v h e = refl
besides_kept (Some anything) v h e = refl
