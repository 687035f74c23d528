-- Rows: the operands that a statement has, and the keywords that are left out.
use Rattle.std.specs.Prelude.{ℕ, Bool, false, ◌==◌, List, Option, Some, None}
use Rattle.std.specs.List.{list_any}
use Rattle.std.specs.Str.{bytes_eq}
use Rattle.macro_operands.specs.declared.rows.Kind.{Kind}

-- An operand is known by its place among all operands, counted from 0, or by its keyword.
pub data Key : Type 0 where
  position : ℕ → Key
  keyword : List ℕ → Key

abbrev pub same_key : Key → Key → Bool
same_key (position i) (position j) = i == j
same_key (keyword v) (keyword w) = bytes_eq w v
same_key _ _ = false

-- A key is one of these.
abbrev pub is_among : List Key → Key → Bool
is_among keys key = list_any (λ k. same_key k key) keys

-- An operand that a statement has: its key, the kind of its value, and the key of an operand with which it can't
-- appear.
pub record Entry : Type 0 where
  pub key : Key
  pub kind : Kind
  pub excluded : Option Key

-- The operands of a statement, and the keywords that are left out.
pub record Row : Type 0 where
  pub entries : List Entry
  pub left_out : List (List ℕ)

-- An operand that may appear with any other.
abbrev pub entry : Key → Kind → Entry
entry key k = record { key = key; kind = k; excluded = None }

-- An operand that can't appear with the one of another key.
abbrev pub excluding : Key → Kind → Key → Entry
excluding key k other = record { key = key; kind = k; excluded = Some other }
