-- Where operands begin and end.
use Rattle.std.specs.Prelude.{◌≡◌, ◌≢◌, ◌==◌, ◌||◌, not, max, ◌+◌, ◌⊎◌, ◌≤◌, ◌<◌, ℕ, Bool, true, false, List, [], ◌∷◌}
use Rattle.std.specs.Prelude.{length, take, slice_index_or}
use Rattle.std.specs.Prelude.{Err}
use Rattle.macro_operands.specs.declared.faults.FaultKind.{FaultKind}
use Rattle.macro_statements.specs.Statements.{statement_with}
use Rattle.operand_texts.specs.declared.nesting.Nesting.{Nesting}
use Rattle.operand_texts.specs.Field.{is_balanced, outside, past, separates}

-- how the byte after a text is nested
abbrev pub nesting_behind : Nesting → List ℕ → Nesting
nesting_behind n [] = n
nesting_behind n (c ∷ cs) = nesting_behind (past n c) cs

-- An operand ends at the end of a text, and at each comma that separates.
abbrev pub is_end : List ℕ → ℕ → Bool
is_end text j = (j == length text) || separates (nesting_behind outside (take j text)) (slice_index_or text j 0)

-- It begins where the text does, and after each comma that separates.
abbrev pub IsStart : List ℕ → ℕ → Type 0
IsStart text k = (k ≡ 0) ⊎ ((j : ℕ) × (k ≡ j + 1) × (is_end text j ≡ true))

-- The last start of an operand up to a place: no operand ends between the two.
pub record Starts (text : List ℕ) (end start : ℕ) : Type 0 where
  pub within : start ≤ end
  pub begins : IsStart text start
  pub last : (j : ℕ) → start ≤ j → j < end → is_end text j ≡ false

-- The operands up to an end, as they're read: an empty first one with the comma after it, without which it's none.
abbrev pub front : List ℕ → ℕ → List ℕ
front text j = take (max j 1) text

-- If a field isn't balanced nothing else of it is read: only operands count that aren't balanced either.
abbrev pub is_counted : List ℕ → ℕ → Bool
is_counted text j = is_balanced outside text || not (is_balanced outside (front text j))

-- The first operand with which a statement has this fault: with it and those before it the statement has the fault, and
-- read no farther than any operand before it hasn't. In a field that isn't balanced it's the first that isn't.
pub record IsWrongOperand (card text : List ℕ) (kind : FaultKind) (from to : ℕ) : Type 0 where
  pub end : is_end text to ≡ true
  pub counted : is_counted text to ≡ true
  pub fault : statement_with card (front text to) ≡ Err kind
  pub first :
      (j : ℕ) → j < to → is_end text j ≡ true → is_counted text j ≡ true → statement_with card (front text j) ≢ Err kind
  pub starts : Starts text to from
