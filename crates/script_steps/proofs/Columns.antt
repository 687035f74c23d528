-- Columns 1 to 80 of a line.
use Rattle.std.proofs.Common.{◌≡◌, ℕ, ◌-◌, ◌<◌, ◌≤◌, ◌==◌, List, length, take, slice_index, cond, true, false, refl, arith}
use Rattle.std.proofs.lemmas.List.{take-take, take_all, length-take}
use Rattle.std.specs.Str.Lines.{strip_carriage_return}
use Rattle.script_steps.specs.Script.{columns}

pub columns_long : (line : List ℕ) → 80 < length line → columns line ≡ take 80 line
columns_long line h =
    elim (slice_index line (length line - 1) == 13) as (λ b. take 80 (cond b (take (length line - 1) line) line) ≡ take 80 line) [
      | true ↦ take-take 80 (length line - 1) line (omega arith)
      | false ↦ refl
    ]

pub columns_short : (line : List ℕ) → length line ≤ 80 → columns line ≡ strip_carriage_return line
columns_short line h =
    elim (slice_index line (length line - 1) == 13) as (λ b. take 80 (cond b (take (length line - 1) line) line) ≡ cond b (take (length line - 1) line) line) [
      | true ↦ take_all 80 (take (length line - 1) line) (simp length-take (omega arith))
      | false ↦ take_all 80 line h
    ]
