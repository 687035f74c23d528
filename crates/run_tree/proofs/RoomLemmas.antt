-- The most room and the numbers of a list to which some runs are added, or in which others replace some.
use Rattle.std.proofs.Common.{◌≡◌, ℕ, ◌+◌, ◌-◌, ◌%◌, ◌^◌, max, List, ◌++◌, arith, ◌∙◌}
use Rattle.run_tree.specs.declared.run.Run.{Run}
use Rattle.run_tree.specs.Shape.{longest, total}
use Rattle.run_tree.proofs.ShapeLemmas.{longest-append, total-append}

longest_parts : (room : Run → ℕ) (xs new ys : List Run) → longest room (xs ++ (new ++ ys)) ≡ max (max (longest room xs) (longest room ys)) (longest room new)
longest_parts room xs new ys = omega (arith, longest-append room xs (new ++ ys), longest-append room new ys)

total_parts : (xs new ys : List Run) → total (xs ++ (new ++ ys)) ≡ total xs + total ys + total new
total_parts xs new ys = omega (arith, total-append xs (new ++ ys), total-append new ys)

pub longest_with : (room : Run → ℕ) (xs new ys : List Run) (m n : ℕ) → m ≡ longest room (xs ++ ys) → n ≡ longest room new → max m n ≡ longest room (xs ++ (new ++ ys))
longest_with room xs new ys m n e f = omega (arith, e, f, longest-append room xs ys, longest_parts room xs new ys)

pub longest_changed : (room : Run → ℕ) (xs old new ys : List Run) (m w n next : ℕ) → ((others : ℕ) → m ≡ max others w → next ≡ max others n)
    → m ≡ longest room (xs ++ (old ++ ys)) → w ≡ longest room old → n ≡ longest room new → next ≡ longest room (xs ++ (new ++ ys))
longest_changed room xs old new ys m w n next after e f g =
    after (max (longest room xs) (longest room ys)) (omega (arith, e, f, longest_parts room xs old ys))
    ∙ omega (arith, g, longest_parts room xs new ys)

pub total_with : (xs new ys : List Run) (m n : ℕ) → m ≡ total (xs ++ ys) % 2 ^ 32 → n ≡ total new % 2 ^ 32 → (m + n) % 2 ^ 32 ≡ total (xs ++ (new ++ ys)) % 2 ^ 32
total_with xs new ys m n e f = omega (arith, e, f, total-append xs ys, total_parts xs new ys)

pub total_changed : (xs old new ys : List Run) (m w n : ℕ) → m ≡ total (xs ++ (old ++ ys)) % 2 ^ 32 → w ≡ total old % 2 ^ 32 → n ≡ total new % 2 ^ 32
    → ((m + (2 ^ 32 - w)) % 2 ^ 32 + n) % 2 ^ 32 ≡ total (xs ++ (new ++ ys)) % 2 ^ 32
total_changed xs old new ys m w n e f g = omega (arith, e, f, g, total_parts xs old ys, total_parts xs new ys)
