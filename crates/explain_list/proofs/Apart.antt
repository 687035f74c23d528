-- No row begins with the mark of an answer.
use Rattle.std.proofs.Common.{◌≡◌, ◌≤◌, ◌<◌, ◌^◌, ◌+◌, ◌-◌, ◌%◌, ℕ, Bool, true, false, if◌then◌else◌, List, [], ◌∷◌, ◌++◌, codes, length, get_or, replicate, take, refl, sym, ap, ◌∙◌, arith, append_assoc}
use Rattle.std.specs.Fmt.{decimal}
use Rattle.std.proofs.lemmas.Fmt.{decimal_by_steps, length-decimal-le}
use Rattle.std.proofs.lemmas.List.{length-append, length-replicate}
use Rattle.explain_text.specs.Columns.{column}
use Rattle.explain_text.specs.Letters.{shown}
use Rattle.script_steps.specs.Responses.{is_refused}
use Rattle.explain_faults.specs.Places.{line_in}
use Rattle.explain_list.specs.Answers.{BeginsAsAnswer, mark_text}
use Rattle.explain_list.specs.Rows.{IsRowOf, Row, source, lost, faulty, warned, on_file, line_text, more_text, row_text}

-- the seventh and the eighth byte of a mark
seventh : (b : Bool) (rest : List ℕ) → get_or ((if b then codes "       ** " else codes "       -> ") ++ rest) 6 0 ≡ 32
seventh true rest = refl
seventh false rest = refl

eighth : (b : Bool) (rest : List ℕ) → 32 < get_or ((if b then codes "       ** " else codes "       -> ") ++ rest) 7 0
eighth true rest = omega arith
eighth false rest = omega arith

first : (b : Bool) (rest : List ℕ) → get_or ((if b then codes "       ** " else codes "       -> ") ++ rest) 0 0 ≡ 32
first true rest = refl
first false rest = refl

-- decimal digits end in a digit
record Ends (n : ℕ) (ds : List ℕ) : Type 0 where
  front : List ℕ
  digit : ℕ
  is : ds ≡ front ++ (48 + digit) ∷ []

ends : (n : ℕ) → n < 2 ^ 64 → Ends n (decimal n)
ends n small = decimal_by_steps Ends (λ n h. record { front = []; digit = n; is = refl }) (λ n ds ten h. record { front = ds; digit = n % 10; is = refl }) n small

after : (xs ys : List ℕ) (d : ℕ) → get_or (xs ++ (d ∷ ys)) (length xs) 0 ≡ d
after [] ys d = refl
after (x ∷ xs) ys d = after xs ys d

-- the seventh byte of a number in seven columns is a digit
digit_seventh : (n : ℕ) (rest : List ℕ) → n ≤ 1048577 → 48 ≤ get_or (column 7 n ++ rest) 6 0
digit_seventh n rest few =
    let e = ends n (omega arith) in
    let long : length (decimal n) ≤ 7 = length-decimal-le 7 n (omega arith) (omega arith) (omega arith) in
    let blanks = replicate (7 - length (decimal n)) 32 in
    let size : length (decimal n) ≡ length e.front + 1 = ap (λ (xs : List ℕ). length xs) e.is ∙ length-append e.front ((48 + e.digit) ∷ []) in
    let some : length (blanks ++ e.front) ≡ 6 = omega (arith, length-append blanks e.front, length-replicate {A = ℕ} (7 - length (decimal n)) 32, size, long) in
    let whole : column 7 n ++ rest ≡ (blanks ++ e.front) ++ ((48 + e.digit) ∷ rest) =
    ap (λ (ds : List ℕ). (blanks ++ ds) ++ rest) e.is ∙ ap (λ (xs : List ℕ). xs ++ rest) (sym (append_assoc blanks e.front ((48 + e.digit) ∷ [])))
    ∙ append_assoc (blanks ++ e.front) ((48 + e.digit) ∷ []) rest in
    let there : get_or (column 7 n ++ rest) 6 0 ≡ 48 + e.digit =
    ap (λ (xs : List ℕ). get_or xs 6 0) whole ∙ ap (λ (k : ℕ). get_or ((blanks ++ e.front) ++ ((48 + e.digit) ∷ rest)) k 0) (sym some)
    ∙ after (blanks ++ e.front) rest (48 + e.digit) in
    omega (arith, there)

line_apart : (n : ℕ) (mark line more : List ℕ) → n ≤ 1048577 → BeginsAsAnswer (line_text n mark line ++ more) → ⊥
line_apart n mark line more few (told, rest, is) =
    let tail = mark ++ (shown (take 80 line) ++ more_text line) in
    let whole : line_text n mark line ++ more ≡ column 7 n ++ (tail ++ more) = append_assoc (column 7 n) tail more in
    let digit = digit_seventh n (tail ++ more) few in
    let same : get_or (column 7 n ++ (tail ++ more)) 6 0 ≡ 32 = ap (λ (xs : List ℕ). get_or xs 6 0) (sym whole ∙ is) ∙ seventh (is_refused told) rest in
    omega (arith, digit, same)

pub rows_apart : (script : List ℕ) (r : Row) → IsRowOf script r → BeginsAsAnswer (row_text script r) → ⊥
rows_apart script (source line) at h = line_apart line.number (codes "  ") (line_in script line) _ (omega (arith, at.few, at.number)) h
rows_apart script (lost line before) at h = line_apart line.number (codes " x") (line_in script line) _ (omega (arith, at.0.few, at.0.number)) h
rows_apart script (faulty line place width kind words hint) at (told, rest, is) =
    let same : 32 ≡ get_or (mark_text told ++ rest) 7 0 = ap (λ (xs : List ℕ). get_or xs 7 0) is in
    omega (arith, same, eighth (is_refused told) rest)
rows_apart script (warned line place width words) at (told, rest, is) =
    let same : 32 ≡ get_or (mark_text told ++ rest) 7 0 = ap (λ (xs : List ℕ). get_or xs 7 0) is in
    omega (arith, same, eighth (is_refused told) rest)
rows_apart script (on_file words) at (told, rest, is) =
    let same : 87 ≡ get_or (mark_text told ++ rest) 0 0 = ap (λ (xs : List ℕ). get_or xs 0 0) is in
    omega (arith, same, first (is_refused told) rest)
