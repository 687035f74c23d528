-- Columns 1 to 71 of a line of a text, by where it is there.
use Rattle.std.proofs.Common.{◌≡◌, inl, inr, ℕ, ◌+◌, ◌-◌, ◌<◌, ◌≤◌, Bool, true, false, nat_lt, List, length, take, drop, replicate, sym, ap, ◌∙◌, arith, length-drop, take-take, take_all}
use Rattle.std.specs.Prelude.{if◌then◌else◌}
use Rattle.std.proofs.lemmas.List.{length-take-le, take-append-le}
use Rattle.std.proofs.lemmas.Bool.{cases_lt, le-ltb, lt-ltb}
use Rattle.std.specs.Str.Lines.{strip_carriage_return}
use Rattle.macro_reader.specs.Columns.{Line, used}
use Rattle.script_steps.specs.Script.{columns}
use Rattle.explain_faults.specs.Places.{card_in, line_in}
use Rattle.explain_faults.specs.declared.lines.SourceLine.{SourceLine}
use Rattle.explain_why.specs.Ahead.{IsReadAs}

-- they're among its first 80
used_front : (x : List ℕ) → used (take 80 x) ≡ used x
used_front x = elim (cases_lt (length x) 80) [
  | inl less ↦ ap used (take_all 80 x (omega (arith, less)))
  | inr more ↦
      let some = length-take-le 80 x more in
      take-append-le 71 (take 80 x) (replicate 71 32) (omega (arith, some)) ∙ take-take 71 80 x (omega arith)
      ∙ sym (take-append-le 71 x (replicate 71 32) (omega (arith, more)))
]

module _ (text : List ℕ) (at size number : ℕ) (inside : at ≤ length text) where
  abbrev its : SourceLine
  its = record { number = number; start = at; end = at + size }

  abbrev part : List ℕ
  part = take size (drop at text)

  whole : take ((at + size) - at) (drop at text) ≡ part
  whole = (let same : (at + size) - at ≡ size = omega arith in ap (λ (n : ℕ). take n (drop at text)) same)

  line_by : (b : Bool) → nat_lt (at + size) (length text) ≡ b → line_in text its ≡ (if b then strip_carriage_return part else part)
  line_by b e =
      ap (λ (t : Bool). if t then strip_carriage_return (take ((at + size) - at) (drop at text)) else take ((at + size) - at) (drop at text)) e
      ∙ ap (λ (l : List ℕ). if b then strip_carriage_return l else l) whole

  fed : (line : Line) → size < length (drop at text) → line ≡ columns part → card_in text its ≡ used line
  fed line less is =
      let all = length-drop at text in
      ap used (line_by true (lt-ltb (at + size) (length text) (omega (arith, less, all, inside))))
      ∙ sym (used_front (strip_carriage_return part)) ∙ ap used (sym is)

  ended : (line : Line) → size ≡ length (drop at text) → line ≡ take 80 (drop at text) → card_in text its ≡ used line
  ended line same is =
      let all = length-drop at text in
      ap used (line_by false (le-ltb (at + size) (length text) (omega (arith, same, all, inside))))
      ∙ ap used (take_all size (drop at text) (omega (arith, same))) ∙ sym (used_front (drop at text)) ∙ ap used (sym is)

  pub card_is : (line : Line) → size ≤ length (drop at text) → IsReadAs (drop at text) size line → card_in text its ≡ used line
  card_is line within is = elim (cases_lt size (length (drop at text))) [
    | inl less ↦ fed line less (is.0 less)
    | inr more ↦ (let same : size ≡ length (drop at text) = omega (arith, within, more) in ended line same (is.1 same))
  ]
