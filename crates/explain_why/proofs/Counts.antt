-- How many lines a session has taken, by the line feeds among their bytes.
use Rattle.std.proofs.Common.{◌≡◌, inl, inr, ℕ, ◌+◌, ◌-◌, ◌<◌, ◌≤◌, Bool, true, false, List, [], ◌∷◌, ◌++◌, length, take, drop, get_or, refl, sym, ap, ◌∙◌, arith}
use Rattle.std.specs.Prelude.{◌==◌}
use Rattle.std.specs.List.{flat_map, AllByRecursion}
use Rattle.std.proofs.Math.Seq.{take-add}
use Rattle.std.proofs.lemmas.Bool.Decides.{eqb_tells}
use Rattle.std.proofs.lemmas.List.{append-nil, get_or-drop, length-drop, take-append-drop, take_all, take_more}
use Rattle.vsm_model.specs.declared.limits.Settings.{Settings}
use Rattle.script_steps.specs.Output.{Marked}
use Rattle.script_steps.specs.Script.{IsLine, NoFeed, last_line, with_feed}
use Rattle.script_steps.specs.Steps.{IsLineOf}
use Rattle.script_steps.specs.Taken.{Took}
use Rattle.script_steps.specs.declared.session.Session.{Session}
use Rattle.explain_why.specs.Explained.{IsLineStart}
use Rattle.explain_why.specs.Faults.{HasLineCount}
use Rattle.explain_why.proofs.Found.{none_behind}

abbrev one_if : Bool → ℕ
one_if true = 1
one_if false = 0

abbrev feeds : List ℕ → ℕ
feeds [] = 0
feeds (c ∷ cs) = one_if (c == 10) + feeds cs

feeds_both : (xs ys : List ℕ) → feeds (xs ++ ys) ≡ feeds xs + feeds ys
feeds_both [] ys = omega arith
feeds_both (c ∷ cs) ys = let more = feeds_both cs ys in omega (arith, more)

feeds_none : (xs : List ℕ) → NoFeed xs → feeds xs ≡ 0
feeds_none [] h = refl
feeds_none (c ∷ cs) (ne, h) = elim (eqb_tells c 10) [
  | inl same ↦ absurd (ne same.1)
  | inr other ↦
      let rest = feeds_none cs h in
      let none : one_if (c == 10) ≡ 0 = ap one_if other.0 in omega (arith, rest, none)
]

feeds_lines : (lines : List (List ℕ)) → AllByRecursion IsLine lines → feeds (flat_map with_feed lines) ≡ length lines
feeds_lines [] each = refl
feeds_lines (line ∷ lines) (is, each) =
    let more = feeds_lines lines each in
    let both = feeds_both (line ++ 10 ∷ []) (flat_map with_feed lines) in
    let its = feeds_both line (10 ∷ []) in
    let none = feeds_none line is.0 in
    let one : feeds (10 ∷ []) ≡ 1 = refl in omega (arith, more, both, its, none, one)

pub lines_are : (settings : Settings) (given : List ℕ) (answers : List Marked) (s : Session) → Took settings given answers s → s.lines ≡ feeds given
lines_are settings given answers s t =
    let front = flat_map with_feed t.lines in
    let cut = ap (λ (xs : List ℕ). feeds xs) t.within.cut in
    let both = feeds_both front t.rest in
    let lines = feeds_lines t.lines t.within.each in
    let none = feeds_none t.rest t.within.unended.0 in omega (arith, t.count, cut, both, lines, none)

-- another line is one more line feed
one_more : (script : List ℕ) (at next : ℕ) → IsLineOf script at next → feeds (take next script) ≡ feeds (take at script) + 1
one_more script at next line =
    let n = next - 1 - at in
    let rest = drop at script in
    let size = length-drop at script in
    let inside : n < length rest = omega (arith, size, line.some, line.within) in
    let here : at + n ≡ next - 1 = omega (arith, line.some) in
    let all : next ≡ at + (n + 1) = omega (arith, line.some) in
    let feed : get_or rest n 0 ≡ 10 = get_or-drop at script n 0 ∙ ap (λ k. get_or script k 0) here ∙ line.feed in
    let cut : take next script ≡ take at script ++ (take n rest ++ 10 ∷ []) =
    ap (λ k. take k script) all ∙ take-add at (n + 1) script ∙ ap (λ xs. take at script ++ xs) (take_more rest n 0 inside ∙ ap (λ c. take n rest ++ c ∷ []) feed) in
    let count = ap (λ (xs : List ℕ). feeds xs) cut in
    let both = feeds_both (take at script) (take n rest ++ 10 ∷ []) in
    let its = feeds_both (take n rest) (10 ∷ []) in
    let none = feeds_none (take n rest) line.plain in
    let one : feeds (10 ∷ []) ≡ 1 = refl in omega (arith, count, both, its, none, one)

pub line_more : (settings : Settings) (script : List ℕ) (at next : ℕ) (answers more : List Marked) (old new : Session) → IsLineOf script at next →
    Took settings (take at script) answers old → Took settings (take next script) more new → new.lines ≡ old.lines + 1
line_more settings script at next answers more old new line before after =
    let was = lines_are settings (take at script) answers old before in
    let is = lines_are settings (take next script) more new after in
    let count = one_more script at next line in omega (arith, was, is, count)

pub none_yet : (settings : Settings) (answers : List Marked) (s : Session) → Took settings [] answers s → s.lines ≡ 0
none_yet settings answers s t = lines_are settings [] answers s t

-- ---- all lines of a script

plain_lines : (lines : List (List ℕ)) → AllByRecursion IsLine lines → AllByRecursion NoFeed lines
plain_lines [] each = tt
plain_lines (line ∷ lines) (is, each) = (is.0, plain_lines lines each)

one_last : (xs : List ℕ) → 0 < length xs → length (last_line xs) ≡ 1
one_last [] some = absurd (omega (arith, some))
one_last (x ∷ xs) some = refl

module _ (settings : Settings) (script : List ℕ) (at : ℕ) (answers : List Marked) (s : Session) (within : at ≤ length script) (start : IsLineStart script at)
    (took : Took settings (take at script) answers s) where
  pub no_rest : took.rest ≡ []
  no_rest = none_behind script at (flat_map with_feed took.lines) took.rest within start took.within.cut took.within.unended.0

  front_is : take at script ≡ flat_map with_feed took.lines
  front_is = took.within.cut ∙ ap (λ xs. flat_map with_feed took.lines ++ xs) no_rest ∙ append-nil (flat_map with_feed took.lines)

  pub count_at_end : length script ≤ at → HasLineCount script s.lines
  count_at_end end = record {
    lines = took.lines;
    rest = [];
    cut = sym (take_all at script end) ∙ front_is ∙ sym (append-nil (flat_map with_feed took.lines));
    each = plain_lines took.lines took.within.each;
    plain = tt;
    count = omega (arith, took.count);
  }

  pub count_at_last : at < length script → NoFeed (drop at script) → HasLineCount script (s.lines + 1)
  count_at_last some plain =
      let size = length-drop at script in
      let last = one_last (drop at script) (omega (arith, size, some)) in
      record {
        lines = took.lines;
        rest = drop at script;
        cut = sym (take-append-drop at script) ∙ ap (λ xs. xs ++ drop at script) front_is;
        each = plain_lines took.lines took.within.each;
        plain = plain;
        count = omega (arith, took.count, last);
      }
