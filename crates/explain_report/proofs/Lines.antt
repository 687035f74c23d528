-- The lines of a script, one after the other.
use Rattle.std.proofs.Common.{◌≡◌, ℕ, ◌+◌, ◌-◌, ◌<◌, ◌==◌, Bool, true, false, not, if◌then◌else◌, List, [], ◌∷◌, ◌++◌, length, take, drop, slice_index, refl, sym, ap, ◌∙◌, arith}
use Rattle.std.proofs.lemmas.Bool.{ne_eqb}
use Rattle.std.proofs.lemmas.List.{take-append-drop, length-drop, get_or-drop}
use Rattle.std.proofs.lemmas.List.Concat.{flat_map-cons}
use Rattle.std.proofs.Math.Seq.{take-add}
use Rattle.std.specs.List.{flat_map, AllByRecursion}
use Rattle.vsm_model.specs.declared.limits.Settings.{Settings}
use Rattle.script_steps.specs.Output.{Marked}
use Rattle.script_steps.specs.Script.{NoFeed, IsLine, with_feed}
use Rattle.script_steps.specs.Steps.{IsLineOf}
use Rattle.script_steps.specs.Taken.{Took}
use Rattle.script_steps.specs.declared.session.Session.{Session}
use Rattle.script_steps.proofs.Feeds.{feed_behind}
use Rattle.explain_report.specs.Lines.{feeds, is_open, line_count, some_line}

pub feeds_both : (xs ys : List ℕ) → feeds (xs ++ ys) ≡ feeds xs + feeds ys
feeds_both [] ys = omega arith
feeds_both (x ∷ xs) ys = (let e = feeds_both xs ys in omega (arith, e))

open_both : (before : Bool) (xs ys : List ℕ) → is_open before (xs ++ ys) ≡ is_open (is_open before xs) ys
open_both before [] ys = refl
open_both before (x ∷ xs) ys = open_both (not (x == 10)) xs ys

abbrev one_if : Bool → ℕ
one_if b = if b then 1 else 0

pub plain_feeds : (xs : List ℕ) → NoFeed xs → feeds xs ≡ 0
plain_feeds [] h = refl
plain_feeds (x ∷ xs) h =
    let none : one_if (x == 10) ≡ 0 = ap one_if (ne_eqb x 10 h.0) in
    omega (arith, none, plain_feeds xs h.1)

plain_open : (x : ℕ) (xs : List ℕ) → NoFeed (x ∷ xs) → (before : Bool) → is_open before (x ∷ xs) ≡ true
plain_open x [] h before = ap not (ne_eqb x 10 h.0)
plain_open x (y ∷ xs) h before = plain_open y xs h.1 (not (x == 10))

plain_line : (xs : List ℕ) → NoFeed xs → one_if (is_open false xs) ≡ some_line xs
plain_line [] h = refl
plain_line (x ∷ xs) h = ap one_if (plain_open x xs h false)

feeds_lines : (lines : List (List ℕ)) → AllByRecursion IsLine lines → feeds (flat_map with_feed lines) ≡ length lines
feeds_lines [] h = refl
feeds_lines (l ∷ lines) h =
    let all = ap feeds (flat_map-cons with_feed l lines) ∙ feeds_both (with_feed l) (flat_map with_feed lines) in
    let one = feeds_both l (10 ∷ []) in
    omega (arith, all, one, plain_feeds l h.0.0, feeds_lines lines h.1)

-- how many lines a session took
pub took_feeds : (settings : Settings) (given : List ℕ) (answers : List Marked) (s : Session) → Took settings given answers s → s.lines ≡ feeds given
took_feeds settings given answers s h =
    let all = ap feeds h.within.cut ∙ feeds_both (flat_map with_feed h.lines) h.rest in
    omega (arith, h.count, all, feeds_lines h.lines h.within.each, plain_feeds h.rest h.within.unended.0)

-- the next line, with its line feed
module _ (script : List ℕ) (at next : ℕ) (h : IsLineOf script at next) where
  abbrev size : ℕ
  size = next - 1 - at

  next_line : take next script ≡ (take at script ++ take size (drop at script)) ++ 10 ∷ []
  next_line =
      let more : next ≡ at + (size + 1) = omega (arith, h.some) in
      let inside : size < length (drop at script) = omega (arith, length-drop at script, h.some, h.within) in
      let last : at + size ≡ next - 1 = omega (arith, h.some) in
      let feed : slice_index (drop at script) size ≡ 10 = get_or-drop at script size 0 ∙ ap (slice_index script) last ∙ h.feed in
      ap (λ k. take k script) more ∙ take-add at (size + 1) script ∙ sym (feed_behind (take at script) (drop at script) size inside feed)

  pub next_feeds : feeds (take next script) ≡ feeds (take at script) + 1
  next_feeds =
      let all = ap feeds next_line ∙ feeds_both (take at script ++ take size (drop at script)) (10 ∷ []) in
      let front = feeds_both (take at script) (take size (drop at script)) in
      omega (arith, all, front, plain_feeds (take size (drop at script)) h.plain)

  pub next_open : is_open false (take next script) ≡ false
  next_open = ap (is_open false) next_line ∙ open_both false (take at script ++ take size (drop at script)) (10 ∷ [])

-- the lines of a script, of which the rest is without a line feed
pub all_lines : (script : List ℕ) (at : ℕ) → NoFeed (drop at script) → is_open false (take at script) ≡ false
    → line_count script ≡ feeds script + some_line (drop at script)
all_lines script at plain between =
    let is : is_open false script ≡ is_open false (drop at script) =
    ap (is_open false) (sym (take-append-drop at script)) ∙ open_both false (take at script) (drop at script) ∙ ap (λ b. is_open b (drop at script)) between in
    ap (λ b. feeds script + one_if b) is ∙ ap (λ n. feeds script + n) (plain_line (drop at script) plain)
