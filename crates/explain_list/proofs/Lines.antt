-- Lines of a script that were taken, and what is before them.
use Rattle.std.proofs.Common.{◌≡◌, ◌≢◌, inl, inr, ℕ, zero, suc, ◌+◌, ◌-◌, ◌<◌, ◌≤◌, List, [], ◌∷◌, ◌++◌, length, take, drop, get_or, Some, Ok, refl, sym, ap, subst, ◌∙◌, arith, zero-add, append_assoc}
use Rattle.std.proofs.lemmas.List.{append-nil, length-append, length-drop, length-take-le, take_all}
use Rattle.std.specs.List.{flat_map, AllByRecursion}
use Rattle.vsm_model.specs.declared.limits.Settings.{Settings}
use Rattle.script_steps.specs.Output.{Marked}
use Rattle.script_steps.specs.Script.{NoFeed, IsLine, with_feed}
use Rattle.script_steps.specs.Steps.{StepsOver}
use Rattle.script_steps.specs.Taken.{Took}
use Rattle.script_steps.specs.declared.session.Session.{Session}
use Rattle.script_steps.specs.declared.steps.Step.{Step}
use Rattle.explain_faults.specs.declared.lines.SourceLine.{SourceLine}
use Rattle.explain_list.specs.Pages.{TakesLast, line_of, open_of, shown_of}
use Rattle.explain_list.specs.Pages.{AreAllLines, AreFirstLines, Follow, IsLineStart}
use Rattle.explain_list.specs.Rows.{IsLineAt}
use Rattle.explain_list.specs.declared.pages.ListingPage.{ListingPage}

each_at : (xs : List ℕ) (n : ℕ) → n < length xs → NoFeed xs → get_or xs n 0 ≢ 10
each_at [] n inside h = absurd (omega arith)
each_at (x ∷ xs) zero inside h = h.0
each_at (x ∷ xs) (suc n) inside h = each_at xs n (omega arith) h.1

at_behind : (xs ys : List ℕ) (n : ℕ) → get_or (xs ++ ys) (length xs + n) 0 ≡ get_or ys n 0
at_behind [] ys n = ap (λ (k : ℕ). get_or ys k 0) (zero-add n)
at_behind (x ∷ xs) ys n =
    let more : length (x ∷ xs) + n ≡ suc (length xs + n) = omega arith in ap (λ (k : ℕ). get_or (x ∷ (xs ++ ys)) k 0) more ∙ at_behind xs ys n

at_front : (n i : ℕ) (xs : List ℕ) → i < n → get_or (take n xs) i 0 ≡ get_or xs i 0
at_front zero i xs h = absurd (omega arith)
at_front (suc n) i [] h = refl
at_front (suc n) zero (x ∷ xs) h = refl
at_front (suc n) (suc i) (x ∷ xs) h = at_front n i xs (omega arith)

-- a text whose last byte is a line feed has no other text without one at its end
none_behind : (script : List ℕ) (at : ℕ) (front rest : List ℕ) → at ≤ length script → IsLineStart script at → take at script ≡ front ++ rest → NoFeed rest → rest ≡ []
none_behind script at front [] inside start cut plain = refl
none_behind script at front (r ∷ rs) inside start cut plain =
    let size : length (take at script) ≡ at = length-take-le at script inside in
    let both = length-append front (r ∷ rs) in
    let total : at ≡ length front + suc (length rs) = omega (arith, size, ap (λ (xs : List ℕ). length xs) cut, both) in
    elim start [
      | inl none ↦ absurd (omega (arith, total, none))
      | inr feed ↦
          let last : at - 1 ≡ length front + length rs = omega (arith, total) in
          absurd (each_at (r ∷ rs) (length rs) (omega arith) plain
          (sym (at_behind front (r ∷ rs) (length rs)) ∙ ap (λ xs. get_or xs (length front + length rs) 0) (sym cut)
          ∙ at_front at (length front + length rs) script (omega (arith, total)) ∙ ap (λ k. get_or script k 0) (sym last) ∙ feed))
    ]

pub each_plain : (lines : List (List ℕ)) → AllByRecursion IsLine lines → AllByRecursion NoFeed lines
each_plain [] h = tt
each_plain (line ∷ lines) h = (h.0.0, each_plain lines h.1)

module _ (settings : Settings) (script : List ℕ) (at : ℕ) (answers : List Marked) (s : Session) where
  -- whole lines precede a line that begins there
  pub lines_before : (took : Took settings (take at script) answers s) → IsLineStart script at → at ≤ length script
      → take at script ≡ flat_map with_feed took.lines
  lines_before took start inside =
      took.within.cut
      ∙ ap (λ r. flat_map with_feed took.lines ++ r) (none_behind script at (flat_map with_feed took.lines) took.rest inside start took.within.cut took.within.unended.0)
      ∙ append-nil (flat_map with_feed took.lines)

  -- a line that was taken in a step
  pub step_line : (number : ℕ) (step : Step) → Took settings (take at script) answers s → IsLineStart script at → at ≤ length script
      → (s.lines ≤ 1048576 → number ≡ s.lines + 1) → StepsOver script at (Ok (Some step)) → IsLineAt script (line_of number step)
  step_line number step took start inside is (begins, over) = record {
    before = took.lines;
    each = each_plain took.lines took.within.each;
    few = took.within.few;
    number = omega (arith, is (omega (arith, took.count, took.within.few)), took.count);
    starts = ap (λ k. take k script) begins ∙ lines_before took start inside;
    order = omega (arith, begins, over.some);
    within = omega (arith, over.within);
    plain = subst (λ k. NoFeed (take (step.next - 1 - k) (drop k script))) (sym begins) over.plain;
    ends = inr over.feed;
  }

  -- and what follows the last line feed
  pub rest_line : (line : SourceLine) → Took settings (take at script) answers s → IsLineStart script at → at ≤ length script
      → line.start ≡ at → line.end ≡ length script → (s.lines ≤ 1048576 → line.number ≡ s.lines + 1) → NoFeed (drop at script) → IsLineAt script line
  rest_line line took start inside begins ends is plain = record {
    before = took.lines;
    each = each_plain took.lines took.within.each;
    few = took.within.few;
    number = omega (arith, is (omega (arith, took.count, took.within.few)), took.count);
    starts = ap (λ k. take k script) begins ∙ lines_before took start inside;
    order = omega (arith, begins, ends);
    within = omega (arith, ends);
    plain =
        let size = length-drop at script in
        subst NoFeed (sym ((λ i. take (ends i - begins i) (drop (begins i) script)) ∙ take_all (length script - at) (drop at script) (omega (arith, size)))) plain;
    ends = inl ends;
  }

-- lines that follow one another, and another line
pub follow_more : (from to next : ℕ) (xs : List SourceLine) (line : SourceLine) → Follow from xs to → line.start ≡ to → line.end + 1 ≡ next
    → Follow from (xs ++ line ∷ []) next
follow_more from to next [] line h begins ends = (begins ∙ sym h, ends)
follow_more from to next (x ∷ xs) line h begins ends = (h.0, follow_more (x.end + 1) to next xs line h.1 begins ends)

-- the first of them
follow_front : (from to : ℕ) (xs ys : List SourceLine) → Follow from (xs ++ ys) to → (m : ℕ) × Follow from xs m
follow_front from to [] ys h = (from, refl)
follow_front from to (x ∷ xs) ys h = let e = follow_front (x.end + 1) to xs ys h.1 in (e.0, (h.0, e.1))

pub first_lines : (to : ℕ) (xs ys : List SourceLine) → Follow 0 (xs ++ ys) to → AreFirstLines xs
first_lines to xs ys h = follow_front 0 to xs ys h

-- what is listed and what isn't shown yet, after a step
pub step_follow : (listed shown others old : List SourceLine) (line : SourceLine) (at next : ℕ) → shown ++ others ≡ old ++ line ∷ [] → line.start ≡ at → line.end + 1 ≡ next
    → Follow 0 (listed ++ old) at → Follow 0 ((listed ++ shown) ++ others) next
step_follow listed shown others old line at next is begins ends h =
    subst (λ ls. Follow 0 ls next) (append_assoc listed old (line ∷ []) ∙ ap (λ t. listed ++ t) (sym is) ∙ sym (append_assoc listed shown others))
    (follow_more 0 at next (listed ++ old) line h begins ends)

-- and at the end
pub end_follow : (script : List ℕ) (line : SourceLine) (old new : ListingPage) (listed others : List SourceLine) → TakesLast script line old new → others ≡ open_of new
    → Follow 0 (listed ++ open_of old) line.start → line.end ≡ length script → line.start ≤ line.end → AreAllLines script ((listed ++ shown_of new) ++ others)
end_follow script line old new listed others (inl (past, is)) same h ends order =
    let at : line.start ≡ length script = omega (arith, past, ends, order) in
    inl
    (subst (λ ls. Follow 0 ls (length script)) (ap (λ t. listed ++ t) (sym is) ∙ sym (append_assoc listed (shown_of new) (open_of new)) ∙ ap (λ t. (listed ++ shown_of new) ++ t) (sym same))
    (subst (λ k. Follow 0 (listed ++ open_of old) k) at h))
end_follow script line old new listed others (inr (within, is)) same h ends order =
    inr (
      line,
      (
        (listed ++ open_of old, ap (λ t. (listed ++ shown_of new) ++ t) same ∙ append_assoc listed (shown_of new) (open_of new) ∙ ap (λ t. listed ++ t) is ∙ sym (append_assoc listed (open_of old) (line ∷ []))),
        subst (λ ls. Follow 0 ls (line.end + 1)) (ap (λ t. (listed ++ shown_of new) ++ t) (sym same))
            (step_follow listed (shown_of new) (open_of new) (open_of old) line line.start (line.end + 1) is refl refl h),
        within,
        ends,
      ),
    )
