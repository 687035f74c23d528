-- The script from a line on, by the places at which lines begin.
use Rattle.std.proofs.Common.{◌≡◌, ℕ, zero, suc, ◌+◌, ◌-◌, ◌<◌, ◌≤◌, if◌then◌else◌, List, [], ◌∷◌, ◌++◌, length, take, drop, get_or, slice_index, refl, sym, ap, subst, ◌∙◌, arith}
use Rattle.std.proofs.lemmas.Bool.{eq-eqb, ne_eqb}
use Rattle.std.proofs.lemmas.List.{length-drop, get_or-drop, drop-drop}
use Rattle.script_steps.specs.Script.{NoFeed}
use Rattle.script_steps.specs.Steps.{IsLineOf}
use Rattle.explain_who.specs.ScriptLines.{after_feed, from_line, lines_on, LinesBegin}

nothing_on : (n : ℕ) → lines_on n [] ≡ []
nothing_on zero = refl
nothing_on (suc n) = nothing_on n

place_of : (script begins places : List ℕ) (n d : ℕ) → n < length places → LinesBegin script begins places [] → drop (get_or places n d) script ≡ lines_on n begins
place_of script begins [] n d short left = absurd (omega (arith, short))
place_of script begins (at ∷ places) zero d short (here, more) = here
place_of script begins (at ∷ places) (suc n) d short (here, more) = place_of script (after_feed begins) places n d (omega (arith, short)) more

none_on : (script begins places : List ℕ) (n : ℕ) → length places ≤ n → LinesBegin script begins places [] → lines_on n begins ≡ []
none_on script begins [] n past left = ap (lines_on n) left ∙ nothing_on n
none_on script begins (at ∷ places) zero past h = absurd (omega (arith, past))
none_on script begins (at ∷ places) (suc n) past (here, more) = none_on script (after_feed begins) places n (omega (arith, past)) more

-- The script from a line on is the script from its place on,
pub line_at : (script places : List ℕ) (line : ℕ) → 0 < line → line ≤ length places → LinesBegin script script places [] →
    drop (get_or places (line - 1) 0) script ≡ from_line script line
line_at script places zero some within h = absurd (omega (arith, some))
line_at script places (suc n) some within h =
    let same : suc n - 1 ≡ n = omega arith in
    ap (λ k. drop (get_or places k 0) script) same ∙ place_of script script places n 0 (omega (arith, within)) h

-- and nothing does if there is no such line.
pub no_such_line : (script places : List ℕ) (line : ℕ) → length places < line → LinesBegin script script places [] → from_line script line ≡ []
no_such_line script places zero past h = absurd (omega (arith, past))
no_such_line script places (suc n) past h = none_on script script places n (omega (arith, past)) h

-- another line begins
pub line_begins : (script begins places left : List ℕ) (at : ℕ) → LinesBegin script begins places left → drop at script ≡ left →
    LinesBegin script begins (places ++ at ∷ []) (after_feed left)
line_begins script begins [] left at is here = (here ∙ sym is, ap after_feed is)
line_begins script begins (p ∷ places) left at (first, more) here = (first, line_begins script (after_feed begins) places left at more here)

pub no_line : (bytes : List ℕ) → NoFeed bytes → after_feed bytes ≡ []
no_line [] plain = refl
no_line (c ∷ cs) (other, plain) = ap (λ t. if t then cs else after_feed cs) (ne_eqb c 10 other) ∙ no_line cs plain

feed_at : (bytes : List ℕ) (n : ℕ) → n < length bytes → NoFeed (take n bytes) → slice_index bytes n ≡ 10 → after_feed bytes ≡ drop (suc n) bytes
feed_at [] n short plain feed = absurd (omega (arith, short))
feed_at (c ∷ cs) zero short plain feed = ap (λ t. if t then cs else after_feed cs) (eq-eqb c 10 feed)
feed_at (c ∷ cs) (suc n) short (other, plain) feed =
    ap (λ t. if t then cs else after_feed cs) (ne_eqb c 10 other) ∙ feed_at cs n (omega (arith, short)) plain feed

-- The next line begins after the first line feed.
pub line_left : (script : List ℕ) (at next : ℕ) → IsLineOf script at next → after_feed (drop at script) ≡ drop next script
line_left script at next l =
    let n = next - 1 - at in
    let size = length-drop at script in
    let short : n < length (drop at script) = omega (arith, size, l.some, l.within) in
    let place : at + n ≡ next - 1 = omega (arith, l.some) in
    let here : slice_index (drop at script) n ≡ 10 = get_or-drop at script n 0 ∙ ap (slice_index script) place ∙ l.feed in
    let behind : at + suc n ≡ next = omega (arith, l.some) in
    feed_at (drop at script) n short l.plain here ∙ drop-drop (suc n) at script ∙ ap (λ k. drop k script) behind

-- The next line begins,
pub next_begins : (script places new : List ℕ) (at next : ℕ) → LinesBegin script script places (drop at script) → new ≡ places ++ at ∷ [] →
    IsLineOf script at next → LinesBegin script script new (drop next script)
next_begins script places new at next h is l =
    subst (λ ps. LinesBegin script script ps (drop next script)) (sym is)
    (subst (LinesBegin script script (places ++ at ∷ [])) (line_left script at next l) (line_begins script script places (drop at script) at h refl))

-- or it was the last one.
pub all_begin : (script places new : List ℕ) (at : ℕ) → LinesBegin script script places (drop at script) → new ≡ places ++ at ∷ [] →
    NoFeed (drop at script) → LinesBegin script script new []
all_begin script places new at h is plain =
    subst (λ ps. LinesBegin script script ps []) (sym is)
    (subst (LinesBegin script script (places ++ at ∷ [])) (no_line (drop at script) plain) (line_begins script script places (drop at script) at h refl))
