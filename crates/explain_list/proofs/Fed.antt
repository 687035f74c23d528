-- What a reader is fed: the lines of a script, by where they are in it.
use Rattle.std.proofs.Common.{◌≡◌, inl, inr, ℕ, ◌+◌, ◌-◌, ◌<◌, ◌≤◌, List, [], ◌∷◌, ◌++◌, length, map, take, drop, refl, sym, ap, subst, ◌∙◌, arith, append_assoc, take-append-drop, take-take}
use Rattle.std.specs.Prelude.{if◌then◌else◌}
use Rattle.std.proofs.lemmas.Bool.{le-ltb, lt-ltb}
use Rattle.std.proofs.lemmas.List.{append-nil, drop-take, length-drop, length-map, take_all, take_more}
use Rattle.std.proofs.lemmas.List.Concat.{flat_map-cons}
use Rattle.std.specs.List.{flat_map, AllByRecursion}
use Rattle.std.specs.Str.Lines.{strip_carriage_return}
use Rattle.vsm_model.specs.declared.limits.Settings.{Settings}
use Rattle.script_steps.specs.Output.{Marked}
use Rattle.script_steps.specs.Script.{NoFeed, Within, columns, last_line, with_feed}
use Rattle.script_steps.specs.Taken.{Took}
use Rattle.script_steps.specs.declared.session.Session.{Session}
use Rattle.explain_faults.specs.declared.lines.SourceLine.{SourceLine}
use Rattle.explain_list.specs.Groups.{fed_of}
use Rattle.explain_list.specs.Pages.{Follow, IsLineStart}
use Rattle.explain_list.specs.Rows.{IsLineAt}
use Rattle.explain_list.proofs.Lines.{each_plain, lines_before}

-- ---- a text is cut at its line feeds in one way

one_feed : (x y more less : List ℕ) → NoFeed x → NoFeed y → x ++ 10 ∷ more ≡ y ++ 10 ∷ less → (x ≡ y) × (more ≡ less)
one_feed [] [] more less h k e = (refl, cc)
one_feed [] (b ∷ y) more less h k e = (let bad : b ≡ 10 = cc in absurd (k.0 bad))
one_feed (a ∷ x) [] more less h k e = (let bad : a ≡ 10 = cc in absurd (h.0 bad))
one_feed (a ∷ x) (b ∷ y) more less h k e =
    let head : a ≡ b = cc in
    let tail : x ++ 10 ∷ more ≡ y ++ 10 ∷ less = cc in
    let rest = one_feed x y more less h.1 k.1 tail in
    ((λ i. head i ∷ rest.0 i), rest.1)

no_feed : (x more r : List ℕ) → NoFeed r → x ++ 10 ∷ more ≡ r → ⊥
no_feed [] more [] k e = cc
no_feed [] more (b ∷ r) k e = (let bad : b ≡ 10 = cc in k.0 bad)
no_feed (a ∷ x) more [] k e = cc
no_feed (a ∷ x) more (b ∷ r) k e = (let tail : x ++ 10 ∷ more ≡ r = cc in no_feed x more r k.1 tail)

cut_first : (x : List ℕ) (xs : List (List ℕ)) (r : List ℕ) → flat_map with_feed (x ∷ xs) ++ r ≡ x ++ 10 ∷ (flat_map with_feed xs ++ r)
cut_first x xs r =
    ap (λ t. t ++ r) (flat_map-cons with_feed x xs) ∙ append_assoc (with_feed x) (flat_map with_feed xs) r ∙ append_assoc x (10 ∷ []) (flat_map with_feed xs ++ r)

pub same_lines : (xs ys : List (List ℕ)) (r q : List ℕ) → AllByRecursion NoFeed xs → AllByRecursion NoFeed ys → NoFeed r → NoFeed q
    → flat_map with_feed xs ++ r ≡ flat_map with_feed ys ++ q → (xs ≡ ys) × (r ≡ q)
same_lines [] [] r q h k n m e = (refl, e)
same_lines [] (y ∷ ys) r q h k n m e = absurd (no_feed y (flat_map with_feed ys ++ q) r n (sym (cut_first y ys q) ∙ sym e))
same_lines (x ∷ xs) [] r q h k n m e = absurd (no_feed x (flat_map with_feed xs ++ r) q m (sym (cut_first x xs r) ∙ e))
same_lines (x ∷ xs) (y ∷ ys) r q h k n m e =
    let one = one_feed x y (flat_map with_feed xs ++ r) (flat_map with_feed ys ++ q) h.0 k.0 (sym (cut_first x xs r) ∙ e ∙ cut_first y ys q) in
    let rest = same_lines xs ys r q h.1 k.1 n m one.1 in
    ((λ i. one.0 i ∷ rest.0 i), rest.1)

some_line : (rest : List ℕ) → 0 < length rest → last_line rest ≡ take 80 rest ∷ []
some_line [] h = absurd (omega (arith, h))
some_line (x ∷ rest) h = refl

pub no_line : (rest : List ℕ) → length rest ≡ 0 → last_line rest ≡ []
no_line [] h = refl
no_line (x ∷ rest) h = absurd (omega (arith, h))

take_add : (xs : List ℕ) (m n : ℕ) → take (m + n) xs ≡ take m xs ++ take n (drop m xs)
take_add xs m n = sym (take-append-drop m (take (m + n) xs)) ∙ (λ i. take-take m (m + n) xs (omega arith) i ++ drop-take m n xs i)

-- ---- lines by where they are

module _ (script : List ℕ) where
  abbrev raw : SourceLine → List ℕ
  raw line = take (line.end - line.start) (drop line.start script)

  take_both : (m n : ℕ) → m ≤ n → take n script ≡ take m script ++ take (n - m) (drop m script)
  take_both m n h = (let same : m + (n - m) ≡ n = omega (arith, h) in ap (λ k. take k script) (sym same) ∙ take_add script m (n - m))

  -- a line with its line feed
  one_cut : (line : SourceLine) → IsLineAt script line → line.end < length script → take (line.end + 1) script ≡ take line.start script ++ with_feed (raw line)
  one_cut line at inside =
      elim at.ends [
        | inl e ↦ absurd (omega (arith, e, inside))
        | inr feed ↦
            take_more script line.end 0 inside
            ∙ ap (λ c. take line.end script ++ c ∷ []) feed
            ∙ ap (λ t. t ++ 10 ∷ []) (take_both line.start line.end at.order)
            ∙ append_assoc (take line.start script) (raw line) (10 ∷ [])
      ]

  follow_le : (from to : ℕ) (lines : List SourceLine) → AllByRecursion (IsLineAt script) lines → Follow from lines to → from ≤ to
  follow_le from to [] h f = omega (arith, f)
  follow_le from to (line ∷ lines) h f = omega (arith, f.0, h.0.order, follow_le (line.end + 1) to lines h.1 f.1)

  lines_cut : (from to : ℕ) (lines : List SourceLine) → AllByRecursion (IsLineAt script) lines → Follow from lines to → to ≤ length script
      → take to script ≡ take from script ++ flat_map with_feed (map raw lines)
  lines_cut from to [] h f inside = ap (λ k. take k script) (sym f) ∙ sym (append-nil (take from script))
  lines_cut from to (line ∷ lines) h f inside =
      let less : line.end < length script = omega (arith, inside, follow_le (line.end + 1) to lines h.1 f.1) in
      lines_cut (line.end + 1) to lines h.1 f.1 inside
      ∙ ap (λ t. t ++ flat_map with_feed (map raw lines)) (one_cut line h.0 less ∙ ap (λ k. take k script ++ with_feed (raw line)) f.0)
      ∙ append_assoc (take from script) (with_feed (raw line)) (flat_map with_feed (map raw lines))
      ∙ ap (λ t. take from script ++ t) (sym (flat_map-cons with_feed (raw line) (map raw lines)))

  fed_line : (line : SourceLine) → line.end < length script → fed_of script line ≡ columns (raw line)
  fed_line line less = ap (λ b. take 80 (if b then strip_carriage_return (raw line) else raw line)) (lt-ltb line.end (length script) less)

  fed_lines : (from to : ℕ) (lines : List SourceLine) → AllByRecursion (IsLineAt script) lines → Follow from lines to → to ≤ length script
      → map (fed_of script) lines ≡ map columns (map raw lines)
  fed_lines from to [] h f inside = refl
  fed_lines from to (line ∷ lines) h f inside =
      let less : line.end < length script = omega (arith, inside, follow_le (line.end + 1) to lines h.1 f.1) in
      let rest = fed_lines (line.end + 1) to lines h.1 f.1 inside in
      (λ i. fed_line line less i ∷ rest i)

  plain_lines : (lines : List SourceLine) → AllByRecursion (IsLineAt script) lines → AllByRecursion NoFeed (map raw lines)
  plain_lines [] h = tt
  plain_lines (line ∷ lines) h = (h.0.plain, plain_lines lines h.1)

  -- the number of the line after them
  pub number_of : (line : SourceLine) (lines : List SourceLine) → AllByRecursion (IsLineAt script) lines → Follow 0 lines line.start → IsLineAt script line
      → line.number ≡ length lines + 1
  number_of line lines h f at =
      let inside : line.start ≤ length script = omega (arith, at.order, at.within) in
      let same = same_lines at.before (map raw lines) [] [] at.each (plain_lines lines h) tt tt
      (append-nil (flat_map with_feed at.before) ∙ sym at.starts ∙ lines_cut 0 line.start lines h f inside ∙ sym (append-nil (flat_map with_feed (map raw lines)))) in
      at.number ∙ ap (λ (ls : List (List ℕ)). length ls + 1) same.0 ∙ ap (λ k. k + 1) (length-map lines raw)

  -- what a reader was fed of lines that were taken
  pub fed_took : (settings : Settings) (at : ℕ) (answers : List Marked) (s : Session) (took : Took settings (take at script) answers s) → IsLineStart script at → at ≤ length script
      → (lines : List SourceLine) → AllByRecursion (IsLineAt script) lines → Follow 0 lines at → map (fed_of script) lines ≡ map columns took.lines
  fed_took settings at answers s took start inside lines h f =
      let same = same_lines (map raw lines) took.lines [] [] (plain_lines lines h) (each_plain took.lines took.within.each) tt tt
      (append-nil (flat_map with_feed (map raw lines)) ∙ sym (lines_cut 0 at lines h f inside) ∙ lines_before settings script at answers s took start inside
      ∙ sym (append-nil (flat_map with_feed took.lines))) in
      fed_lines 0 at lines h f inside ∙ ap (map columns) same.0

  -- and of all of a script
  pub last_fed : (line : SourceLine) → IsLineAt script line → line.end ≡ length script → line.start < length script → last_line (drop line.start script) ≡ fed_of script line ∷ []
  last_fed line at ends less =
      let more = length-drop line.start script in
      let whole : raw line ≡ drop line.start script = take_all (line.end - line.start) (drop line.start script) (omega (arith, more, ends)) in
      let here : fed_of script line ≡ take 80 (drop line.start script) =
      ap (λ b. take 80 (if b then strip_carriage_return (raw line) else raw line)) (le-ltb line.end (length script) (omega (arith, ends))) ∙ ap (take 80) whole in
      some_line (drop line.start script) (omega (arith, more, less)) ∙ ap (λ l. l ∷ []) (sym here)

  pub fed_whole : (line : SourceLine) (lines : List SourceLine) (ls : List (List ℕ)) (rest : List ℕ) → Within script ls rest → AllByRecursion (IsLineAt script) lines
      → Follow 0 lines line.start → IsLineAt script line → line.end ≡ length script → (map (fed_of script) lines ≡ map columns ls) × (rest ≡ drop line.start script)
  fed_whole line lines ls rest within h f at ends =
      let inside : line.start ≤ length script = omega (arith, at.order, ends) in
      let more = length-drop line.start script in
      let plain : NoFeed (drop line.start script) =
      subst NoFeed (take_all (line.end - line.start) (drop line.start script) (omega (arith, more, ends))) at.plain in
      let same = same_lines (map raw lines) ls (drop line.start script) rest (plain_lines lines h) (each_plain ls within.each) plain within.unended.0
      (ap (λ t. t ++ drop line.start script) (sym (lines_cut 0 line.start lines h f inside)) ∙ take-append-drop line.start script ∙ within.cut) in
      (fed_lines 0 line.start lines h f inside ∙ ap (map columns) same.0, sym same.1)
