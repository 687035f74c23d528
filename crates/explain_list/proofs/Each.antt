-- Rows and lines that are put one after another.
use Rattle.std.proofs.Common.{◌≡◌, ℕ, Bool, true, false, List, [], ◌∷◌, ◌++◌, Option, refl, sym, ap, ◌∙◌, subst}
use Rattle.std.proofs.lemmas.List.{append-nil}
use Rattle.std.proofs.lemmas.List.Concat.{flat_map-cons}
use Rattle.std.proofs.lemmas.Grind.{flat_map-append}
use Rattle.std.specs.List.{flat_map, AllByRecursion}
use Rattle.explain_text.specs.declared.json.Form.{Form}
use Rattle.macro_operands.specs.declared.faults.FaultKind.{FaultKind}
use Rattle.script_steps.proofs.Feeds.{each_append}
use Rattle.text_output.specs.Writing.{Puts}
use Rattle.text_output.specs.declared.writing.Gathered.{Gathered}
use Rattle.text_output.proofs.Gathering.{puts_both, puts_none}
use Rattle.explain_faults.specs.declared.lines.SourceLine.{SourceLine}
use Rattle.explain_list.specs.Pages.{lost_by}
use Rattle.explain_list.specs.Rows.{AreMarksOf, PutsRows, IsLineAt, IsLineBefore, IsRowOf, Mark, lines_of, losses_of, marks_of, Row, row_in}
use Rattle.explain_list.specs.Rows.{source, lost, faulty, warned, on_file}

-- rows, and the lines of the script among them
lines_push : (xs ys : List Row) → lines_of (xs ++ ys) ≡ lines_of xs ++ lines_of ys
lines_push [] ys = refl
lines_push (source line ∷ xs) ys = ap (λ t. line ∷ t) (lines_push xs ys)
lines_push (lost line before ∷ xs) ys = ap (λ t. line ∷ t) (lines_push xs ys)
lines_push (faulty line place width kind words hint ∷ xs) ys = lines_push xs ys
lines_push (warned line place width words ∷ xs) ys = lines_push xs ys
lines_push (on_file words ∷ xs) ys = lines_push xs ys

-- and the carets
marks_push : (xs ys : List Row) → marks_of (xs ++ ys) ≡ marks_of xs ++ marks_of ys
marks_push [] ys = refl
marks_push (source line ∷ xs) ys = marks_push xs ys
marks_push (lost line before ∷ xs) ys = marks_push xs ys
marks_push (faulty line place width kind words hint ∷ xs) ys =
    ap (λ t. record { line = line; place = place; width = width; kind = kind } ∷ t) (marks_push xs ys)
marks_push (warned line place width words ∷ xs) ys = marks_push xs ys
marks_push (on_file words ∷ xs) ys = marks_push xs ys

-- and which of those lines aren't carried out
losses_push : (xs ys : List Row) → losses_of (xs ++ ys) ≡ losses_of xs ++ losses_of ys
losses_push [] ys = refl
losses_push (source line ∷ xs) ys = ap (λ t. false ∷ t) (losses_push xs ys)
losses_push (lost line before ∷ xs) ys = ap (λ t. true ∷ t) (losses_push xs ys)
losses_push (faulty line place width kind words hint ∷ xs) ys = losses_push xs ys
losses_push (warned line place width words ∷ xs) ys = losses_push xs ys
losses_push (on_file words ∷ xs) ys = losses_push xs ys

pub rows_no : (fm : Form) (script : List ℕ) (now : Option (List ℕ)) (g : Gathered) → PutsRows fm script [] [] [] now now g g
rows_no fm script now g = ([], tt, refl, refl, refl, puts_none now g)

pub row_one : (fm : Form) (script : List ℕ) (lines : List SourceLine) (losses : List Bool) (marks : List Mark) (old new : Option (List ℕ)) (f g : Gathered) (r : Row) → lines_of (r ∷ []) ≡ lines
    → losses_of (r ∷ []) ≡ losses → marks_of (r ∷ []) ≡ marks → IsRowOf script r → Puts old new f g (row_in fm script r) → PutsRows fm script lines losses marks old new f g
row_one fm script lines losses marks old new f g r same gone its is p =
    (r ∷ [], (is, tt), same, gone, its, subst (Puts old new f g) (sym (flat_map-cons (row_in fm script) r [] ∙ append-nil (row_in fm script r))) p)

pub rows_both : (fm : Form) (script : List ℕ) (xs ys : List SourceLine) (bs cs : List Bool) (ms ns : List Mark) (old mid new : Option (List ℕ)) (f g h : Gathered) → PutsRows fm script xs bs ms old mid f g
    → PutsRows fm script ys cs ns mid new g h → PutsRows fm script (xs ++ ys) (bs ++ cs) (ms ++ ns) old new f h
rows_both fm script xs ys bs cs ms ns old mid new f g h (rs, is, a, l, i, p) (ss, are, b, m, j, q) = (
  rs ++ ss,
  each_append (IsRowOf script) rs ss is are,
  lines_push rs ss ∙ (λ k. a k ++ b k),
  losses_push rs ss ∙ (λ k. l k ++ m k),
  marks_push rs ss ∙ (λ k. i k ++ j k),
  subst (Puts old new f h) (sym (flat_map-append (row_in fm script) rs ss))
      (puts_both old mid new f g h (flat_map (row_in fm script) rs) (flat_map (row_in fm script) ss) p q),
)

-- lines of the script as rows, the last of which perhaps isn't carried out
abbrev row_by : Bool → SourceLine → SourceLine → Row
row_by true before line = lost line before
row_by false before line = source line

abbrev pub rows_by : Bool → SourceLine → List SourceLine → List Row
rows_by gone before [] = []
rows_by gone before (line ∷ []) = row_by gone before line ∷ []
rows_by gone before (line ∷ next ∷ lines) = source line ∷ rows_by gone before (next ∷ lines)

row_by_is : (script : List ℕ) (gone : Bool) (before line : SourceLine) → IsLineAt script line → (gone ≡ true → IsLineBefore script line before) → IsRowOf script (row_by gone before line)
row_by_is script true before line at h = (at, h refl)
row_by_is script false before line at h = at

pub rows_by_are : (script : List ℕ) (gone : Bool) (before : SourceLine) (lines : List SourceLine) → AllByRecursion (IsLineAt script) lines
    → ((front : List SourceLine) (line : SourceLine) → lines ≡ front ++ line ∷ [] → gone ≡ true → IsLineBefore script line before)
    → AllByRecursion (IsRowOf script) (rows_by gone before lines)
rows_by_are script gone before [] h f = tt
rows_by_are script gone before (line ∷ []) h f = (row_by_is script gone before line h.0 (f [] line refl), tt)
rows_by_are script gone before (line ∷ next ∷ lines) h f =
    (h.0, rows_by_are script gone before (next ∷ lines) h.1 (λ front last e. f (line ∷ front) last (ap (λ t. line ∷ t) e)))

pub lines_of_rows : (gone : Bool) (before : SourceLine) (lines : List SourceLine) → lines_of (rows_by gone before lines) ≡ lines
lines_of_rows gone before [] = refl
lines_of_rows true before (line ∷ []) = refl
lines_of_rows false before (line ∷ []) = refl
lines_of_rows gone before (line ∷ next ∷ lines) = ap (λ t. line ∷ t) (lines_of_rows gone before (next ∷ lines))

pub losses_of_rows : (gone : Bool) (before : SourceLine) (lines : List SourceLine) → losses_of (rows_by gone before lines) ≡ lost_by gone lines
losses_of_rows gone before [] = refl
losses_of_rows true before (line ∷ []) = refl
losses_of_rows false before (line ∷ []) = refl
losses_of_rows gone before (line ∷ next ∷ lines) = ap (λ t. false ∷ t) (losses_of_rows gone before (next ∷ lines))

pub marks_of_rows : (gone : Bool) (before : SourceLine) (lines : List SourceLine) → marks_of (rows_by gone before lines) ≡ []
marks_of_rows gone before [] = refl
marks_of_rows true before (line ∷ []) = refl
marks_of_rows false before (line ∷ []) = refl
marks_of_rows gone before (line ∷ next ∷ lines) = marks_of_rows gone before (next ∷ lines)

-- the carets among rows with these lines
pub rows_marks : (script : List ℕ) (kind : Option FaultKind) (rows : List Row) (lines : List SourceLine) (marks : List Mark) → lines_of rows ≡ lines → marks_of rows ≡ marks
    → AreMarksOf script lines kind marks → AreMarksOf script (lines_of rows) kind (marks_of rows)
rows_marks script kind rows lines marks has its h =
    subst (λ ls. AreMarksOf script ls kind (marks_of rows)) (sym has) (subst (AreMarksOf script lines kind) (sym its) h)
