-- More pages of what is wrong with a script.
use Rattle.std.proofs.Common.{◌≡◌, ℕ, Bool, List, [], ◌∷◌, ◌++◌, Option, None, Some, Result, Ok, Err, refl, sym, ap, ◌∙◌, subst, append_assoc}
use Rattle.std.specs.Prelude.{◌||◌}
use Rattle.std.proofs.Math.Bool.{or_assoc, or-false}
use Rattle.std.proofs.lemmas.List.{append-nil}
use Rattle.std.proofs.lemmas.Grind.{flat_map-append}
use Rattle.std.specs.List.{flat_map}
use Rattle.script_steps.proofs.Feeds.{each_append}
use Rattle.macro_operands.specs.declared.faults.FaultKind.{FaultKind}
use Rattle.macro_statements.specs.Requests.{Act, Asked}
use Rattle.vsm_model.specs.declared.limits.Settings.{Settings}
use Rattle.vsm_model.specs.declared.replies.Reply.{Reply}
use Rattle.vsm_model.specs.Names.{NamedState}
use Rattle.vsm_model.specs.Standing.{Bench, Standing, nothing_stands}
use Rattle.bench_core.specs.Refusal.{Refusal}
use Rattle.script_steps.specs.Output.{Marked, alone_now, responded, stands_after, stands_all, stands_with}
use Rattle.script_steps.specs.Taken.{AreAsked, Brings, IsAskedBy, Led, answers_of}
use Rattle.script_steps.specs.declared.responses.Response.{Response}
use Rattle.script_steps.proofs.Standings.{stands_for, stands_push}
use Rattle.text_output.specs.Writing.{Holds}
use Rattle.text_output.specs.declared.writing.Gathered.{Gathered}
use Rattle.explain_faults.specs.declared.lines.SourceLine.{SourceLine}
use Rattle.explain_findings.specs.Endings.{name_used}
use Rattle.explain_check.specs.Checked.{CheckPage, HoldsChecks, IsCheckPage, PutsPage, answers_checked, checked, lines_checked, AreSaid, rows_text, said_in}
use Rattle.explain_list.specs.Pages.{fault_asked, fault_of, fault_told, one_of}
use Rattle.explain_list.specs.Rows.{AreMarksOf, Mark}
use Rattle.explain_list.proofs.Answered.{fault_is, taken, taken_is}
use Rattle.explain_check.specs.Findings.{OnLine, finds_wrong, found_by, found_of, found_told, is_wrong, name_by, name_of, name_told}
use Rattle.explain_check.specs.Lines.{CheckLine, Manner, PutsChecks, Said, check_row, head_in, refusal_in, refusal_told, refusals_of}
use Rattle.explain_check.specs.Reasons.{IsSaidOf, IsSaidTo}
use Rattle.explain_check.proofs.Said.{refusals_push}

answers_push : (xs ys : List CheckPage) → answers_checked (xs ++ ys) ≡ answers_checked xs ++ answers_checked ys
answers_push [] ys = refl
answers_push (checked lines m said ∷ xs) ys =
    ap (λ t. one_of m ++ t) (answers_push xs ys) ∙ sym (append_assoc (one_of m) (answers_checked xs) (answers_checked ys))

lines_push : (xs ys : List CheckPage) → lines_checked (xs ++ ys) ≡ lines_checked xs ++ lines_checked ys
lines_push [] ys = refl
lines_push (checked lines m said ∷ xs) ys =
    ap (λ t. lines ++ t) (lines_push xs ys) ∙ sym (append_assoc lines (lines_checked xs) (lines_checked ys))

said_push : (xs ys : List CheckPage) → said_in (xs ++ ys) ≡ said_in xs ++ said_in ys
said_push [] ys = refl
said_push (checked lines m said ∷ xs) ys = ap (λ t. said ++ t) (said_push xs ys) ∙ sym (append_assoc said (said_in xs) (said_in ys))

-- what is said of answers, some after others
said_more : (settings : Settings) (l : Standing Act Reply) (xs ys : List Marked) (ss ts : List Said) → AreSaid settings l xs ss
    → AreSaid settings (stands_all settings l xs) ys ts → AreSaid settings l (xs ++ ys) (ss ++ ts)
said_more settings l [] ys ss ts none h = subst (λ (k : List Said). AreSaid settings l ys (k ++ ts)) (sym none) h
said_more settings l (x ∷ xs) ys ss ts (its, rest, is, one, more) h = (
  its,
  rest ++ ts,
  ap (λ (t : List Said). t ++ ts) is ∙ append_assoc its rest ts,
  one,
  said_more settings (stands_after settings l x) xs ys rest ts more h,
)

-- that of a line is by what its statement asked for
said_to : (settings : Settings) (l : Standing Act Reply) (unmet : Bool) (what : Result Asked FaultKind) (number : ℕ) (asked : Asked) (m : NamedState) (said : List Said)
    → IsAskedBy asked what → m ≡ alone_now settings (stands_with settings l unmet what) → IsSaidOf settings m asked (refusal_in number (responded settings l unmet what)) said
    → IsSaidTo settings (alone_now settings (stands_with settings l unmet what)) what (refusal_in number (responded settings l unmet what)) said
said_to settings l unmet (Err kind) number asked m said is stands h = h
said_to settings l unmet (Ok x) number asked m said (same, valid) stands h =
    let refused = refusal_in number (responded settings l unmet (Ok x)) in
    subst (λ n. IsSaidOf settings n x refused said) stands (subst (λ y. IsSaidOf settings m y refused said) same h)

said_is : (settings : Settings) (answers more : List Marked) (b : Bench NamedState) (told : Option (ℕ × Response)) (asked : Asked) (said : List Said) → Brings settings answers more told
    → AreAsked asked (answers_of more) → Led settings (answers ++ more) b → IsSaidOf settings b.present asked (refusal_told told) said
    → AreSaid settings (stands_all settings nothing_stands answers) more said
said_is settings answers [] b None asked said brings asks led h = h
said_is settings answers (m ∷ []) b (Some told) asked said brings asks led h =
    let l = stands_all settings nothing_stands answers in
    let s = stands_for settings (answers ++ m ∷ []) b led in (
      said,
      [],
      sym (append-nil said),
      said_to settings l m.unmet m.answer.what m.answer.line asked b.present said asks.0 (s.present ∙ ap (alone_now settings) (stands_push settings nothing_stands answers (m ∷ [])))
          (subst (λ (r : Option (ℕ × Response)). IsSaidOf settings b.present asked r said) (λ i. refusal_in (brings.0 i) (brings.1 i)) h),
      refl,
    )
said_is settings answers [] b (Some told) asked said brings asks led h = absurd brings
said_is settings answers (m ∷ []) b None asked said brings asks led h = absurd brings
said_is settings answers (m ∷ n ∷ ms) b None asked said brings asks led h = absurd brings
said_is settings answers (m ∷ n ∷ ms) b (Some told) asked said brings asks led h = absurd brings

-- the name that its statement uses is the one by what it asked for
name_is : (what : Result Asked FaultKind) (asked : Asked) → IsAskedBy asked what → name_by (fault_asked what) asked ≡ name_of what
name_is (Ok x) asked (same, valid) = ap name_used same
name_is (Err kind) asked is = refl

-- and so what is found of it is that of its line
found_is : (settings : Settings) (found : ℕ → OnLine) (answers more : List Marked) (told : Option (ℕ × Response)) (asked : Asked) → Brings settings answers more told
    → AreAsked asked (answers_of more) → found_by (name_told told asked) (found_told found told) ≡ found_of found (taken more)
found_is settings found answers [] None asked brings asks = refl
found_is settings found answers (m ∷ []) (Some told) asked brings asks =
    let named : name_told (Some told) asked ≡ name_of m.answer.what =
    ap (λ k. name_by k asked) (fault_is settings answers (m ∷ []) (Some told) brings) ∙ name_is m.answer.what asked asks.0 in
    (λ i. found_by (named i) (found (brings.0 i)))
found_is settings found answers [] (Some told) asked brings asks = absurd brings
found_is settings found answers (m ∷ []) None asked brings asks = absurd brings
found_is settings found answers (m ∷ n ∷ ms) None asked brings asks = absurd brings
found_is settings found answers (m ∷ n ∷ ms) (Some told) asked brings asks = absurd brings

-- whether it's wrong
wrong_push : (found : ℕ → OnLine) (xs ys : List Marked) → finds_wrong found (xs ++ ys) ≡ (finds_wrong found xs || finds_wrong found ys)
wrong_push found [] ys = refl
wrong_push found (x ∷ xs) ys =
    ap (λ b. is_wrong (found x.answer.line) || b) (wrong_push found xs ys)
    ∙ sym (or_assoc (is_wrong (found x.answer.line)) (finds_wrong found xs) (finds_wrong found ys))

wrong_of : (settings : Settings) (found : ℕ → OnLine) (answers more : List Marked) (told : Option (ℕ × Response)) → Brings settings answers more told
    → is_wrong (found_told found told) ≡ finds_wrong found more
wrong_of settings found answers [] None brings = refl
wrong_of settings found answers (m ∷ []) (Some told) brings =
    ap (λ n. is_wrong (found n)) brings.0 ∙ sym (or-false (is_wrong (found m.answer.line)))
wrong_of settings found answers [] (Some told) brings = absurd brings
wrong_of settings found answers (m ∷ []) None brings = absurd brings
wrong_of settings found answers (m ∷ n ∷ ms) None brings = absurd brings
wrong_of settings found answers (m ∷ n ∷ ms) (Some told) brings = absurd brings

pub wrong_more : (settings : Settings) (found : ℕ → OnLine) (answers more : List Marked) (told : Option (ℕ × Response)) (wrong its both : Bool) → Brings settings answers more told
    → wrong ≡ finds_wrong found answers → its ≡ is_wrong (found_told found told) → both ≡ (wrong || its) → both ≡ finds_wrong found (answers ++ more)
wrong_more settings found answers more told wrong its both brings before is either =
    either ∙ (λ i. before i || (is ∙ wrong_of settings found answers more told brings) i) ∙ sym (wrong_push found answers more)

-- another page
pub holds_checks : (settings : Settings) (manner : Manner) (script : List ℕ) (found : ℕ → OnLine) (first old now : Option (List ℕ)) (before after : Gathered) (answers : List Marked) (lines shown : List SourceLine)
    (m : Option Marked) (marks : List Mark) (refused : List Said) → AreMarksOf script shown (fault_of m) marks
    → AreSaid settings (stands_all settings nothing_stands answers) (one_of m) refused → PutsChecks manner marks refused (found_of found m) old now before after
    → HoldsChecks settings script manner found first old before answers lines → HoldsChecks settings script manner found first now after (answers ++ one_of m) (lines ++ shown)
holds_checks settings manner script found first old now before after answers lines shown m marks refused are its (said, is, faults, refusals, finds, p) (pages, (same, has, each, all_said), h) =
    let page : CheckPage = checked shown m said in
    let all : said_in (pages ++ page ∷ []) ≡ said_in pages ++ said =
    said_push pages (page ∷ []) ∙ ap (λ t. said_in pages ++ t) (append-nil said) in
    let both : refusals_of (said_in (pages ++ page ∷ [])) ≡ refusals_of (said_in pages) ++ refused =
    ap refusals_of all ∙ refusals_push (said_in pages) said ∙ ap (λ t. refusals_of (said_in pages) ++ t) refusals in (
      pages ++ page ∷ [],
      (
        answers_push pages (page ∷ []) ∙ (λ i. same i ++ append-nil (one_of m) i),
        lines_push pages (page ∷ []) ∙ (λ i. has i ++ append-nil shown i),
        each_append (IsCheckPage script found) pages (page ∷ []) each ((is, (marks, are, faults), finds), tt),
        subst (AreSaid settings nothing_stands (answers ++ one_of m)) (sym both)
            (said_more settings nothing_stands answers (one_of m) (refusals_of (said_in pages)) refused all_said its),
      ),
      subst (Holds first now after)
          (append_assoc (head_in manner.form) (flat_map (check_row manner) (said_in pages)) (flat_map (check_row manner) said)
          ∙ ap (λ t. head_in manner.form ++ t) (sym (ap (flat_map (check_row manner)) all ∙ flat_map-append (check_row manner) (said_in pages) said)))
          (p first (rows_text manner pages) h),
    )

-- and the first, on the file
pub holds_file : (settings : Settings) (manner : Manner) (script : List ℕ) (found : ℕ → OnLine) (first old now : Option (List ℕ)) (before after : Gathered) → PutsChecks manner [] [] [] old now before after
    → Holds first old before (head_in manner.form) → HoldsChecks settings script manner found first now after [] []
holds_file settings manner script found first old now before after p h =
    holds_checks settings manner script found first old now before after [] [] [] None [] [] tt refl p
    ([], (refl, refl, tt, refl), subst (Holds first old before) (sym (append-nil (head_in manner.form))) h)

-- what is put of a page
pub page_under : (settings under : Settings) (manner : Manner) (found : ℕ → OnLine) (marks : List Mark) (b c : Bench NamedState) (asked : Asked) (told : Option (ℕ × Response)) (old now : Option (List ℕ)) (before after : Gathered)
    → under ≡ settings → b ≡ c → PutsPage under manner found marks b.present asked told old now before after → PutsPage settings manner found marks c.present asked told old now before after
page_under settings under manner found marks b c asked told old now before after e f h =
    subst (λ s. PutsPage s manner found marks c.present asked told old now before after) e (subst (λ (x : Bench NamedState). PutsPage under manner found marks x.present asked told old now before after) f h)

-- and that of a line, or of the end of a script
pub checks_page : (settings : Settings) (manner : Manner) (script : List ℕ) (found : ℕ → OnLine) (first old now : Option (List ℕ)) (before after : Gathered) (answers more : List Marked) (b : Bench NamedState)
    (told : Option (ℕ × Response)) (asked : Asked) (lines others : List SourceLine) (marks : List Mark) → Brings settings answers more told → AreAsked asked (answers_of more)
    → Led settings (answers ++ more) b → AreMarksOf script others (fault_told told) marks → PutsPage settings manner found marks b.present asked told old now before after
    → HoldsChecks settings script manner found first old before answers lines → HoldsChecks settings script manner found first now after (answers ++ more) (lines ++ others)
checks_page settings manner script found first old now before after answers more b told asked lines others marks brings asks led are (said, is, p) h =
    let same = taken_is settings answers more told brings in
    let l = stands_all settings nothing_stands answers in
    subst (λ ms. HoldsChecks settings script manner found first now after (answers ++ ms) (lines ++ others)) same
    (holds_checks settings manner script found first old now before after answers lines others (taken more) marks said
    (subst (λ k. AreMarksOf script others k marks) (fault_is settings answers more told brings) are)
    (subst (λ ms. AreSaid settings l ms said) (sym same) (said_is settings answers more b told asked said brings asks led is))
    (subst (λ fs. PutsChecks manner marks said fs old now before after) (found_is settings found answers more told asked brings asks) p) h)
