-- The pages of a line that was taken, and of the end of a script.
use Rattle.std.proofs.Common.{◌≡◌, inl, inr, ℕ, zero, suc, ◌+◌, ◌<◌, ◌≤◌, ◌&&◌, ◌||◌, ◌==◌, is_none, Bool, true, false, List, [], ◌∷◌, ◌++◌, length, map, replicate, take, drop, Option, Some, None, IfSome, Ok, Err, refl, sym, ap, subst, ◌∙◌, arith}
use Rattle.std.proofs.lemmas.List.{append-nil, length-drop, map-append, map_push}
use Rattle.std.specs.List.{AllByRecursion}
use Rattle.script_steps.proofs.Feeds.{each_push}
use Rattle.vsm_model.specs.declared.limits.Settings.{Settings}
use Rattle.macro_operands.specs.declared.faults.FaultKind.{FaultKind}
use Rattle.macro_operands.specs.declared.faults.FaultKind.TheVariants as kind
use Rattle.macro_reader.specs.Columns.{Line, used, is_continued, is_skipped}
use Rattle.macro_reader.specs.Continuation.{Joined, with_line}
use Rattle.macro_reader.specs.Roles.{IsStand, Role, breaking, first, further, further_role, role}
use Rattle.macro_reader.specs.Scripts.{Answer, Answers, Between, Mode, awaiting, behind_break, dropping, gathered_with, gathering, idle_with, moved}
use Rattle.macro_reader.specs.declared.reading.ReaderState.{ReaderState}
use Rattle.macro_reader.specs.declared.reading.ReaderState.TheVariants as stand
use Rattle.macro_reader.proofs.Readings.{one_reading}
use Rattle.script_steps.specs.Output.{Marked}
use Rattle.script_steps.specs.Script.{columns, last_line}
use Rattle.script_steps.specs.Steps.{StepsOver}
use Rattle.script_steps.specs.Taken.{Brings, EndBrings, Took, answers_of}
use Rattle.script_steps.specs.declared.lines.Ending.{Ending}
use Rattle.script_steps.specs.declared.responses.Response.{Response}
use Rattle.script_steps.specs.declared.session.Session.{Session}
use Rattle.script_steps.specs.declared.steps.Step.{Step}
use Rattle.explain_faults.specs.Places.{first_card, further_cards, HasFault}
use Rattle.explain_faults.specs.Roles.{brought_by, role_in}
use Rattle.explain_faults.specs.declared.lines.SourceLine.{SourceLine}
use Rattle.explain_faults.specs.declared.roles.Brought.{Brought}
use Rattle.explain_faults.specs.declared.roles.Role as code
use Rattle.explain_list.specs.Groups.{AreFurther, AreOpen, IsGroup, IsLastTaken, IsRoleBy, fed_of, roles_in}
use Rattle.explain_list.specs.Listing.{Carries, Groups}
use Rattle.explain_list.specs.Pages.{Follow, IsLineStart, IsWholePage, KeepsLast, KeepsLine, KeepsStep, brought_told, ends_lost, fault_asked, fault_of, fault_told, line_of, lost_by, open_of, shown_of, stand_at_end}
use Rattle.explain_list.specs.Rows.{IsLineAt}
use Rattle.explain_list.specs.declared.pages.ListingPage.{ListingPage}
use Rattle.explain_list.proofs.Answered.{brought_is, fault_is, taken}
use Rattle.explain_list.proofs.Fed.{fed_took, fed_whole, last_fed, no_line, number_of, same_lines}
use Rattle.explain_list.proofs.Lines.{each_plain, follow_more, step_line}
use Rattle.explain_list.proofs.Marked.{shown_none}
use Rattle.explain_list.proofs.Moved.{Moves, append_same, fed_none, line_moves, none_moves}
use Rattle.explain_list.proofs.Turns.{few_of, none_last, open_plain, stepped, whole_page}

-- What is shown after a line, or at the end, and what is kept for the lines after it.
pub record Paged (script : List ℕ) (listed : List SourceLine) (new : ListingPage) (mode : Mode) (told : Option (ℕ × Response)) (more : List Marked) : Type 0 where
  pub carries : Carries script (listed ++ shown_of new) new mode
  pub groups : Groups script listed new (taken more)
  pub whole : IsWholePage script (fault_told told) new

nil_of : {X : Type 0} (xs : List X) → length xs ≡ 0 → xs ≡ []
nil_of [] e = refl
nil_of (x ∷ xs) e = absurd (omega (arith, e))

one_more : (settings : Settings) (answers more : List Marked) (told : Option (ℕ × Response)) → Brings settings answers more told → length more ≤ 1
one_more settings answers [] told h = omega arith
one_more settings answers (m ∷ []) told h = omega arith
one_more settings answers (m ∷ n ∷ ms) None h = absurd h
one_more settings answers (m ∷ n ∷ ms) (Some told) h = absurd h

-- a line, by what the reader was fed before and after it
module _ (settings : Settings) (script : List ℕ) (listed : List SourceLine) (old new : ListingPage) (line : SourceLine) (m mode : Mode) (answers more : List Marked)
    (told : Option (ℕ × Response)) (h : Carries script listed old m) (room : length (open_of old) ≤ 9) (at : IsLineAt script line)
    (number : line.number ≡ length (listed ++ open_of old) + 1) (brings : Brings settings answers more told)
    (between : Between m (map (fed_of script) (listed ++ open_of old)) (answers_of answers)) where
  begun_yet : length (listed ++ open_of old) ≡ 0 → m ≡ awaiting
  begun_yet none = fed_none m (answers_of answers) (subst (λ (ls : List SourceLine). Between m (map (fed_of script) ls) (answers_of answers)) (nil_of (listed ++ open_of old) none) between)

  paged : (moves : Moves m mode (map (fed_of script) (listed ++ open_of old)) (fed_of script line) (answers_of more)) → (its : code.Role) → KeepsLine old new line its (brought_told told)
      → role_in its ≡ role m (fed_of script line) → Paged script listed new mode told more
  paged moves its kept own =
      let s = stepped script listed old new line m mode its (brought_told told) more h kept own (brought_is settings answers more told brings) at number room moves begun_yet
      (few_of m (map (fed_of script) (listed ++ open_of old)) (answers_of answers) between) in
      record {
        carries = s.carries;
        groups = s.groups;
        whole = subst (λ k. IsWholePage script k new) (sym (fault_is settings answers more told brings))
            (whole_page script listed old new line m mode h.roles moves.number (answers_of answers) between h.opened more (one_more settings answers more told brings) moves.told s);
      }

-- ---- a line that was taken in a step

pub step_page : (settings : Settings) (script : List ℕ) (at : ℕ) (answers more : List Marked) (s t : Session) (listed : List SourceLine) (old new : ListingPage) (step : Step)
    → Took settings (take at script) answers s → Took settings (take step.next script) (answers ++ more) t → IsLineStart script at → at ≤ length script
    → StepsOver script at (Ok (Some step)) → Follow 0 (listed ++ open_of old) at → Carries script listed old s.reader.mode → length (open_of old) ≤ 9
    → Brings settings answers more step.told → KeepsStep s t old new (Ok (Some step)) → Paged script listed new t.reader.mode step.told more
step_page settings script at answers more s t listed old new step took next starts inside place follow h room brings (n, before, after, numbered, stands, stands_on, keeps) =
    let m = s.reader.mode in
    let mode = t.reader.mode in
    let lines = listed ++ open_of old in
    let line = line_of n step in
    let here = step_line settings script at answers s n step took starts inside numbered place in
    let ends : line.end + 1 ≡ step.next = omega (arith, place.1.some) in
    let fed = fed_took script settings at answers s took starts inside lines h.each follow in
    let all = fed_took script settings step.next (answers ++ more) t next (inr place.1.feed) place.1.within (lines ++ line ∷ [])
    (each_push (IsLineAt script) lines line h.each here) (follow_more 0 at step.next lines line follow place.0 ends) in
    let between = subst (λ ls. Between m ls (answers_of answers)) (sym fed) took.told.between in
    let on = subst (λ ls. Between mode ls (answers_of answers ++ answers_of more)) (sym all ∙ map_push (fed_of script) lines line)
    (subst (Between mode (map columns next.lines)) (map-append (λ x. x.answer) answers more) next.told.between) in
    let moves = line_moves m mode (map (fed_of script) lines) (fed_of script line) (answers_of answers) (answers_of more) between on in
    let number = number_of script line lines h.each (subst (Follow 0 lines) (sym place.0) follow) here in
    let own = keeps.own moves.number m (fed_of script line) stands (subst (λ x. IsStand x after) (sym moves.mode) stands_on)
    (ap brought_by moves.told ∙ sym (brought_is settings answers more step.told brings)) in
    paged settings script listed old new line m mode answers more step.told h room here number brings between moves keeps.its keeps.kept own

-- a page after which no line was taken is as before
pub same_page : (settings : Settings) (script : List ℕ) (at : ℕ) (answers : List Marked) (s t : Session) (listed : List SourceLine) (page : ListingPage) → Took settings (take at script) answers s
    → Took settings (take at script) answers t → IsLineStart script at → at ≤ length script → Follow 0 (listed ++ open_of page) at → Carries script listed page s.reader.mode
    → Carries script listed page t.reader.mode
same_page settings script at answers s t listed page took next starts inside follow h =
    let lines = listed ++ open_of page in
    let fed = fed_took script settings at answers s took starts inside lines h.each follow in
    let again = fed_took script settings at answers t next starts inside lines h.each follow in
    let same = none_moves s.reader.mode t.reader.mode (map (fed_of script) lines) (answers_of answers) []
    (subst (λ ls. Between s.reader.mode ls (answers_of answers)) (sym fed) took.told.between)
    (subst (λ ls. Between t.reader.mode ls (answers_of answers ++ [])) (sym again)
    (subst (Between t.reader.mode (map columns next.lines)) (sym (append-nil (answers_of answers))) next.told.between)) in
    subst (Carries script listed page) same.0 h

-- bytes of a last line leave the reader as it was
pub rest_page : (settings : Settings) (script : List ℕ) (at : ℕ) (answers : List Marked) (s t : Session) (listed : List SourceLine) (page : ListingPage) (line : SourceLine)
    → Took settings (take at script) answers s → Took settings script answers t → IsLineStart script at → at ≤ length script → line.start ≡ at → IsLineAt script line
    → line.end ≡ length script → Follow 0 (listed ++ open_of page) at → Carries script listed page s.reader.mode → Carries script listed page t.reader.mode
rest_page settings script at answers s t listed page line took next starts inside begins here ends follow h =
    let lines = listed ++ open_of page in
    let fed = fed_took script settings at answers s took starts inside lines h.each follow in
    let again = fed_whole script line lines next.lines next.rest next.within h.each (subst (Follow 0 lines) (sym begins) follow) here ends in
    let same = none_moves s.reader.mode t.reader.mode (map (fed_of script) lines) (answers_of answers) []
    (subst (λ ls. Between s.reader.mode ls (answers_of answers)) (sym fed) took.told.between)
    (subst (λ ls. Between t.reader.mode ls (answers_of answers ++ [])) (sym again.0)
    (subst (Between t.reader.mode (map columns next.lines)) (sym (append-nil (answers_of answers))) next.told.between)) in
    subst (Carries script listed page) same.0 h

-- before the first line nothing is shown or open
pub first_page : (settings : Settings) (script : List ℕ) (page : ListingPage) (s : Session) → open_of page ≡ [] → page.current ≡ None → Took settings [] [] s
    → Carries script [] page s.reader.mode
first_page settings script page s opens none took =
    let lines : took.lines ≡ [] = (same_lines took.lines [] took.rest [] (each_plain took.lines took.within.each) tt took.within.unended.0 tt (sym took.within.cut)).0 in
    let awaits = fed_none s.reader.mode [] (subst (λ ls. Between s.reader.mode (map columns ls) []) lines took.told.between) in
    record {
      each = subst (AllByRecursion (IsLineAt script)) (sym opens) tt;
      roles = [];
      opened = subst (λ m. AreOpen m (open_of page) []) (sym awaits) (opens, refl);
      split = ap (roles_in script) opens;
      current = subst (IsLastTaken (length (open_of page))) (sym none) (ap (λ (ls : List SourceLine). length ls) opens);
    }

-- ---- the end of a script

-- what the end brings, by the state of the reader before it
abbrev pub EndsAs : Mode → List Marked → Option (ℕ × Response) → Type 0
EndsAs awaiting also told = (also ≡ []) × (stand_at_end told ≡ stand.Awaiting)
EndsAs dropping also told = (also ≡ []) × (stand_at_end told ≡ stand.Awaiting)
EndsAs (gathering n card j count) also told =
    (stand_at_end told ≡ stand.Gathering) × ((m : Marked) × (also ≡ m ∷ []) × (m.answer.what ≡ Err kind.Continuation))

no_also : (settings : Settings) (answers also : List Marked) (told : Option (ℕ × Response)) → Brings settings answers also told → answers_of also ≡ []
    → (also ≡ []) × (stand_at_end told ≡ stand.Awaiting)
no_also settings answers [] None h e = (refl, refl)
no_also settings answers [] (Some told) h e = absurd h
no_also settings answers (m ∷ ms) told h e = cc

an_also : (settings : Settings) (answers also : List Marked) (told : Option (ℕ × Response)) (a : Answer) → Brings settings answers also told → answers_of also ≡ a ∷ []
    → (stand_at_end told ≡ stand.Gathering) × ((m : Marked) × (also ≡ m ∷ []) × (m.answer ≡ a))
an_also settings answers [] told a h e = cc
an_also settings answers (m ∷ []) None a h e = absurd h
an_also settings answers (m ∷ []) (Some told) a h e = (refl, (m, refl, cc))
an_also settings answers (m ∷ n ∷ ms) told a h e = cc

ends_as : (settings : Settings) (before : List Marked) (lines : List Line) (answers : List Answer) (also : List Marked) (told : Option (ℕ × Response)) (mode : Mode) → Between mode lines answers
    → Answers lines (answers ++ answers_of also) → Brings settings before also told → EndsAs mode also told
ends_as settings before lines answers also told awaiting h all brings =
    let same = one_reading lines (answers ++ answers_of also) answers all (inl h) in
    no_also settings before also told brings (append_same answers (answers_of also) [] (same ∙ sym (append-nil answers)))
ends_as settings before lines answers also told dropping h all brings =
    let same = one_reading lines (answers ++ answers_of also) answers all (inr (inl h)) in
    no_also settings before also told brings (append_same answers (answers_of also) [] (same ∙ sym (append-nil answers)))
ends_as settings before lines answers also told (gathering n card j count) h all brings =
    let a : Answer = record { line = n; what = Err kind.Continuation } in
    let same = one_reading lines (answers ++ answers_of also) (answers ++ a ∷ []) all
    (inr (inr (record { whole_answers = answers; number = n; card = card; joined = j; count = count; gathers = h; told = refl }))) in
    let one = an_also settings before also told a brings (append_same answers (answers_of also) (a ∷ []) same) in
    (one.0, (one.1.0, one.1.1, ap (λ (x : Answer). x.what) one.1.2))

-- the role of the last line: the state of a reader that drops lines after it isn't told
abbrev a_break : Line
a_break = 88 ∷ []

gather_drops : (r : Option Joined) (cont ninth : Bool) (n : ℕ) (card : List ℕ) (count : ℕ) → (gathered_with r cont ninth n card count).0 ≡ dropping
    → (breaking ≡ further_role (is_none r || (ninth && cont)))
    × ◌≡◌ {A = List Answer} (gathered_with r cont ninth n card count).1 (record { line = n; what = Err kind.Continuation } ∷ [])
gather_drops None cont ninth n card count e = (refl, refl)
gather_drops (Some j) false ninth n card count e = cc
gather_drops (Some j) true true n card count e = (refl, refl)
gather_drops (Some j) true false n card count e = cc

idle_stays : (skips cont : Bool) (number : ℕ) (l : Line) → (idle_with skips cont number l).0 ≡ dropping → ⊥
idle_stays true cont number l e = cc
idle_stays false true number l e = cc
idle_stays false false number l e = cc

drop_stays : (cont : Bool) (n : ℕ) (card : List ℕ) (j : Joined) (count : ℕ) → behind_break cont ≡ gathering n card j count → ⊥
drop_stays true n card j count e = cc
drop_stays false n card j count e = cc

end_gather : (number n : ℕ) (card : List ℕ) (j : Joined) (count : ℕ) (l : Line) (mode : Mode) (also : List Marked) (told : Option (ℕ × Response)) (b : Brought) (its : code.Role)
    → IsRoleBy stand.Gathering (stand_at_end told) b its → (moved number (gathering n card j count) l).0 ≡ mode → brought_by (moved number (gathering n card j count) l).1 ≡ b → EndsAs mode also told
    → role_in its ≡ role (gathering n card j count) l
end_gather number n card j count l awaiting also told b its own e k ends =
    own number (gathering n card j count) l refl (subst (λ x. IsStand x (stand_at_end told)) (sym e) ends.1) k
end_gather number n card j count l (gathering n2 card2 j2 count2) also told b its own e k ends =
    own number (gathering n card j count) l refl (subst (λ x. IsStand x (stand_at_end told)) (sym e) ends.0) k
end_gather number n card j count l dropping also told b its own e k ends =
    let d = gather_drops (with_line j (used l)) (is_continued l) (count == 8) n card count e in
    let said : brought_by (moved number (gathering n card j count) a_break).1 ≡ b = sym (ap brought_by d.1) ∙ k in
    own number (gathering n card j count) a_break refl ends.1 said ∙ d.0

-- so is that of each last line
pub end_role : (number : ℕ) (m : Mode) (before : ReaderState) (l : Line) (mode : Mode) (also : List Marked) (told : Option (ℕ × Response)) (b : Brought) (its : code.Role) → IsStand m before
    → IsRoleBy before (stand_at_end told) b its → (moved number m l).0 ≡ mode → brought_by (moved number m l).1 ≡ b → EndsAs mode also told → role_in its ≡ role m l
end_role number awaiting before l awaiting also told b its stands own e k ends =
    own number awaiting l stands (subst (λ x. IsStand x (stand_at_end told)) (sym e) ends.1) k
end_role number awaiting before l (gathering n card j count) also told b its stands own e k ends =
    own number awaiting l stands (subst (λ x. IsStand x (stand_at_end told)) (sym e) ends.0) k
end_role number awaiting before l dropping also told b its stands own e k ends = absurd (idle_stays (is_skipped l) (is_continued l) number l e)
end_role number dropping before l awaiting also told b its stands own e k ends = own number dropping [] stands ends.1 k
end_role number dropping before l dropping also told b its stands own e k ends = own number dropping [] stands ends.1 k
end_role number dropping before l (gathering n card j count) also told b its stands own e k ends = absurd (drop_stays (is_continued l) n card j count e)
end_role number (gathering n card j count) before l mode also told b its stands own e k ends =
    end_gather number n card j count l mode also told b its (subst (λ s. IsRoleBy s (stand_at_end told) b its) stands own) e k ends

no_answers : (ms : List Marked) → answers_of ms ≡ [] → ms ≡ []
no_answers [] e = refl
no_answers (m ∷ ms) e = cc

end_stands : (settings : Settings) (script : List ℕ) (answers : List Marked) (e : Ending) (b : EndBrings settings script answers e) → EndsAs b.reader.mode b.also e.open_statement
end_stands settings script answers e b =
    let lines = map columns b.ended.lines ++ last_line b.ended.rest in
    ends_as settings (answers ++ b.more) lines (answers_of (answers ++ b.more)) b.also e.open_statement b.reader.mode b.read.between
    (subst (Answers lines) (map-append (λ x. x.answer) (answers ++ b.more) b.also) b.ended.told) b.unended

-- the page of the last line
pub end_page : (settings : Settings) (script : List ℕ) (answers : List Marked) (s : Session) (listed : List SourceLine) (old new : ListingPage) (line : SourceLine) (before : ReaderState) (e : Ending)
    → Took settings script answers s → (b : EndBrings settings script answers e) → IsLineAt script line → line.end ≡ length script → Follow 0 (listed ++ open_of old) line.start
    → Carries script listed old s.reader.mode → length (open_of old) ≤ 9 → IsStand s.reader.mode before → KeepsLast script line before old new e
    → Paged script listed new b.reader.mode e.last b.more
end_page settings script answers s listed old new line before e took b at ends follow h room stands (inl (past, none, same, current)) =
    let lines = listed ++ open_of old in
    let fed = fed_whole script line lines took.lines took.rest took.within h.each follow at ends in
    let again = fed_whole script line lines b.ended.lines b.ended.rest b.ended.within h.each follow at ends in
    let more = length-drop line.start script in
    let nothing : last_line b.ended.rest ≡ [] = ap last_line again.1 ∙ no_line (drop line.start script) (omega (arith, more, past)) in
    let moves = none_moves s.reader.mode b.reader.mode (map (fed_of script) lines) (answers_of answers) (answers_of b.more)
    (subst (λ ls. Between s.reader.mode ls (answers_of answers)) (sym fed.0) took.told.between)
    (subst (λ ls. Between b.reader.mode ls (answers_of answers ++ answers_of b.more)) (ap (λ t. map columns b.ended.lines ++ t) nothing ∙ append-nil (map columns b.ended.lines) ∙ sym again.0)
    (subst (Between b.reader.mode (map columns b.ended.lines ++ last_line b.ended.rest)) (map-append (λ x. x.answer) answers b.more) b.read.between)) in
    let quiet : b.more ≡ [] = (no_answers b.more moves.1) in
    let shown : shown_of new ≡ [] = shown_none new none in
    let here : listed ++ shown_of new ≡ listed = ap (λ t. listed ++ t) shown ∙ append-nil listed in
    let all : (listed ++ shown_of new) ++ open_of new ≡ listed ++ open_of old = (λ i. here i ++ same i) in
    record {
      carries = record {
        each = subst (AllByRecursion (IsLineAt script)) (sym all) h.each;
        roles = h.roles;
        opened = subst (λ ls. AreOpen b.reader.mode ls h.roles) (sym same) (subst (λ m. AreOpen m (open_of old) h.roles) moves.0 h.opened);
        split = ap (roles_in script) all ∙ h.split ∙ ap (λ ls. roles_in script ls ++ h.roles) (sym here);
        current = subst (IsLastTaken (length ((listed ++ shown_of new) ++ open_of new))) (sym current)
            (subst (λ (ls : List SourceLine). IsLastTaken (length ls) old.current) (sym all) h.current);
      };
      groups = record {
        roles = [];
        together = subst (λ ms. IsGroup [] (taken ms)) (sym quiet) tt;
        losses = ap (lost_by (ends_lost new.last)) shown;
        split = ap (roles_in script) here ∙ sym (append-nil (roles_in script listed));
      };
      whole = record {
        has = subst (λ k. IfSome k (λ x. (0 < length (shown_of new)) × HasFault (first_card script (shown_of new)) (further_cards script (shown_of new)) x))
            (sym (fault_is settings answers b.more e.last b.last ∙ ap (λ ms. fault_of (taken ms)) quiet)) tt;
        before = λ front own is ends_so. absurd (none_last (shown_of new) front own shown is);
      };
    }
end_page settings script answers s listed old new line before e took b at ends follow h room stands (inr (less, keeps)) =
    let m = s.reader.mode in
    let mode = b.reader.mode in
    let lines = listed ++ open_of old in
    let fed = fed_whole script line lines took.lines took.rest took.within h.each follow at ends in
    let again = fed_whole script line lines b.ended.lines b.ended.rest b.ended.within h.each follow at ends in
    let last : last_line b.ended.rest ≡ fed_of script line ∷ [] = ap last_line again.1 ∙ last_fed script line at ends less in
    let between = subst (λ ls. Between m ls (answers_of answers)) (sym fed.0) took.told.between in
    let all : map columns b.ended.lines ++ last_line b.ended.rest ≡ map (fed_of script) lines ++ fed_of script line ∷ [] = (λ i. sym again.0 i ++ last i) in
    let on = subst (λ ls. Between mode ls (answers_of answers ++ answers_of b.more)) all
    (subst (Between mode (map columns b.ended.lines ++ last_line b.ended.rest)) (map-append (λ x. x.answer) answers b.more) b.read.between) in
    let moves = line_moves m mode (map (fed_of script) lines) (fed_of script line) (answers_of answers) (answers_of b.more) between on in
    let number = number_of script line lines h.each follow at in
    let own = end_role moves.number m before (fed_of script line) mode b.also e.open_statement (brought_told e.last) keeps.its stands keeps.own moves.mode
    (ap brought_by moves.told ∙ sym (brought_is settings answers b.more e.last b.last)) (end_stands settings script answers e b) in
    paged settings script listed old new line m mode answers b.more e.last h room at number b.last between moves keeps.its keeps.kept own

-- and that of a statement that is open then
plain_further : (n : ℕ) → AreFurther (replicate n further)
plain_further zero = tt
plain_further (suc n) = plain_further n

lost_none : (lines : List SourceLine) → lost_by false lines ≡ replicate (length lines) false
lost_none [] = refl
lost_none (line ∷ []) = refl
lost_none (line ∷ next ∷ lines) = ap (λ t. false ∷ t) (lost_none (next ∷ lines))

group_at_end : (mode : Mode) (lines : List SourceLine) (roles : List Role) (also : List Marked) (told : Option (ℕ × Response)) → AreOpen mode lines roles → EndsAs mode also told → IsGroup roles (taken also)
group_at_end awaiting lines roles also told opens ends = subst (λ rs. IsGroup rs (taken also)) (sym opens.1) (subst (λ ms. IsGroup [] (taken ms)) (sym ends.0) tt)
group_at_end dropping lines roles also told opens ends = subst (λ rs. IsGroup rs (taken also)) (sym opens.1) (subst (λ ms. IsGroup [] (taken ms)) (sym ends.0) tt)
group_at_end (gathering n card j count) lines roles also told opens ends =
    subst (λ rs. IsGroup rs (taken also)) (sym opens.1) (subst (λ ms. IsGroup (first ∷ replicate count further) (taken ms)) (sym ends.1.1) (plain_further count))

abbrev HasIts : List ℕ → List SourceLine → Option FaultKind → Type 0
HasIts script lines fault = IfSome fault (λ k. (0 < length lines) × HasFault (first_card script lines) (further_cards script lines) k)

has_at_end : (script : List ℕ) (mode : Mode) (lines : List SourceLine) (roles : List Role) (also : List Marked) (told : Option (ℕ × Response)) → AreOpen mode lines roles → EndsAs mode also told
    → HasIts script lines (fault_of (taken also))
has_at_end script awaiting lines roles also told opens ends = subst (λ ms. HasIts script lines (fault_of (taken ms))) (sym ends.0) tt
has_at_end script dropping lines roles also told opens ends = subst (λ ms. HasIts script lines (fault_of (taken ms))) (sym ends.0) tt
has_at_end script (gathering n card j count) lines roles also told opens ends =
    subst (λ ms. HasIts script lines (fault_of (taken ms))) (sym ends.1.1)
    (subst (λ w. HasIts script lines (fault_asked w)) (sym ends.1.2) (omega (arith, opens.0), λ op. (let bad : false ≡ true = op in cc)))

pub open_page : (settings : Settings) (script : List ℕ) (answers : List Marked) (listed : List SourceLine) (page rest : ListingPage) (e : Ending) (b : EndBrings settings script answers e)
    → Carries script listed page b.reader.mode → shown_of rest ≡ open_of page → ends_lost rest.last ≡ false
    → Groups script listed rest (taken b.also) × IsWholePage script (fault_told e.open_statement) rest
open_page settings script answers listed page rest e b h shown plain =
    let ends = end_stands settings script answers e b in (
      record {
        roles = h.roles;
        together = group_at_end b.reader.mode (open_of page) h.roles b.also e.open_statement h.opened ends;
        losses = (λ i. lost_by (plain i) (shown i)) ∙ lost_none (open_of page) ∙ open_plain b.reader.mode (open_of page) h.roles h.opened;
        split = ap (λ ls. roles_in script (listed ++ ls)) shown ∙ h.split;
      },
      record {
        has = subst (HasIts script (shown_of rest)) (sym (fault_is settings (answers ++ b.more) b.also e.open_statement b.unended))
            (subst (λ ls. HasIts script ls (fault_of (taken b.also))) (sym shown) (has_at_end script b.reader.mode (open_of page) h.roles b.also e.open_statement h.opened ends));
        before = λ front own is ends_so. (let bad : false ≡ true = sym plain ∙ ends_so in cc);
      },
    )
