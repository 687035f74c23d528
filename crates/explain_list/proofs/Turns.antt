-- What a page shows after a line, by what the line is to the script's reader.
use Rattle.std.proofs.Common.{◌≡◌, ◌⊎◌, inl, inr, ℕ, zero, suc, ◌+◌, ◌<◌, ◌≤◌, ◌&&◌, ◌||◌, ◌==◌, Bool, true, false, is_none, List, [], ◌∷◌, ◌++◌, length, map, replicate, take, Option, Some, None, IfSome, Result, Ok, Err, refl, sym, ap, subst, ◌∙◌, arith, append_assoc, length-append, take-take, take_all}
use Rattle.std.proofs.lemmas.Bool.{cases_lt}
use Rattle.std.proofs.lemmas.Bool.Decides.{eqb_tells}
use Rattle.std.proofs.lemmas.List.{append-nil, length_push, length-map, length-take-le, map-append, map_push, take-append-le}
use Rattle.std.specs.List.{flat_map, AllByRecursion}
use Rattle.macro_operands.specs.declared.faults.FaultKind.{FaultKind}
use Rattle.macro_operands.specs.declared.faults.FaultKind.TheVariants as kind
use Rattle.macro_statements.specs.Requests.{Asked}
use Rattle.macro_statements.specs.Statements.{statement_with}
use Rattle.macro_reader.specs.Columns.{Line, used, is_continued, is_skipped}
use Rattle.macro_reader.specs.Continuation.{Joined, begun, with_line, with_lines}
use Rattle.macro_reader.specs.Roles.{Role, first, further, breaking, gone, first_role, further_role, role, roles_after}
use Rattle.macro_reader.specs.Scripts.{Answer, Between, Mode, awaiting, dropping, gathering, gathered_with, idle_with, behind_break, lines_of, moved}
use Rattle.script_steps.specs.Output.{Marked}
use Rattle.script_steps.specs.Taken.{answers_of}
use Rattle.script_steps.proofs.Feeds.{each_push}
use Rattle.explain_faults.specs.Places.{card_in, first_card, further_cards, is_of_operand, line_in, HasFault}
use Rattle.explain_faults.specs.Roles.{brought_as, brought_by, role_in}
use Rattle.explain_faults.specs.declared.lines.SourceLine.{SourceLine}
use Rattle.explain_faults.specs.declared.roles.Brought.{Brought}
use Rattle.explain_faults.specs.declared.roles.Role as code
use Rattle.explain_list.specs.Groups.{AreFurther, AreOpen, IsGroup, IsLastTaken, brings, ends_by, fed_of, is_lost, roles_in}
use Rattle.explain_list.specs.Listing.{Carries, Groups}
use Rattle.explain_list.specs.Pages.{IsWholePage, KeepsLine, Precedes, ends_lost, fault_asked, fault_of, lost_by, open_of, shown_of}
use Rattle.explain_list.specs.Rows.{IsLineAt}
use Rattle.explain_list.specs.declared.pages.ListingPage.{ListingPage}
use Rattle.explain_list.proofs.Answered.{taken}
use Rattle.explain_list.proofs.Marked.{lost_push, open_none, open_some, shown_none, shown_some}
use Rattle.explain_list.proofs.Moved.{Moves}

-- ---- whether a line is the last that is listed together with others

told_brings : (what : Result Asked FaultKind) → brings (brought_as what) ≡ true
told_brings (Ok asked) = refl
told_brings (Err k) = refl

abbrev pub Closes : Mode → Role → List Role → List Marked → Type 0
Closes new r roles more = (ends_by r (brought_by (answers_of more)) ≡ true) × AreOpen new [] [] × IsGroup (roles ++ r ∷ []) (taken more)

abbrev pub GoesOn : Mode → Role → List Role → List SourceLine → SourceLine → List Marked → Type 0
GoesOn new r roles lines line more =
    (ends_by r (brought_by (answers_of more)) ≡ false) × (more ≡ []) × AreOpen new (lines ++ line ∷ []) (roles ++ r ∷ []) × (length lines ≤ 8)

closed : (c : Bool) (new : Mode) → behind_break c ≡ new → AreOpen new [] []
closed true new e = subst (λ m. AreOpen m [] []) e (refl, refl)
closed false new e = subst (λ m. AreOpen m [] []) e (refl, refl)

idle_turn : (skips cont : Bool) (number : ℕ) (l : Line) (new : Mode) (line : SourceLine) (more : List Marked) → (idle_with skips cont number l).0 ≡ new
    → (idle_with skips cont number l).1 ≡ answers_of more → Closes new (first_role skips) [] more ⊎ GoesOn new (first_role skips) [] [] line more
idle_turn true cont number l new line [] e k = inl (refl, subst (λ m. AreOpen m [] []) e (refl, refl), tt)
idle_turn true cont number l new line (x ∷ more) e k = cc
idle_turn false true number l new line [] e k =
    inr (refl, refl, subst (λ m. AreOpen m (line ∷ []) (first ∷ [])) e (omega arith, refl), omega arith)
idle_turn false true number l new line (x ∷ more) e k = cc
idle_turn false false number l new line [] e k = cc
idle_turn false false number l new line (x ∷ []) e k = inl (told_brings x.answer.what, subst (λ m. AreOpen m [] []) e (refl, refl), tt)
idle_turn false false number l new line (x ∷ y ∷ more) e k = cc

drop_turn : (cont : Bool) (new : Mode) (more : List Marked) → behind_break cont ≡ new → [] ≡ answers_of more → Closes new gone [] more
drop_turn cont new [] e k = (refl, closed cont new e, tt)
drop_turn cont new (x ∷ more) e k = cc

many_further : (n : ℕ) → AreFurther (replicate n further ++ further ∷ [])
many_further zero = tt
many_further (suc n) = many_further n

many_breaking : (n : ℕ) → AreFurther (replicate n further ++ breaking ∷ [])
many_breaking zero = tt
many_breaking (suc n) = many_breaking n

one_further : (n : ℕ) → replicate n further ++ further ∷ [] ≡ replicate (suc n) further
one_further zero = refl
one_further (suc n) = ap (λ t. further ∷ t) (one_further n)

gather_turn : (r : Option Joined) (cont ninth : Bool) (n : ℕ) (card : List ℕ) (count : ℕ) (new : Mode) (lines : List SourceLine) (line : SourceLine) (more : List Marked)
    → (gathered_with r cont ninth n card count).0 ≡ new → (gathered_with r cont ninth n card count).1 ≡ answers_of more
    → length lines ≡ count + 1 → count ≤ 8 → (ninth ≡ false → count ≤ 7)
    → Closes new (further_role (is_none r || (ninth && cont))) (first ∷ replicate count further) more
    ⊎ GoesOn new (further_role (is_none r || (ninth && cont))) (first ∷ replicate count further) lines line more
gather_turn None cont ninth n card count new lines line [] e k size few other = cc
gather_turn None cont ninth n card count new lines line (x ∷ []) e k size few other = inl (told_brings x.answer.what, closed cont new e, many_breaking count)
gather_turn None cont ninth n card count new lines line (x ∷ y ∷ more) e k size few other = cc
gather_turn (Some j) false ninth n card count new lines line [] e k size few other = cc
gather_turn (Some j) false true n card count new lines line (x ∷ []) e k size few other =
    inl (told_brings x.answer.what, subst (λ m. AreOpen m [] []) e (refl, refl), many_further count)
gather_turn (Some j) false false n card count new lines line (x ∷ []) e k size few other =
    inl (told_brings x.answer.what, subst (λ m. AreOpen m [] []) e (refl, refl), many_further count)
gather_turn (Some j) false ninth n card count new lines line (x ∷ y ∷ more) e k size few other = cc
gather_turn (Some j) true true n card count new lines line [] e k size few other = cc
gather_turn (Some j) true true n card count new lines line (x ∷ []) e k size few other =
    inl (told_brings x.answer.what, subst (λ m. AreOpen m [] []) e (refl, refl), many_breaking count)
gather_turn (Some j) true true n card count new lines line (x ∷ y ∷ more) e k size few other = cc
gather_turn (Some j) true false n card count new lines line [] e k size few other =
    let next : suc count ≡ count + 1 = omega arith in
    inr (
      refl,
      refl,
      subst (λ m. AreOpen m (lines ++ line ∷ []) (first ∷ (replicate count further ++ further ∷ []))) e
          (omega (arith, size, length_push lines line), ap (λ t. first ∷ t) (one_further count ∙ ap (λ k. replicate k further) next)),
      omega (arith, size, other refl),
    )
gather_turn (Some j) true false n card count new lines line (x ∷ more) e k size few other = cc

-- a statement has nine continuation lines at most
abbrev pub IsFew : Mode → Type 0
IsFew awaiting = Unit {0}
IsFew dropping = Unit {0}
IsFew (gathering n card j count) = count ≤ 8

pub few_of : (m : Mode) (lines : List Line) (answers : List Answer) → Between m lines answers → IsFew m
few_of awaiting lines answers h = tt
few_of dropping lines answers h = tt
few_of (gathering n card j count) lines answers h = h.few

not_ninth : (count : ℕ) → count ≤ 8 → (count == 8) ≡ false → count ≤ 7
not_ninth count few ninth = elim (eqb_tells count 8) [
  | inl e ↦ (let bad : true ≡ false = sym e.0 ∙ ninth in cc)
  | inr e ↦ grind (arith, e.1, few)
]

pub turn : (m new : Mode) (number : ℕ) (l : Line) (lines : List SourceLine) (line : SourceLine) (roles : List Role) (more : List Marked) → AreOpen m lines roles → IsFew m
    → (moved number m l).0 ≡ new → (moved number m l).1 ≡ answers_of more → Closes new (role m l) roles more ⊎ GoesOn new (role m l) roles lines line more
turn awaiting new number l lines line roles more opens few e k =
    subst (λ rs. Closes new (role awaiting l) rs more ⊎ GoesOn new (role awaiting l) rs lines line more) (sym opens.1)
    (subst (λ ls. Closes new (role awaiting l) [] more ⊎ GoesOn new (role awaiting l) [] ls line more) (sym opens.0)
    (idle_turn (is_skipped l) (is_continued l) number l new line more e k))
turn dropping new number l lines line roles more opens few e k =
    inl (subst (λ rs. Closes new gone rs more) (sym opens.1) (drop_turn (is_continued l) new more e k))
turn (gathering n card j count) new number l lines line roles more opens few e k =
    subst (λ rs. Closes new (role (gathering n card j count) l) rs more ⊎ GoesOn new (role (gathering n card j count) l) rs lines line more) (sym opens.1)
    (gather_turn (with_line j (used l)) (is_continued l) (count == 8) n card count new lines line more e k opens.0 few (not_ninth count few))

-- ---- the page after a line

plain_further : (n : ℕ) → map is_lost (replicate n further) ≡ replicate n false
plain_further zero = refl
plain_further (suc n) = ap (λ t. false ∷ t) (plain_further n)

pub open_plain : (m : Mode) (lines : List SourceLine) (roles : List Role) → AreOpen m lines roles → replicate (length lines) false ≡ map is_lost roles
open_plain awaiting lines roles h = ap (λ (ls : List SourceLine). replicate (length ls) false) h.0 ∙ sym (ap (map is_lost) h.1)
open_plain dropping lines roles h = ap (λ (ls : List SourceLine). replicate (length ls) false) h.0 ∙ sym (ap (map is_lost) h.1)
open_plain (gathering n card j count) lines roles h =
    let next : count + 1 ≡ suc count = omega arith in
    ap (λ k. replicate k false) (h.0 ∙ next) ∙ ap (λ t. false ∷ t) (sym (plain_further count)) ∙ sym (ap (map is_lost) h.1)

last_same : (xs ys : List SourceLine) (x y : SourceLine) → xs ++ x ∷ [] ≡ ys ++ y ∷ [] → x ≡ y
last_same [] [] x y e = cc
last_same [] (b ∷ []) x y e = cc
last_same [] (b ∷ c ∷ ys) x y e = cc
last_same (a ∷ []) [] x y e = cc
last_same (a ∷ b ∷ xs) [] x y e = cc
last_same (a ∷ xs) (b ∷ ys) x y e = (let tail : xs ++ x ∷ [] ≡ ys ++ y ∷ [] = cc in last_same xs ys x y tail)

pub none_last : (xs ys : List SourceLine) (y : SourceLine) → xs ≡ [] → xs ≡ ys ++ y ∷ [] → ⊥
none_last xs [] y e f = cc
none_last xs (b ∷ ys) y e f = cc

first_plain : (b : Bool) → is_lost (first_role b) ≡ false
first_plain true = refl
first_plain false = refl

pub record Stepped (script : List ℕ) (listed : List SourceLine) (old new : ListingPage) (line : SourceLine) (mode : Mode) (more : List Marked) : Type 0 where
  pub carries : Carries script (listed ++ shown_of new) new mode
  pub groups : Groups script listed new (taken more)
  pub before : (front : List SourceLine) (own : SourceLine) → shown_of new ≡ front ++ own ∷ [] → Precedes new own
  pub shown : 0 < length more → shown_of new ≡ open_of old ++ line ∷ []

module _ (script : List ℕ) (listed : List SourceLine) (old new : ListingPage) (line : SourceLine) (m mode : Mode) (its : code.Role) (b : Brought) (more : List Marked)
    (h : Carries script listed old m) (kept : KeepsLine old new line its b) (is : role_in its ≡ role m (fed_of script line)) (bring : b ≡ brought_by (answers_of more))
    (at : IsLineAt script line) (number : line.number ≡ length (listed ++ open_of old) + 1) (room : length (open_of old) ≤ 9)
    (moves : Moves m mode (map (fed_of script) (listed ++ open_of old)) (fed_of script line) (answers_of more))
    (begun_yet : length (listed ++ open_of old) ≡ 0 → m ≡ awaiting) where
  abbrev r : Role
  r = role m (fed_of script line)

  ends_is : (e : Bool) → ends_by r (brought_by (answers_of more)) ≡ e → ends_by (role_in its) b ≡ e
  ends_is e w = (λ i. ends_by (is i) (bring i)) ∙ w

  more_roles : roles_in script ((listed ++ open_of old) ++ line ∷ []) ≡ roles_in script listed ++ (h.roles ++ r ∷ [])
  more_roles =
      ap (roles_after 0 awaiting) (map_push (fed_of script) (listed ++ open_of old) line)
      ∙ moves.roles ∙ ap (λ t. t ++ r ∷ []) h.split ∙ append_assoc (roles_in script listed) h.roles (r ∷ [])

  all_lines : AllByRecursion (IsLineAt script) ((listed ++ open_of old) ++ line ∷ [])
  all_lines = each_push (IsLineAt script) (listed ++ open_of old) line h.each at

  taken_last : IsLastTaken (length ((listed ++ open_of old) ++ line ∷ [])) new.current
  taken_last = subst (IsLastTaken (length ((listed ++ open_of old) ++ line ∷ []))) (sym kept.current) (number ∙ sym (length_push (listed ++ open_of old) line))

  before_line : (o : Option SourceLine) → old.current ≡ o → IsLastTaken (length (listed ++ open_of old)) o → is_lost r ≡ true
      → (before : SourceLine) × (new.before ≡ Some before) × (before.number + 1 ≡ line.number)
  before_line None e n ends =
      let bad : true ≡ false = sym ends ∙ ap (λ x. is_lost (role x (fed_of script line))) (begun_yet n) ∙ first_plain (is_skipped (fed_of script line)) in cc
  before_line (Some before) e n ends = (before, kept.before ∙ e, ap (λ k. k + 1) n ∙ sym number)

  closes_step : Closes mode r h.roles more → Stepped script listed old new line mode more
  closes_step (ends, none, group) =
      let last : new.last ≡ Some its = kept.shows (ends_is true ends) in
      let shown : shown_of new ≡ open_of old ++ line ∷ [] = shown_some new its last ∙ kept.whole room in
      let opened : open_of new ≡ [] = open_some new its last in
      let has : listed ++ shown_of new ≡ (listed ++ open_of old) ++ line ∷ [] = ap (λ t. listed ++ t) shown ∙ sym (append_assoc listed (open_of old) (line ∷ [])) in
      let all : (listed ++ shown_of new) ++ open_of new ≡ listed ++ shown_of new = ap (λ t. (listed ++ shown_of new) ++ t) opened ∙ append-nil (listed ++ shown_of new) in
      let lost : ends_lost new.last ≡ is_lost r = ap ends_lost last ∙ ap is_lost is in
      record {
        carries = record {
          each = subst (AllByRecursion (IsLineAt script)) (sym (all ∙ has)) all_lines;
          roles = [];
          opened = subst (λ ls. AreOpen mode ls []) (sym opened) none;
          split = ap (roles_in script) all ∙ sym (append-nil (roles_in script (listed ++ shown_of new)));
          current = subst (λ (ls : List SourceLine). IsLastTaken (length ls) new.current) (sym (all ∙ has)) taken_last;
        };
        groups = record {
          roles = h.roles ++ r ∷ [];
          together = group;
          losses = (λ i. lost_by (lost i) (shown i)) ∙ lost_push (is_lost r) (open_of old) line
              ∙ ap (λ t. t ++ is_lost r ∷ []) (open_plain m (open_of old) h.roles h.opened) ∙ sym (map_push is_lost h.roles r);
          split = ap (roles_in script) has ∙ more_roles;
        };
        before = λ front own same ends_so.
            let here : line ≡ own = last_same (open_of old) front line own (sym shown ∙ same) in
            subst (λ (x : SourceLine). (before : SourceLine) × (new.before ≡ Some before) × (before.number + 1 ≡ x.number)) here
            (before_line old.current refl h.current (sym lost ∙ ends_so));
        shown = λ some. shown;
      }

  goes_on_step : GoesOn mode r h.roles (open_of old) line more → Stepped script listed old new line mode more
  goes_on_step (ends, none, opens, few) =
      let last : new.last ≡ None = kept.goes_on few (ends_is false ends) in
      let shown : shown_of new ≡ [] = shown_none new last in
      let opened : open_of new ≡ open_of old ++ line ∷ [] = open_none new last ∙ kept.whole room in
      let same : listed ++ shown_of new ≡ listed = ap (λ t. listed ++ t) shown ∙ append-nil listed in
      let all : (listed ++ shown_of new) ++ open_of new ≡ (listed ++ open_of old) ++ line ∷ [] =
      (λ i. same i ++ opened i) ∙ sym (append_assoc listed (open_of old) (line ∷ [])) in
      record {
        carries = record {
          each = subst (AllByRecursion (IsLineAt script)) (sym all) all_lines;
          roles = h.roles ++ r ∷ [];
          opened = subst (λ ls. AreOpen mode ls (h.roles ++ r ∷ [])) (sym opened) opens;
          split = ap (roles_in script) all ∙ more_roles ∙ ap (λ ls. roles_in script ls ++ (h.roles ++ r ∷ [])) (sym same);
          current = subst (λ (ls : List SourceLine). IsLastTaken (length ls) new.current) (sym all) taken_last;
        };
        groups = record {
          roles = [];
          together = subst (λ ms. IsGroup [] (taken ms)) (sym none) tt;
          losses = ap (lost_by (ends_lost new.last)) shown;
          split = ap (roles_in script) same ∙ sym (append-nil (roles_in script listed));
        };
        before = λ front own is_last ends_so. absurd (none_last (shown_of new) front own shown is_last);
        shown = λ some. absurd (omega (arith, some, ap (λ (ms : List Marked). length ms) none));
      }

  pub stepped : IsFew m → Stepped script listed old new line mode more
  stepped few =
      elim (turn m mode moves.number (fed_of script line) (open_of old) line h.roles more h.opened few moves.mode moves.told) [
        | inl e ↦ closes_step e
        | inr e ↦ goes_on_step e
      ]

-- ---- the fault that is answered is that of the lines that are shown

used_front : (x : List ℕ) → used (take 80 x) ≡ used x
used_front x = elim (cases_lt (length x) 80) [
  | inl less ↦ ap used (take_all 80 x (omega (arith, less)))
  | inr more ↦
      let some = length-take-le 80 x more in
      take-append-le 71 (take 80 x) (replicate 71 32) (omega (arith, some)) ∙ take-take 71 80 x (omega arith)
      ∙ sym (take-append-le 71 x (replicate 71 32) (omega (arith, more)))
]

joins_push : (j k l : Joined) (cards : List (List ℕ)) (card : List ℕ) → with_lines j cards ≡ Some k → with_line k card ≡ Some l
    → with_lines j (cards ++ card ∷ []) ≡ Some l
joins_push j k l [] card h e =
    let same : j ≡ k = cc in
    let here : with_line j card ≡ Some l = rw same e in
    ap (λ (r : Option Joined). elim r [ None ↦ None | Some m ↦ with_lines m [] ]) here
joins_push j k l (c ∷ cards) card h e =
    elim (with_line j c) as (λ r. elim r [ None ↦ None | Some m ↦ with_lines m cards ] ≡ Some k
    → elim r [ None ↦ None | Some m ↦ with_lines m (cards ++ card ∷ []) ] ≡ Some l) [
      | None ↦ λ x. cc
      | Some m ↦ λ x. joins_push m k l cards card x e
    ] h

same_end : (xs ys zs ws : List Line) → xs ++ ys ≡ zs ++ ws → length ys ≡ length ws → ys ≡ ws
same_end [] ys [] ws e size = e
same_end [] ys (z ∷ zs) ws e size = absurd (omega (arith, size, ap (λ (ls : List Line). length ls) e, length-append zs ws))
same_end (x ∷ xs) ys [] ws e size = absurd (omega (arith, size, ap (λ (ls : List Line). length ls) e, length-append xs ys))
same_end (x ∷ xs) ys (z ∷ zs) ws e size = (let tail : xs ++ ys ≡ zs ++ ws = cc in same_end xs ys zs ws tail size)

abbrev first_what : List Answer → Result Asked FaultKind
first_what [] = Err kind.Column
first_what (a ∷ others) = a.what

whats : (what : Result Asked FaultKind) (n : ℕ) (a : Answer) → ◌≡◌ {A = List Answer} (record { line = n; what = what } ∷ []) (a ∷ []) → what ≡ a.what
whats what n a e = ap first_what e

no_operand : (k : FaultKind) (x : Result Asked FaultKind) → Err kind.Continuation ≡ x → x ≡ Err k → is_of_operand k ≡ true → ⊥
no_operand k x e w op =
    let same : kind.Continuation ≡ k = cc in
    let bad : false ≡ true = ap is_of_operand same ∙ op in cc

idle_fault : (skips cont : Bool) (number : ℕ) (l : Line) (a : Answer) (k : FaultKind) → (idle_with skips cont number l).1 ≡ a ∷ [] → a.what ≡ Err k
    → statement_with (used l) (begun (used l)).text ≡ Err k
idle_fault true cont number l a k e w = cc
idle_fault false true number l a k e w = cc
idle_fault false false number l a k e w = whats _ number a e ∙ w

gathered_fault : (r : Option Joined) (cont ninth : Bool) (n : ℕ) (card : List ℕ) (count : ℕ) (a : Answer) (k : FaultKind) → (gathered_with r cont ninth n card count).1 ≡ a ∷ []
    → a.what ≡ Err k → is_of_operand k ≡ true → (j : Joined) × (r ≡ Some j) × (statement_with card j.text ≡ Err k)
gathered_fault None cont ninth n card count a k e w op = absurd (no_operand k a.what (whats _ n a e) w op)
gathered_fault (Some j) false ninth n card count a k e w op = (j, refl, whats _ n a e ∙ w)
gathered_fault (Some j) true true n card count a k e w op = absurd (no_operand k a.what (whats _ n a e) w op)
gathered_fault (Some j) true false n card count a k e w op = cc

module _ (script : List ℕ) (line : SourceLine) (a : Answer) (k : FaultKind) where
  fed_cards : (lines : List SourceLine) → map (card_in script) lines ≡ map used (map (fed_of script) lines)
  fed_cards [] = refl
  fed_cards (x ∷ lines) = (λ i. sym (used_front (line_in script x)) i ∷ fed_cards lines i)

  gather_fault : (lines : List SourceLine) (begins : Line) (before : List Line) (j : Joined) (card : List ℕ) (cont ninth : Bool) (n count : ℕ)
      → map (fed_of script) lines ≡ begins ∷ before → with_lines (begun (used begins)) (map used before) ≡ Some j → card ≡ used begins
      → (gathered_with (with_line j (used (fed_of script line))) cont ninth n card count).1 ≡ a ∷ [] → a.what ≡ Err k
      → HasFault (first_card script (lines ++ line ∷ [])) (further_cards script (lines ++ line ∷ [])) k
  gather_fault [] begins before j card cont ninth n count fed joins own e w = cc
  gather_fault (o ∷ os) begins before j card cont ninth n count fed joins own e w = λ op.
      let g = gathered_fault (with_line j (used (fed_of script line))) cont ninth n card count a k e w op in
      let head : fed_of script o ≡ begins = cc in
      let tail : map (fed_of script) os ≡ before = cc in
      let here : card_in script o ≡ used begins = sym (used_front (line_in script o)) ∙ ap used head in
      let cards : map (card_in script) (os ++ line ∷ []) ≡ map used before ++ used (fed_of script line) ∷ [] =
      map_push (card_in script) os line ∙ (λ i. (fed_cards os ∙ ap (map used) tail) i ++ sym (used_front (line_in script line)) i ∷ []) in (
        g.0,
        (λ i. with_lines (begun (here i)) (cards i)) ∙ joins_push (begun (used begins)) j g.0 (map used before) (used (fed_of script line)) joins g.1,
        ap (λ c. statement_with c g.0.text) (here ∙ sym own) ∙ g.2,
      )

  fault_over : (m : Mode) (number : ℕ) (lines : List SourceLine) (roles : List Role) (front : List Line) (answers : List Answer) → Between m (front ++ map (fed_of script) lines) answers
      → AreOpen m lines roles → (moved number m (fed_of script line)).1 ≡ a ∷ [] → a.what ≡ Err k
      → HasFault (first_card script (lines ++ line ∷ [])) (further_cards script (lines ++ line ∷ [])) k
  fault_over awaiting number lines roles front answers h opens e w =
      let said = idle_fault (is_skipped (fed_of script line)) (is_continued (fed_of script line)) number (fed_of script line) a k e w in
      subst (λ (ls : List SourceLine). HasFault (first_card script (ls ++ line ∷ [])) (further_cards script (ls ++ line ∷ [])) k) (sym opens.0)
      (λ op. (begun (card_in script line), refl, subst (λ c. statement_with c (begun c).text ≡ Err k) (used_front (line_in script line)) said))
  fault_over dropping number lines roles front answers h opens e w = cc
  fault_over (gathering n card j count) number lines roles front answers h opens e w =
      let size : length (map (fed_of script) lines) ≡ length (h.first ∷ h.before) = omega (arith, opens.0, h.counted, length-map lines (fed_of script)) in
      let fed = same_end front (map (fed_of script) lines) (flat_map lines_of h.parts) (h.first ∷ h.before) h.split size in
      gather_fault lines h.first h.before j card (is_continued (fed_of script line)) (count == 8) n count fed h.joins h.card_is e w

-- the page of a line is whole
module _ (script : List ℕ) (listed : List SourceLine) (old new : ListingPage) (line : SourceLine) (m mode : Mode) (roles : List Role) (number : ℕ) (answers : List Answer)
    (between : Between m (map (fed_of script) (listed ++ open_of old)) answers) (opens : AreOpen m (open_of old) roles) where
  has_by : (x : Marked) (what : Result Asked FaultKind) → (moved number m (fed_of script line)).1 ≡ x.answer ∷ [] → shown_of new ≡ open_of old ++ line ∷ [] → x.answer.what ≡ what
      → IfSome (fault_asked what) (λ k. (0 < length (shown_of new)) × HasFault (first_card script (shown_of new)) (further_cards script (shown_of new)) k)
  has_by x (Ok asked) e shown w = tt
  has_by x (Err k) e shown w =
      let front = subst (λ ls. Between m ls answers) (map-append (fed_of script) listed (open_of old)) between in (
        omega (arith, ap (λ (ls : List SourceLine). length ls) shown, length_push (open_of old) line),
        subst (λ ls. HasFault (first_card script ls) (further_cards script ls) k) (sym shown)
            (fault_over script line x.answer k m number (open_of old) roles (map (fed_of script) listed) answers front opens e w),
      )

  pub whole_page : (more : List Marked) → length more ≤ 1 → (moved number m (fed_of script line)).1 ≡ answers_of more → Stepped script listed old new line mode more
      → IsWholePage script (fault_of (taken more)) new
  whole_page [] one e s = record { has = tt; before = s.before }
  whole_page (x ∷ []) one e s = record { has = has_by x x.answer.what e (s.shown (omega arith)) refl; before = s.before }
  whole_page (x ∷ y ∷ more) one e s = absurd (omega (arith, one))
