-- What each line is, by the parts of a script, the way Readings.antt goes through its answers.
use Rattle.std.proofs.Common.{◌≡◌, ℕ, ◌+◌, ◌≤◌, ◌⊎◌, ◌&&◌, ◌||◌, ◌==◌, map, Bool, true, false, List, [], ◌∷◌, ◌++◌, length, Option, Some, None, is_none, refl, ap, sym, ◌∙◌, arith, inl, inr, add-zero, zero-add}
use Rattle.std.specs.List.{flat_map, AllByRecursion}
use Rattle.std.proofs.lemmas.Bool.{eq-eqb}
use Rattle.std.proofs.lemmas.Bool.Decides.{eqb_tells}
use Rattle.macro_reader.specs.Columns.{Line, used, is_continued, is_skipped}
use Rattle.macro_reader.specs.Continuation.{Joined, begun, with_line, with_lines}
use Rattle.macro_statements.specs.Statements.{statement_with}
use Rattle.macro_reader.specs.Scripts.{Answer, number_behind, Part, skipped, whole, broken, IsPart, IsGroup, AllContinued, lines_of, IsDropping, Mode, awaiting, dropping, gathering, idle_with, gathered_with, behind_break, moved}
use Rattle.macro_reader.specs.Roles.{Role, aside, first, further, breaking, gone, first_role, further_role, role, roles_after, roles_of, RolesAreOfParts, RolesAreOfBroken, RolesAreOfOpen}

abbrev mode_after : ℕ → Mode → List Line → Mode
mode_after before m [] = m
mode_after before m (l ∷ ls) = mode_after (before + 1) (moved (number_behind before) m l).0 ls

record Feeds (before : ℕ) (m : Mode) (lines : List Line) (new : Mode) (said : List Role) : Type 0 where
  mode : mode_after before m lines ≡ new
  told : roles_after before m lines ≡ said

-- one line
feeds_one : (before : ℕ) (m new : Mode) (l : Line) (ls : List Line) (mid : Mode) (one : Role) (more : List Role) → (moved (number_behind before) m l).0 ≡ mid
    → role m l ≡ one → Feeds (before + 1) mid ls new more → Feeds before m (l ∷ ls) new (one ∷ more)
feeds_one before m new l ls mid one more e r h = record {
  mode = ap (λ (x : Mode). mode_after (before + 1) x ls) e ∙ h.mode;
  told = ap (λ (x : Mode). role m l ∷ roles_after (before + 1) x ls) e ∙ ap (λ (x : Role). x ∷ roles_after (before + 1) mid ls) r ∙ ap (λ x. one ∷ x) h.told;
}

feeds_none : (before : ℕ) (m : Mode) → Feeds before m [] m []
feeds_none before m = record { mode = refl; told = refl }

feeds_append : (before : ℕ) (m mid new : Mode) (xs ys : List Line) (said more : List Role) → Feeds before m xs mid said
    → Feeds (before + length xs) mid ys new more → Feeds before m (xs ++ ys) new (said ++ more)
feeds_append before m mid new [] ys said more h k =
    let here : Feeds before mid ys new more = rw add-zero at k in
    record { mode = ap (λ x. mode_after before x ys) h.mode ∙ here.mode; told = ap (λ x. roles_after before x ys) h.mode ∙ here.told ∙ ap (λ x. x ++ more) h.told }
feeds_append before m mid new (x ∷ xs) ys said more h k =
    let r : Mode = (moved (number_behind before) m x).0 in
    let rest : Feeds (before + 1) r (xs ++ ys) new (roles_after (before + 1) r xs ++ more) =
    feeds_append (before + 1) r mid new xs ys (roles_after (before + 1) r xs) more (record { mode = h.mode; told = refl })
    (let same : before + length (x ∷ xs) ≡ before + 1 + length xs = omega arith in rw same at k) in
    record { mode = rest.mode; told = ap (λ w. role m x ∷ w) rest.told ∙ ap (λ w. w ++ more) h.told }

-- the field with one line, and those after it
joins_one : (r : Option Joined) (cards : List (List ℕ)) (k : Joined) → elim r [ None ↦ None | Some m ↦ with_lines m cards ] ≡ Some k
    → (m : Joined) × (r ≡ Some m) × (with_lines m cards ≡ Some k)
joins_one None cards k h = cc
joins_one (Some m) cards k h = (m, refl, h)

below_8 : (n : ℕ) → n + 1 ≤ 8 → (n == 8) ≡ false
below_8 n h = elim (eqb_tells n 8) [ inl w ↦ absurd (omega (arith, w.1)) | inr w ↦ w.0 ]

and_no : (b : Bool) → (b && false) ≡ false
and_no true = refl
and_no false = refl

-- an accepted line that is continued, and one that isn't
goes_on : (r : Option Joined) (c ninth : Bool) (k : Joined) → r ≡ Some k → ninth ≡ false → further_role (is_none r || (ninth && c)) ≡ further
goes_on r c ninth k e f = ap (λ (x : Option Joined). further_role (is_none x || (ninth && c))) e ∙ ap (λ (b : Bool). further_role (b && c)) f

ends_it : (r : Option Joined) (c ninth : Bool) (k : Joined) → r ≡ Some k → c ≡ false → further_role (is_none r || (ninth && c)) ≡ further
ends_it r c ninth k e f = ap (λ (x : Option Joined). further_role (is_none x || (ninth && c))) e ∙ ap (λ (b : Bool). further_role (ninth && b)) f ∙ ap further_role (and_no ninth)

gathers_on : (before n : ℕ) (card : List ℕ) (j : Joined) (count : ℕ) (xs : List Line) (k : Joined) → AllContinued xs → with_lines j (map used xs) ≡ Some k
    → count + length xs ≤ 8 → Feeds before (gathering n card j count) xs (gathering n card k (count + length xs)) (map (λ l. further) xs)
gathers_on before n card j count [] k c h few =
    let same : j ≡ k = cc in rw (add-zero, same) (feeds_none before (gathering n card k count))
gathers_on before n card j count (x ∷ xs) k c h few =
    let one = joins_one (with_line j (used x)) (map used xs) k h in
    let step : moved (number_behind before) (gathering n card j count) x ≡ (gathering n card one.0 (count + 1), []) =
    ap (λ r. gathered_with r (is_continued x) (count == 8) n card count) one.1
    ∙ ap (λ b. gathered_with (Some one.0) b (count == 8) n card count) c.0
    ∙ ap (λ b. gathered_with (Some one.0) true b n card count) (below_8 count (omega arith)) in
    let same : count + length (x ∷ xs) ≡ count + 1 + length xs = omega arith in
    rw same (feeds_one before _ _ x xs _ further _ (ap (λ (r : Mode × List Answer). r.0) step)
    (goes_on (with_line j (used x)) (is_continued x) (count == 8) one.0 one.1 (below_8 count (omega arith)))
    (gathers_on (before + 1) n card one.0 (count + 1) xs k c.1 one.2 (omega arith)))

gathers_whole : (before n : ℕ) (card : List ℕ) (j : Joined) (count : ℕ) (x : Line) (xs : List Line) (k : Joined) → IsGroup x xs
    → with_lines j (map used (x ∷ xs)) ≡ Some k → count + length (x ∷ xs) ≤ 9
    → Feeds before (gathering n card j count) (x ∷ xs) awaiting (map (λ l. further) (x ∷ xs))
gathers_whole before n card j count x [] k c h few =
    let one = joins_one (with_line j (used x)) [] k h in
    let step : moved (number_behind before) (gathering n card j count) x ≡ (awaiting, record { line = n; what = statement_with card one.0.text } ∷ []) =
    ap (λ r. gathered_with r (is_continued x) (count == 8) n card count) one.1
    ∙ ap (λ b. gathered_with (Some one.0) b (count == 8) n card count) c in
    feeds_one before _ _ x [] awaiting further [] (ap (λ (r : Mode × List Answer). r.0) step)
    (ends_it (with_line j (used x)) (is_continued x) (count == 8) one.0 one.1 c) (feeds_none (before + 1) awaiting)
gathers_whole before n card j count x (y ∷ ys) k c h few =
    let one = joins_one (with_line j (used x)) (map used (y ∷ ys)) k h in
    let step : moved (number_behind before) (gathering n card j count) x ≡ (gathering n card one.0 (count + 1), []) =
    ap (λ r. gathered_with r (is_continued x) (count == 8) n card count) one.1
    ∙ ap (λ b. gathered_with (Some one.0) b (count == 8) n card count) c.0
    ∙ ap (λ b. gathered_with (Some one.0) true b n card count) (below_8 count (omega arith)) in
    feeds_one before _ _ x (y ∷ ys) _ further _ (ap (λ (r : Mode × List Answer). r.0) step)
    (goes_on (with_line j (used x)) (is_continued x) (count == 8) one.0 one.1 (below_8 count (omega arith)))
    (gathers_whole (before + 1) n card one.0 (count + 1) y ys k c.1 one.2 (omega arith))

drops_on : (before : ℕ) (x : Line) (xs : List Line) → IsGroup x xs → Feeds before dropping (x ∷ xs) awaiting (map (λ l. gone) (x ∷ xs))
drops_on before x [] h = feeds_one before dropping awaiting x [] awaiting gone [] (ap behind_break h) refl (feeds_none (before + 1) awaiting)
drops_on before x (y ∷ ys) h = feeds_one before dropping awaiting x (y ∷ ys) dropping gone _ (ap behind_break h.0) refl (drops_on (before + 1) y ys h.1)

-- the line that breaks a rule
break_moves : (r : Option Joined) (c : Bool) (n : ℕ) (card : List ℕ) (count : ℕ) → (r ≡ None) ⊎ ((count ≡ 8) × (c ≡ true))
    → (gathered_with r c (count == 8) n card count).0 ≡ behind_break c
break_moves None c n card count h = refl
break_moves (Some j) c n card count (inl e) = cc
break_moves (Some j) c n card count (inr e) =
    ap (λ b. (gathered_with (Some j) b (count == 8) n card count).0) e.1
    ∙ ap (λ b. (gathered_with (Some j) true b n card count).0) (eq-eqb count 8 e.0)
    ∙ ap behind_break (sym e.1)

breaks_it : (r : Option Joined) (c : Bool) (count : ℕ) → (r ≡ None) ⊎ ((count ≡ 8) × (c ≡ true)) → further_role (is_none r || ((count == 8) && c)) ≡ breaking
breaks_it None c count h = refl
breaks_it (Some j) c count (inl e) = cc
breaks_it (Some j) c count (inr e) = ap (λ (b : Bool). further_role (b && c)) (eq-eqb count 8 e.0) ∙ ap further_role e.1

-- a first line that is continued
starts : (before : ℕ) (line : Line) → is_skipped line ≡ false → is_continued line ≡ true
    → (moved (number_behind before) awaiting line).0 ≡ gathering (number_behind before) (used line) (begun (used line)) 0
starts before line e c =
    ap (λ s. (idle_with s (is_continued line) (number_behind before) line).0) e ∙ ap (λ b. (idle_with false b (number_behind before) line).0) c

ends_break : (before : ℕ) (at : Line) (dropped : List Line) → IsGroup at dropped → Feeds before (behind_break (is_continued at)) dropped awaiting (map (λ l. gone) dropped)
ends_break before at [] h = rw h (feeds_none before awaiting)
ends_break before at (d ∷ ds) h = rw h.0 (drops_on before d ds h.1)

part_feeds : (before : ℕ) (p : Part) → IsPart p → Feeds before awaiting (lines_of p) awaiting (roles_of p)
part_feeds before (skipped line) h =
    feeds_one before awaiting awaiting line [] awaiting aside [] (ap (λ s. (idle_with s (is_continued line) (number_behind before) line).0) h) (ap first_role h)
    (feeds_none (before + 1) awaiting)
part_feeds before (whole line []) h =
    feeds_one before awaiting awaiting line [] awaiting first []
    (ap (λ s. (idle_with s (is_continued line) (number_behind before) line).0) h.0 ∙ ap (λ b. (idle_with false b (number_behind before) line).0) h.1)
    (ap first_role h.0) (feeds_none (before + 1) awaiting)
part_feeds before (whole line (x ∷ xs)) h =
    feeds_one before awaiting awaiting line (x ∷ xs) _ first _ (starts before line h.0 h.1.0) (ap first_role h.0)
    (gathers_whole (before + 1) (number_behind before) (used line) (begun (used line)) 0 x xs h.3 h.1.1 h.4 (omega (arith, h.2)))
part_feeds before (broken line lines at dropped) h =
    feeds_one before awaiting awaiting line (lines ++ at ∷ dropped) _ first _ (starts before line h.0 h.1.0) (ap first_role h.0)
    (feeds_append (before + 1) _ _ awaiting lines (at ∷ dropped) _ _
    (gathers_on (before + 1) (number_behind before) (used line) (begun (used line)) 0 lines h.2.0 h.1.1 h.2.1 (omega (arith, h.4)))
    (let b : (with_line h.2.0 (used at) ≡ None) ⊎ ((0 + length lines ≡ 8) × (is_continued at ≡ true)) = rw zero-add h.2.2 in
    feeds_one _ _ awaiting at dropped (behind_break (is_continued at)) breaking _
    (break_moves (with_line h.2.0 (used at)) (is_continued at) (number_behind before) (used line) (0 + length lines) b)
    (breaks_it (with_line h.2.0 (used at)) (is_continued at) (0 + length lines) b)
    (ends_break _ at dropped h.3)))

parts_feed : (before : ℕ) (ps : List Part) → AllByRecursion IsPart ps → Feeds before awaiting (flat_map lines_of ps) awaiting (flat_map roles_of ps)
parts_feed before [] h = feeds_none before awaiting
parts_feed before (p ∷ ps) h =
    feeds_append before awaiting awaiting awaiting (lines_of p) (flat_map lines_of ps) _ _ (part_feeds before p h.0) (parts_feed (before + length (lines_of p)) ps h.1)

pub roles_are_of_parts : RolesAreOfParts
roles_are_of_parts lines answers ps h = ap (roles_after 0 awaiting) h.split ∙ (parts_feed 0 ps h.each).told

-- and of a script that ends in a broken statement, or in one that is open
drops_still : (before : ℕ) (x : Line) (xs : List Line) → IsDropping x xs → Feeds before dropping (x ∷ xs) dropping (map (λ l. gone) (x ∷ xs))
drops_still before x [] h = feeds_one before dropping dropping x [] dropping gone [] (ap behind_break h) refl (feeds_none (before + 1) dropping)
drops_still before x (y ∷ ys) h = feeds_one before dropping dropping x (y ∷ ys) dropping gone _ (ap behind_break h.0) refl (drops_still (before + 1) y ys h.1)

still_break : (before : ℕ) (at : Line) (dropped : List Line) → IsDropping at dropped → Feeds before (behind_break (is_continued at)) dropped dropping (map (λ l. gone) dropped)
still_break before at [] h = rw h (feeds_none before dropping)
still_break before at (d ∷ ds) h = rw h.0 (drops_still before d ds h.1)

pub roles_at_break : RolesAreOfBroken
roles_at_break lines answers h =
    ap (roles_after 0 awaiting) h.split
    ∙ (feeds_append 0 awaiting awaiting dropping (flat_map lines_of h.parts) (h.first ∷ (h.before ++ h.at ∷ h.dropped)) _ _ (parts_feed 0 h.parts h.reads.each)
    (feeds_one _ awaiting dropping h.first (h.before ++ h.at ∷ h.dropped) _ first _ (starts _ h.first h.begins h.continued.0) (ap first_role h.begins)
    (feeds_append _ _ _ dropping h.before (h.at ∷ h.dropped) _ _
    (gathers_on _ _ (used h.first) (begun (used h.first)) 0 h.before h.breaks.0 h.continued.1 h.breaks.1 (omega (arith, h.few)))
    (let b : (with_line h.breaks.0 (used h.at) ≡ None) ⊎ ((0 + length h.before ≡ 8) × (is_continued h.at ≡ true)) = rw zero-add h.breaks.2 in
    feeds_one _ _ dropping h.at h.dropped (behind_break (is_continued h.at)) breaking _
    (break_moves (with_line h.breaks.0 (used h.at)) (is_continued h.at) _ (used h.first) (0 + length h.before) b)
    (breaks_it (with_line h.breaks.0 (used h.at)) (is_continued h.at) (0 + length h.before) b)
    (still_break _ h.at h.dropped h.drops))))).told

pub roles_when_open : RolesAreOfOpen
roles_when_open lines answers number card j count h =
    ap (roles_after 0 awaiting) h.split
    ∙ (feeds_append 0 awaiting awaiting _ (flat_map lines_of h.parts) (h.first ∷ h.before) _ _ (parts_feed 0 h.parts h.reads.each)
    (feeds_one _ awaiting _ h.first h.before _ first _ (starts _ h.first h.begins h.continued.0) (ap first_role h.begins)
    (gathers_on _ _ (used h.first) (begun (used h.first)) 0 h.before j h.continued.1 h.joins (omega (arith, h.few, h.counted))))).told
