-- The state of a reader that was fed lines is the one that they move it to, and its answers are those that they make.
use Rattle.std.proofs.Common.{◌≡◌, ℕ, ◌+◌, ◌≤◌, ◌⊎◌, ◌==◌, map, Bool, true, false, List, [], ◌∷◌, ◌++◌, length, Option, Some, None, Err, refl, ap, sym, ◌∙◌, append_assoc, arith, inl, inr, add-zero, zero-add}
use Rattle.std.specs.List.{flat_map, AllByRecursion}
use Rattle.std.proofs.lemmas.List.{append-nil}
use Rattle.std.proofs.lemmas.Bool.{eq-eqb}
use Rattle.std.proofs.lemmas.Bool.Decides.{eqb_tells}
use Rattle.macro_reader.specs.Columns.{Line, used, is_continued, is_skipped}
use Rattle.macro_reader.specs.Continuation.{Joined, begun, with_line, with_lines}
use Rattle.macro_statements.specs.Statements.{statement_with}
use Rattle.macro_operands.specs.declared.faults.FaultKind.TheVariants as kind
use Rattle.macro_reader.specs.Roles.{role, roles_after}
use Rattle.macro_reader.specs.Scripts.{Answer, number_behind, IsDropping, Part, skipped, whole, broken, IsPart, IsGroup, IsBreak, AllContinued, said_by, lines_of, answer_to, answers_behind, Reads, Between, Mode, awaiting, dropping, gathering, idle_with, gathered_with, behind_break, moved}

abbrev pub mode_after : ℕ → Mode → List Line → Mode
mode_after before m [] = m
mode_after before m (l ∷ ls) = mode_after (before + 1) (moved (number_behind before) m l).0 ls

abbrev pub said_after : ℕ → Mode → List Line → List Answer
said_after before m [] = []
said_after before m (l ∷ ls) = (moved (number_behind before) m l).1 ++ said_after (before + 1) (moved (number_behind before) m l).0 ls

record Feeds (before : ℕ) (m : Mode) (lines : List Line) (new : Mode) (said : List Answer) : Type 0 where
  mode : mode_after before m lines ≡ new
  told : said_after before m lines ≡ said

-- one line
feeds_one : (before : ℕ) (m new : Mode) (l : Line) (ls : List Line) (mid : Mode) (said more : List Answer) → moved (number_behind before) m l ≡ (mid, said)
    → Feeds (before + 1) mid ls new more → Feeds before m (l ∷ ls) new (said ++ more)
feeds_one before m new l ls mid said more e h = record {
  mode = ap (λ (r : Mode × List Answer). mode_after (before + 1) r.0 ls) e ∙ h.mode;
  told = ap (λ (r : Mode × List Answer). r.1 ++ said_after (before + 1) r.0 ls) e ∙ ap (λ x. said ++ x) h.told;
}

feeds_none : (before : ℕ) (m : Mode) → Feeds before m [] m []
feeds_none before m = record { mode = refl; told = refl }

feeds_append : (before : ℕ) (m mid new : Mode) (xs ys : List Line) (said more : List Answer) → Feeds before m xs mid said
    → Feeds (before + length xs) mid ys new more → Feeds before m (xs ++ ys) new (said ++ more)
feeds_append before m mid new [] ys said more h k =
    let here : Feeds before mid ys new more = rw add-zero at k in
    record { mode = ap (λ x. mode_after before x ys) h.mode ∙ here.mode; told = ap (λ x. said_after before x ys) h.mode ∙ here.told ∙ ap (λ x. x ++ more) h.told }
feeds_append before m mid new (x ∷ xs) ys said more h k =
    let r : Mode × List Answer = moved (number_behind before) m x in
    let rest : Feeds (before + 1) r.0 (xs ++ ys) new (said_after (before + 1) r.0 xs ++ more) =
    feeds_append (before + 1) r.0 mid new xs ys (said_after (before + 1) r.0 xs) more (record { mode = h.mode; told = refl })
    (let same : before + length (x ∷ xs) ≡ before + 1 + length xs = omega arith in rw same at k) in
    record { mode = rest.mode; told = ap (λ w. r.1 ++ w) rest.told ∙ sym (append_assoc r.1 (said_after (before + 1) r.0 xs) more) ∙ ap (λ w. w ++ more) h.told }

-- the field with one line, and those after it
joins_one : (r : Option Joined) (cards : List (List ℕ)) (k : Joined) → elim r [ None ↦ None | Some m ↦ with_lines m cards ] ≡ Some k
    → (m : Joined) × (r ≡ Some m) × (with_lines m cards ≡ Some k)
joins_one None cards k h = cc
joins_one (Some m) cards k h = (m, refl, h)

below_8 : (n : ℕ) → n + 1 ≤ 8 → (n == 8) ≡ false
below_8 n h = elim (eqb_tells n 8) [ inl w ↦ absurd (omega (arith, w.1)) | inr w ↦ w.0 ]

abbrev fault_of : ℕ → List Answer
fault_of number = record { line = number; what = Err kind.Continuation } ∷ []

gathers_on : (before n : ℕ) (card : List ℕ) (j : Joined) (count : ℕ) (xs : List Line) (k : Joined) → AllContinued xs → with_lines j (map used xs) ≡ Some k
    → count + length xs ≤ 8 → Feeds before (gathering n card j count) xs (gathering n card k (count + length xs)) []
gathers_on before n card j count [] k c h few =
    let same : j ≡ k = cc in rw (add-zero, same) (feeds_none before (gathering n card k count))
gathers_on before n card j count (x ∷ xs) k c h few =
    let one = joins_one (with_line j (used x)) (map used xs) k h in
    let step : moved (number_behind before) (gathering n card j count) x ≡ (gathering n card one.0 (count + 1), []) =
    ap (λ r. gathered_with r (is_continued x) (count == 8) n card count) one.1
    ∙ ap (λ b. gathered_with (Some one.0) b (count == 8) n card count) c.0
    ∙ ap (λ b. gathered_with (Some one.0) true b n card count) (below_8 count (omega arith)) in
    let same : count + length (x ∷ xs) ≡ count + 1 + length xs = omega arith in
    rw same (feeds_one before _ _ x xs _ [] [] step (gathers_on (before + 1) n card one.0 (count + 1) xs k c.1 one.2 (omega arith)))

gathers_whole : (before n : ℕ) (card : List ℕ) (j : Joined) (count : ℕ) (x : Line) (xs : List Line) (k : Joined) → IsGroup x xs
    → with_lines j (map used (x ∷ xs)) ≡ Some k → count + length (x ∷ xs) ≤ 9
    → Feeds before (gathering n card j count) (x ∷ xs) awaiting (record { line = n; what = statement_with card k.text } ∷ [])
gathers_whole before n card j count x [] k c h few =
    let one = joins_one (with_line j (used x)) [] k h in
    let same : one.0 ≡ k = (let e = one.2 in cc) in
    let step : moved (number_behind before) (gathering n card j count) x ≡ (awaiting, record { line = n; what = statement_with card k.text } ∷ []) =
    ap (λ r. gathered_with r (is_continued x) (count == 8) n card count) one.1
    ∙ ap (λ b. gathered_with (Some one.0) b (count == 8) n card count) c
    ∙ ap (λ (m : Joined). gathered_with (Some m) false (count == 8) n card count) same in
    feeds_one before _ _ x [] awaiting _ [] step (feeds_none (before + 1) awaiting)
gathers_whole before n card j count x (y ∷ ys) k c h few =
    let one = joins_one (with_line j (used x)) (map used (y ∷ ys)) k h in
    let step : moved (number_behind before) (gathering n card j count) x ≡ (gathering n card one.0 (count + 1), []) =
    ap (λ r. gathered_with r (is_continued x) (count == 8) n card count) one.1
    ∙ ap (λ b. gathered_with (Some one.0) b (count == 8) n card count) c.0
    ∙ ap (λ b. gathered_with (Some one.0) true b n card count) (below_8 count (omega arith)) in
    feeds_one before _ _ x (y ∷ ys) _ [] _ step (gathers_whole (before + 1) n card one.0 (count + 1) y ys k c.1 one.2 (omega arith))

drops_on : (before : ℕ) (x : Line) (xs : List Line) → IsGroup x xs → Feeds before dropping (x ∷ xs) awaiting []
drops_on before x [] h = feeds_one before dropping awaiting x [] awaiting [] [] (ap (λ b. (behind_break b, [])) h) (feeds_none (before + 1) awaiting)
drops_on before x (y ∷ ys) h = feeds_one before dropping awaiting x (y ∷ ys) dropping [] [] (ap (λ b. (behind_break b, [])) h.0) (drops_on (before + 1) y ys h.1)

drops_still : (before : ℕ) (x : Line) (xs : List Line) → IsDropping x xs → Feeds before dropping (x ∷ xs) dropping []
drops_still before x [] h = feeds_one before dropping dropping x [] dropping [] [] (ap (λ b. (behind_break b, [])) h) (feeds_none (before + 1) dropping)
drops_still before x (y ∷ ys) h = feeds_one before dropping dropping x (y ∷ ys) dropping [] [] (ap (λ b. (behind_break b, [])) h.0) (drops_still (before + 1) y ys h.1)

-- the line that breaks a rule
break_moves : (r : Option Joined) (c : Bool) (n : ℕ) (card : List ℕ) (count : ℕ) → (r ≡ None) ⊎ ((count ≡ 8) × (c ≡ true))
    → gathered_with r c (count == 8) n card count ≡ (behind_break c, fault_of n)
break_moves None c n card count h = refl
break_moves (Some j) c n card count (inl e) = cc
break_moves (Some j) c n card count (inr e) =
    ap (λ b. gathered_with (Some j) b (count == 8) n card count) e.1
    ∙ ap (λ b. gathered_with (Some j) true b n card count) (eq-eqb count 8 e.0)
    ∙ ap (λ b. (behind_break b, fault_of n)) (sym e.1)

-- a first line that is continued
starts : (before : ℕ) (line : Line) → is_skipped line ≡ false → is_continued line ≡ true
    → moved (number_behind before) awaiting line ≡ (gathering (number_behind before) (used line) (begun (used line)) 0, [])
starts before line e c =
    ap (λ s. idle_with s (is_continued line) (number_behind before) line) e ∙ ap (λ b. idle_with false b (number_behind before) line) c

-- the break, and the lines dropped after it
breaks_on : (before n : ℕ) (card : List ℕ) (j : Joined) (count : ℕ) (at : Line) (new : Mode) (dropped : List Line)
    → (with_line j (used at) ≡ None) ⊎ ((count ≡ 8) × (is_continued at ≡ true)) → Feeds (before + 1) (behind_break (is_continued at)) dropped new []
    → Feeds before (gathering n card j count) (at ∷ dropped) new (fault_of n)
breaks_on before n card j count at new dropped b h =
    feeds_one before _ new at dropped (behind_break (is_continued at)) (fault_of n) [] (break_moves (with_line j (used at)) (is_continued at) n card count b) h

ends_break : (before : ℕ) (at : Line) (dropped : List Line) → IsGroup at dropped → Feeds before (behind_break (is_continued at)) dropped awaiting []
ends_break before at [] h = rw h (feeds_none before awaiting)
ends_break before at (d ∷ ds) h = rw h.0 (drops_on before d ds h.1)

still_break : (before : ℕ) (at : Line) (dropped : List Line) → IsDropping at dropped → Feeds before (behind_break (is_continued at)) dropped dropping []
still_break before at [] h = rw h (feeds_none before dropping)
still_break before at (d ∷ ds) h = rw h.0 (drops_still before d ds h.1)

-- a broken statement from its first line on
broken_feeds : (before : ℕ) (line : Line) (lines : List Line) (at : Line) (dropped : List Line) (new : Mode) → is_skipped line ≡ false → AllContinued (line ∷ lines)
    → (j : Joined) × (with_lines (begun (used line)) (map used lines) ≡ Some j) × IsBreak j lines at → length lines ≤ 8
    → ((b : ℕ) → Feeds b (behind_break (is_continued at)) dropped new [])
    → Feeds before awaiting (line ∷ (lines ++ at ∷ dropped)) new (fault_of (number_behind before))
broken_feeds before line lines at dropped new e c b few h =
    feeds_one before awaiting new line (lines ++ at ∷ dropped) _ [] _ (starts before line e c.0)
    (feeds_append (before + 1) _ _ new lines (at ∷ dropped) [] _
    (gathers_on (before + 1) (number_behind before) (used line) (begun (used line)) 0 lines b.0 c.1 b.1 (omega arith))
    (breaks_on _ (number_behind before) (used line) b.0 (0 + length lines) at new dropped (rw zero-add b.2) (h _)))

part_feeds : (before : ℕ) (p : Part) → IsPart p → Feeds before awaiting (lines_of p) awaiting (answer_to before p)
part_feeds before (skipped line) h =
    feeds_one before awaiting awaiting line [] awaiting [] [] (ap (λ s. idle_with s (is_continued line) (number_behind before) line) h) (feeds_none (before + 1) awaiting)
part_feeds before (whole line []) h =
    feeds_one before awaiting awaiting line [] awaiting _ []
    (ap (λ s. idle_with s (is_continued line) (number_behind before) line) h.0 ∙ ap (λ b. idle_with false b (number_behind before) line) h.1)
    (feeds_none (before + 1) awaiting)
part_feeds before (whole line (x ∷ xs)) h =
    let joined : with_lines (begun (used line)) (map used (x ∷ xs)) ≡ Some h.3 = h.4 in
    rw (ap {B = List Answer} (λ r. record { line = number_behind before; what = said_by (used line) r } ∷ []) joined)
    (feeds_one before awaiting awaiting line (x ∷ xs) _ [] _ (starts before line h.0 h.1.0)
    (gathers_whole (before + 1) (number_behind before) (used line) (begun (used line)) 0 x xs h.3 h.1.1 joined (omega (arith, h.2))))
part_feeds before (broken line lines at dropped) h =
    broken_feeds before line lines at dropped awaiting h.0 h.1 h.2 h.4 (λ b. ends_break b at dropped h.3)

parts_feed : (before : ℕ) (ps : List Part) → AllByRecursion IsPart ps → Feeds before awaiting (flat_map lines_of ps) awaiting (answers_behind before ps)
parts_feed before [] h = feeds_none before awaiting
parts_feed before (p ∷ ps) h =
    feeds_append before awaiting awaiting awaiting (lines_of p) (flat_map lines_of ps) _ _ (part_feeds before p h.0) (parts_feed (before + length (lines_of p)) ps h.1)

reads_feed : (lines : List Line) (answers : List Answer) (ps : List Part) → Reads lines answers ps → Feeds 0 awaiting lines awaiting answers
reads_feed lines answers ps h = rw (h.split, h.told) (parts_feed 0 ps h.each)

-- so each state between two lines is that one
pub between_is : (m : Mode) (lines : List Line) (answers : List Answer) → Between m lines answers
    → (mode_after 0 awaiting lines ≡ m) × (said_after 0 awaiting lines ≡ answers)
between_is awaiting lines answers h =
    let f : Feeds 0 awaiting lines awaiting answers = reads_feed lines answers h.0 h.1 in
    (f.mode, f.told)
between_is dropping lines answers h =
    let n : ℕ = length (flat_map lines_of h.parts) in
    let front : Feeds 0 awaiting (flat_map lines_of h.parts) awaiting h.whole_answers = reads_feed _ h.whole_answers h.parts h.reads in
    let f : Feeds 0 awaiting lines dropping answers =
    rw (h.split, h.told) (feeds_append 0 awaiting awaiting dropping (flat_map lines_of h.parts) (h.first ∷ (h.before ++ h.at ∷ h.dropped)) h.whole_answers (fault_of (number_behind n)) front
    (rw (zero-add n) (broken_feeds n h.first h.before h.at h.dropped dropping h.begins h.continued h.breaks h.few (λ b. still_break b h.at h.dropped h.drops)))) in
    (f.mode, f.told)
between_is (gathering number card j count) lines answers h =
    let n : ℕ = length (flat_map lines_of h.parts) in
    let front : Feeds 0 awaiting (flat_map lines_of h.parts) awaiting answers = reads_feed _ answers h.parts h.reads in
    let f : Feeds 0 awaiting lines (gathering (number_behind n) (used h.first) j (0 + length h.before)) (answers ++ []) =
    rw h.split (feeds_append 0 awaiting awaiting _ (flat_map lines_of h.parts) (h.first ∷ h.before) answers [] front
    (rw (zero-add n) (feeds_one n awaiting _ h.first h.before _ [] [] (starts n h.first h.begins h.continued.0)
    (gathers_on (n + 1) _ (used h.first) (begun (used h.first)) 0 h.before j h.continued.1 h.joins (omega (arith, h.counted, h.few)))))) in (
      f.mode ∙ (λ i. gathering (sym h.numbered i) (sym h.card_is i) j ((zero-add (length h.before) ∙ sym h.counted) i)),
      f.told ∙ append-nil answers,
    )

-- ---- one more line

mode_push : (before : ℕ) (m : Mode) (lines : List Line) (l : Line)
    → mode_after before m (lines ++ l ∷ []) ≡ (moved (number_behind (before + length lines)) (mode_after before m lines) l).0
mode_push before m [] l = ap (λ k. (moved (number_behind k) m l).0) (sym (add-zero before))
mode_push before m (x ∷ lines) l =
    mode_push (before + 1) (moved (number_behind before) m x).0 lines l
    ∙ ap (λ k. (moved (number_behind k) (mode_after before m (x ∷ lines)) l).0) (omega arith)

said_push : (before : ℕ) (m : Mode) (lines : List Line) (l : Line)
    → said_after before m (lines ++ l ∷ []) ≡ said_after before m lines ++ (moved (number_behind (before + length lines)) (mode_after before m lines) l).1
said_push before m [] l = append-nil (moved (number_behind before) m l).1 ∙ ap (λ k. (moved (number_behind k) m l).1) (sym (add-zero before))
said_push before m (x ∷ lines) l =
    ap (λ a. (moved (number_behind before) m x).1 ++ a) (said_push (before + 1) (moved (number_behind before) m x).0 lines l)
    ∙ sym (append_assoc (moved (number_behind before) m x).1 (said_after (before + 1) (moved (number_behind before) m x).0 lines) _)
    ∙ ap (λ k. said_after before m (x ∷ lines) ++ (moved (number_behind k) (mode_after before m (x ∷ lines)) l).1) (omega arith)

roles_push : (before : ℕ) (m : Mode) (lines : List Line) (l : Line)
    → roles_after before m (lines ++ l ∷ []) ≡ roles_after before m lines ++ role (mode_after before m lines) l ∷ []
roles_push before m [] l = refl
roles_push before m (x ∷ lines) l = ap (λ t. role m x ∷ t) (roles_push (before + 1) (moved (number_behind before) m x).0 lines l)

pub append_same : {X : Type 0} (xs ys zs : List X) → xs ++ ys ≡ xs ++ zs → ys ≡ zs
append_same [] ys zs h = h
append_same (x ∷ xs) ys zs h = append_same xs ys zs (cc)

-- A line moves a reader as the grammar says, if it stands so before and after it.
pub record Moves (m new : Mode) (lines : List Line) (l : Line) (said : List Answer) : Type 0 where
  pub number : ℕ
  pub mode : (moved number m l).0 ≡ new
  pub told : (moved number m l).1 ≡ said
  pub roles : roles_after 0 awaiting (lines ++ l ∷ []) ≡ roles_after 0 awaiting lines ++ role m l ∷ []

pub line_moves : (m new : Mode) (lines : List Line) (l : Line) (answers said : List Answer) → Between m lines answers
    → Between new (lines ++ l ∷ []) (answers ++ said) → Moves m new lines l said
line_moves m new lines l answers said h k =
    let old = between_is m lines answers h in
    let now = between_is new (lines ++ l ∷ []) (answers ++ said) k in
    let n = number_behind (0 + length lines) in
    record {
      number = n;
      mode = ap (λ x. (moved n x l).0) (sym old.0) ∙ sym (mode_push 0 awaiting lines l) ∙ now.0;
      told = append_same answers (moved n m l).1 said
          (ap (λ a. a ++ (moved n m l).1) (sym old.1) ∙ ap (λ x. said_after 0 awaiting lines ++ (moved n x l).1) (sym old.0) ∙ sym (said_push 0 awaiting lines l) ∙ now.1);
      roles = roles_push 0 awaiting lines l ∙ ap (λ x. roles_after 0 awaiting lines ++ role x l ∷ []) old.0;
    }

-- Without a line it stands as before, and has no answer.
pub none_moves : (m new : Mode) (lines : List Line) (answers said : List Answer) → Between m lines answers → Between new lines (answers ++ said)
    → (m ≡ new) × (said ≡ [])
none_moves m new lines answers said h k =
    let old = between_is m lines answers h in
    let now = between_is new lines (answers ++ said) k in
    (sym old.0 ∙ now.0, append_same answers said [] (sym now.1 ∙ old.1 ∙ sym (append-nil answers)))

-- A reader that was fed no line awaits a statement.
pub fed_none : (m : Mode) (answers : List Answer) → Between m [] answers → m ≡ awaiting
fed_none m answers h = sym (between_is m [] answers h).0
