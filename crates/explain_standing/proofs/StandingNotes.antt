-- The marks of statements as the definitions see them, and the readings in turn.
use Rattle.std.proofs.Common.{◌≡◌, ℕ, suc, List, [], ◌∷◌, ◌++◌, map, reverse, take, Option, Some, None, Result, Ok, Err, OnOk, refl, sym, ap, ◌∙◌}
use Rattle.std.proofs.lemmas.Grind.{reverse_onto}
use Rattle.std.proofs.lemmas.List.{map-append, reverse-reverse, take-map}
use Rattle.std.proofs.lemmas.Simd.{map-map}
use Rattle.macro_operands.specs.declared.requests.Statement.{Statement}
use Rattle.macro_statements.specs.Requests.{Act, Asked, act_in}
use Rattle.vsm_model.specs.declared.replies.Reply.{Reply}
use Rattle.vsm_model.specs.Standing.{Standing}
use Rattle.script_steps.specs.declared.responses.Response.{Response}
use Rattle.script_steps.specs.declared.responses.Response.TheVariants as response
use Rattle.explain_standing.specs.Notes.{with_told}
use Rattle.explain_standing.specs.Trails as marks
use Rattle.explain_standing.specs.Trails.{Marks, marks_of, seen_along, with_mark}
use Rattle.explain_standing.specs.declared.trail.Trail.{Trail}
use Rattle.explain_standing.specs.declared.trail.TrailEntry.{TrailEntry}
use Rattle.explain_standing.proofs.Moves.{standing_marks}
use Rattle.explain_standing.specs.Readings.{Reading}
use Rattle.explain_standing.specs.Standings.{IsIdle, acts_in, marks_in, newest, reading_in, readings_in, readings_noted}
use Rattle.explain_standing.specs.declared.standing.Reading.{Reading as ReadingKept}

abbrev entry_in : TrailEntry Statement → TrailEntry Act
entry_in e = record { line = e.line; seen = act_in e.seen }

abbrev marks_as : Marks Statement → Marks Act
marks_as m = record { entries = map entry_in m.entries; standing = m.standing }

-- What holds after a success.
pub if_ok : {A E : Type 0} (r : Result A E) (P Q : Type 0) → (P → Q) → OnOk r P → OnOk r Q
if_ok (Ok a) P Q f h = f h
if_ok (Err e) P Q f h = tt

-- Another statement is in effect.
pub applied_in : (t u : Trail Statement) (line : ℕ) (s : Statement) (x : Act) → marks_of u ≡ with_mark (marks_of t) line s → act_in s ≡ x →
    marks_in u ≡ with_mark (marks_in t) line x
applied_in t u line s x is says =
    let es : List (TrailEntry Statement) = t.entries.items in
    let new : TrailEntry Statement = record { line = line; seen = s } in
    ap marks_as is
    ∙ ap (λ xs. record { entries = xs; standing = suc t.standing })
    (map-append entry_in (take t.standing es) (new ∷ [])
    ∙ ap (λ xs. xs ++ entry_in new ∷ []) (sym (take-map entry_in t.standing es))
    ∙ ap (λ y. take t.standing (map entry_in es) ++ record { line = line; seen = y } ∷ []) says)

-- A response that changes nothing.
pub idle_acts : (x : Act) (before : ℕ) (told : Option (ℕ × Response)) (t : Marks Act) → IsIdle told → t ≡ with_told x before told t
idle_acts x before None t idle = refl
idle_acts x before (Some (line, response.Replied reply)) t idle = absurd idle
idle_acts x before (Some (line, response.Kept n)) t idle = absurd idle
idle_acts x before (Some (line, response.Shown)) t idle = absurd idle
idle_acts x before (Some (line, response.Refused why)) t idle = refl
idle_acts x before (Some (line, response.TooFar n)) t idle = refl
idle_acts x before (Some (line, response.TooFarAhead n)) t idle = refl
idle_acts x before (Some (line, response.Map)) t idle = refl
idle_acts x before (Some (line, response.Fault kind)) t idle = refl

pub idle_readings : (told : Option (ℕ × Response)) (asked : Asked) (n k : ℕ) (rs : List Reading) → IsIdle told → rs ≡ readings_noted told asked n k rs
idle_readings None asked n k rs idle = refl
idle_readings (Some (line, response.Replied reply)) asked n k rs idle = absurd idle
idle_readings (Some (line, response.Kept m)) asked n k rs idle = absurd idle
idle_readings (Some (line, response.Shown)) asked n k rs idle = absurd idle
idle_readings (Some (line, response.Refused why)) asked n k rs idle = refl
idle_readings (Some (line, response.TooFar m)) asked n k rs idle = refl
idle_readings (Some (line, response.TooFarAhead m)) asked n k rs idle = refl
idle_readings (Some (line, response.Map)) asked n k rs idle = refl
idle_readings (Some (line, response.Fault kind)) asked n k rs idle = refl

map_back : {A B : Type 0} (h : A → B) (xs : List A) → map h (reverse xs) ≡ reverse (map h xs)
map_back h [] = refl
map_back h (x ∷ xs) =
    ap (map h) (reverse_onto xs x [])
    ∙ map-append h (reverse xs) (x ∷ [])
    ∙ ap (λ ys. ys ++ h x ∷ []) (map_back h xs)
    ∙ sym (reverse_onto (map h xs) (h x) [])

-- what is kept after statements is the statements
newest_along : (older : List Act) (xs : List (ℕ × Act)) → map (λ (e : TrailEntry Act). (e.line, e.seen)) (seen_along newest older xs) ≡ xs
newest_along older [] = refl
newest_along older (x ∷ xs) = ap (λ ys. x ∷ ys) (newest_along (x.1 ∷ older) xs)

-- The statements in effect, oldest first.
pub acts_stand : (l : Standing (ℕ × Act) Reply) (t : Trail Statement) → marks.Follows newest l (marks_in t) →
    acts_in (take (marks_of t).standing (marks_of t).entries) ≡ reverse (map (λ x. x.statement) l.stood)
acts_stand l t f =
    let es : List (TrailEntry Statement) = t.entries.items in
    let plainly : TrailEntry Act → ℕ × Act = λ e. (e.line, e.seen) in
    sym (map-map plainly entry_in (take t.standing es))
    ∙ ap (map plainly) (sym (take-map entry_in t.standing es) ∙ standing_marks newest l (marks_in t) f)
    ∙ newest_along [] (map (λ x. x.statement) (reverse l.stood))
    ∙ map_back (λ x. x.statement) l.stood

-- The readings, oldest first.
pub readings_turned : (xs : List ReadingKept) (rs : List Reading) → readings_in xs ≡ rs → map reading_in xs ≡ reverse rs
readings_turned xs rs is = ap (map reading_in) (sym (reverse-reverse xs)) ∙ map_back reading_in (reverse xs) ∙ ap reverse is
