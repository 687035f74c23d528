-- PEEKs in the order of the statements that they come after.
use Rattle.std.proofs.Common.{◌≡◌, ℕ, ◌+◌, ◌<◌, ◌≤◌, nat_le, Bool, true, false, if◌then◌else◌, Result, Ok, Err, List, [], ◌∷◌, ◌++◌, length, map, reverse, take, drop, get_or, add-one, refl, sym, ap, subst, ◌∙◌, arith}
use Rattle.std.specs.Prelude.{filter}
use Rattle.std.proofs.lemmas.Bool.{leb-true}
use Rattle.std.proofs.lemmas.List.{length-map, length-reverse, map-append, reverse-append}
use Rattle.std.proofs.lemmas.Simd.{map-map}
use Rattle.std.proofs.Math.Seq.{drop-cons}
use Rattle.bench_core.specs.Machine.{Why, shown_at}
use Rattle.macro_operands.specs.declared.faults.FaultKind.{FaultKind}
use Rattle.macro_operands.specs.declared.requests.Statement.{Statement}
use Rattle.macro_statements.specs.Requests.{Act, Asked, act, peek, map_asked, back, forward}
use Rattle.vsm_model.specs.declared.limits.Settings.{Settings}
use Rattle.vsm_model.specs.declared.replies.Reply.{Reply}
use Rattle.vsm_model.specs.Standing.{Standing, nothing_stands}
use Rattle.script_steps.specs.Output.{Marked, alone_now}
use Rattle.explain_standing.specs.Lined.{standing}
use Rattle.explain_standing.specs.Lined.{lined_after, lined_all, plain}
use Rattle.explain_standing.specs.Trails.{marks_of}
use Rattle.explain_standing.specs.declared.trail.TrailEntry.{TrailEntry}
use Rattle.explain_standing.specs.Readings.{Reading, if_shown, reading_asked, readings_after, readings_all}
use Rattle.explain_findings.specs.Replays.{Rises, depths}
use Rattle.explain_standing.specs.Carried.{line_act}
use Rattle.explain_standing.specs.Standings.{IsFollowedBy, acts_in, reading_in}
use Rattle.explain_standing.specs.declared.standing.Followed.{Followed}
use Rattle.explain_standing.specs.declared.standing.Reading.{Reading as ReadingKept}

-- the next of them
pub its_turn : (rs : List ReadingKept) (i : ℕ) (r : ReadingKept) (low high : ℕ) → i < length rs → r ≡ get_or rs i r → Rises low (depths (drop i rs)) high →
    (low ≤ r.depth) × (r.depth ≤ high) × Rises r.depth (depths (drop (i + 1) rs)) high
its_turn rs i r low high below is h =
    let split : drop i rs ≡ r ∷ drop (i + 1) rs =
    drop-cons rs i r below ∙ (λ j. sym is j ∷ drop (sym (add-one i) j) rs) in
    subst (λ qs. Rises low (depths qs) high) split h

-- ---- in falling order, with the newest first

abbrev Falls : ℕ → List ℕ → Type 0
Falls high [] = Unit {0}
Falls high (d ∷ ds) = (d ≤ high) × Falls d ds

falls_to : (low high : ℕ) (ds : List ℕ) → low ≤ high → Falls low ds → Falls high ds
falls_to low high [] more h = tt
falls_to low high (d ∷ ds) more h = (omega (arith, h.0, more), h.1)

abbrev depth_of : Reading → ℕ
depth_of r = r.depth

falls_kept : (limit high : ℕ) (rs : List Reading) → Falls high (map depth_of rs) → Falls high (map depth_of (filter (λ r. nat_le r.depth limit) rs))
falls_kept limit high [] h = tt
falls_kept limit high (r ∷ rs) h = go (nat_le r.depth limit) (falls_kept limit r.depth rs h.1) where
  go : (b : Bool) → Falls r.depth (map depth_of (filter (λ r. nat_le r.depth limit) rs)) →
      Falls high (map depth_of (if b then r ∷ filter (λ r. nat_le r.depth limit) rs else filter (λ r. nat_le r.depth limit) rs))
  go true rest = (h.0, rest)
  go false rest = falls_to r.depth high (map depth_of (filter (λ r. nat_le r.depth limit) rs)) h.0 rest

falls_below : (limit high : ℕ) (rs : List Reading) → Falls high (map depth_of rs) → Falls limit (map depth_of (filter (λ r. nat_le r.depth limit) rs))
falls_below limit high [] h = tt
falls_below limit high (r ∷ rs) h = go (nat_le r.depth limit) refl (falls_below limit r.depth rs h.1) where
  go : (b : Bool) → nat_le r.depth limit ≡ b → Falls limit (map depth_of (filter (λ r. nat_le r.depth limit) rs)) →
      Falls limit (map depth_of (if b then r ∷ filter (λ r. nat_le r.depth limit) rs else filter (λ r. nat_le r.depth limit) rs))
  go true is rest = (leb-true r.depth limit is, falls_kept limit r.depth rs h.1)
  go false is rest = rest

module _ (settings : Settings) where
  asked_falls : (l : Standing (ℕ × Act) Reply) (line : ℕ) (what : Result Asked FaultKind) (rs : List Reading) → Falls (length l.stood) (map depth_of rs) →
      Falls (length l.stood) (map depth_of (reading_asked settings l line what ++ rs))
  asked_falls l line (Ok (peek address count)) rs h = go (shown_at (alone_now settings (plain l)) address count) where
    go : (shown : Result (List ℕ) Why) →
        Falls (length l.stood) (map depth_of (if_shown shown (record { depth = length l.stood; line = line; address = address; count = count }) ++ rs))
    go (Ok bytes) = (omega arith, h)
    go (Err why) = h
  asked_falls l line (Ok (act x)) rs h = h
  asked_falls l line (Ok map_asked) rs h = h
  asked_falls l line (Ok (back n)) rs h = h
  asked_falls l line (Ok (forward n)) rs h = h
  asked_falls l line (Err kind) rs h = h

  all_fall : (l : Standing (ℕ × Act) Reply) (rs : List Reading) (ms : List Marked) → Falls (length l.stood) (map depth_of rs) →
      Falls (length (lined_all settings l ms).stood) (map depth_of (readings_all settings l rs ms))
  all_fall l rs [] h = h
  all_fall l rs (m ∷ ms) h =
      all_fall (lined_after settings l m) (readings_after settings l rs m) ms
      (falls_below (length (lined_after settings l m).stood) (length l.stood) (reading_asked settings l m.answer.line m.answer.what ++ rs)
      (asked_falls l m.answer.line m.answer.what rs h))

-- ---- and in rising order

rises_push : (low d high : ℕ) (ds : List ℕ) → low ≤ d → d ≤ high → Rises low ds d → Rises low (ds ++ d ∷ []) high
rises_push low d high [] from to h = (from, to, tt)
rises_push low d high (x ∷ ds) from to h = (h.0, omega (arith, h.1, to), rises_push x d high ds h.1 to h.2)

turned_over : (high : ℕ) (ds : List ℕ) → Falls high ds → Rises 0 (reverse ds) high
turned_over high [] h = tt
turned_over high (d ∷ ds) h =
    subst (λ es. Rises 0 es high) (sym (reverse-append (d ∷ []) ds)) (rises_push 0 d high (reverse ds) (omega arith) h.0 (turned_over d ds h.1))

map_turned : {A B : Type 0} (f : A → B) (xs : List A) → map f (reverse xs) ≡ reverse (map f xs)
map_turned f [] = refl
map_turned f (x ∷ xs) =
    ap (map f) (reverse-append (x ∷ []) xs) ∙ map-append f (reverse xs) (x ∷ []) ∙ ap (λ ys. ys ++ f x ∷ []) (map_turned f xs)
    ∙ sym (reverse-append (f x ∷ []) (map f xs))

-- Those that were kept of a script.
pub readings_rise : (settings : Settings) (script : List ℕ) (f : Followed) → IsFollowedBy settings script f → (entries : List (TrailEntry Statement)) (readings : List ReadingKept) →
    entries ≡ take (marks_of f.trail).standing (marks_of f.trail).entries → readings ≡ f.readings.items → Rises 0 (depths readings) (length entries)
readings_rise settings script f h entries readings entries_are readings_are =
    let l = lined_all settings nothing_stands h.answers in
    let found : List Reading = readings_all settings nothing_stands [] h.answers in
    let many : length l.stood ≡ length entries =
    sym (length-map l.stood (λ x. x.statement)) ∙ sym (length-reverse (standing settings h.answers)) ∙ ap length (sym h.acts)
    ∙ ap (λ es. length (acts_in es)) (sym entries_are) ∙ length-map entries line_act in
    let same : depths readings ≡ reverse (map depth_of found) =
    ap depths readings_are ∙ sym (map-map depth_of reading_in f.readings.items) ∙ ap (map depth_of) h.readings ∙ map_turned depth_of found in
    subst (λ ds. Rises 0 ds (length entries)) (sym same)
    (subst (Rises 0 (reverse (map depth_of found))) many (turned_over (length l.stood) (map depth_of found) (all_fall settings nothing_stands [] h.answers tt)))
