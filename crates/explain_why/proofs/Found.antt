-- The statement of a line, if it's found, and that it's explained.
use Rattle.std.proofs.Common.{◌≡◌, ◌≢◌, inl, inr, ℕ, zero, suc, ◌+◌, ◌-◌, ◌<◌, ◌≤◌, Bool, List, [], ◌∷◌, ◌++◌, append_assoc, length, map, take, get_or, Option, Some, None, Result, Ok, Err, IfOk, IfSome, refl, sym, ap, subst, ◌∙◌, arith, zero-add}
use Rattle.std.specs.Prelude.{OnOk}
use Rattle.std.proofs.lemmas.List.{length-append, length-take-le}
use Rattle.std.proofs.KnownBytes.{Appends-nil}
use Rattle.std.specs.Io.KnownBytes.{Appends}
use Rattle.std.specs.List.{flat_map}
use Rattle.vsm_model.specs.declared.limits.Settings.{Settings}
use Rattle.vsm_model.specs.declared.services.Obtain.{Obtain}
use Rattle.vsm_model.specs.Areas.{Place}
use Rattle.vsm_model.specs.Names.{NamedState}
use Rattle.vsm_model.specs.State.{State}
use Rattle.vsm_model.specs.Standing.{nothing_stands}
use Rattle.macro_reader.specs.Roles.{IsStand}
use Rattle.macro_reader.specs.Scripts.{Between, Mode, awaiting, dropping, gathering}
use Rattle.macro_reader.specs.declared.reading.ReaderState.TheVariants as stand
use Rattle.macro_statements.specs.Requests.{Asked, asked_in, act, peek, map_asked, back, forward}
use Rattle.bench_core.specs.Stands.{bench_of, settings_in}
use Rattle.script_steps.specs.Output.{Marked, alone_now, stands_all}
use Rattle.script_steps.specs.Script.{NoFeed, Within, columns, with_feed}
use Rattle.script_steps.specs.Steps.{BringsStep, StepsOver}
use Rattle.script_steps.specs.Taken.{Took, answers_of}
use Rattle.script_steps.specs.declared.session.Session.{Session}
use Rattle.script_steps.specs.declared.steps.Step.{Step}
use Rattle.script_steps.proofs.Standings.{stands_for}
use Rattle.text_output.specs.Writing.{Holds, IsEmpty}
use Rattle.text_output.specs.declared.writing.Gathered.{Gathered}
use Rattle.text_output.proofs.Gathering.{empty_holds, puts_both}
use Rattle.explain_reasons.specs.ToldPlaces.{found_text}
use Rattle.explain_text.specs.Pieces.{PutsSome}
use Rattle.explain_reasons.specs.Pages.{pages_text}
use Rattle.explain_reasons.specs.Told.{IsTold}
use Rattle.explain_why.specs.Explained.{IsExplained, IsFound, IsLineStart, IsPlaceOf, IsStatementAt, TakesLine, WritesAhead, WritesOne, WritesRequest}
use Rattle.explain_why.specs.Answers.{WritesAnswer}
use Rattle.explain_why.specs.Defined.{IsItsDefinition}
use Rattle.explain_why.specs.Obstacles.{IsItsBringer}
use Rattle.explain_why.specs.Details.{WritesDetail}
use Rattle.explain_why.specs.Told.{EndsInOne, IsItsPlace, PutsAmong, TellsAhead, TellsItsPlace, TellsRequest, kept_text, undone_text}
use Rattle.explain_why.specs.declared.ahead.NextStatement as ahead
use Rattle.explain_why.specs.declared.definitions.Definition.{Definition}
use Rattle.explain_why.specs.declared.obstacles.Bringer.{Bringer}
use Rattle.explain_why.specs.declared.ahead.NextStatement.TheVariants as variant
use Rattle.explain_why.specs.declared.faults.WhyFault.{WhyFault}
use Rattle.explain_why.specs.declared.lines.LinePlace.{LinePlace}

-- ---- what precedes a line is whole lines

each_at : (xs : List ℕ) (n : ℕ) → n < length xs → NoFeed xs → get_or xs n 0 ≢ 10
each_at [] n inside h = absurd (omega arith)
each_at (x ∷ xs) zero inside h = h.0
each_at (x ∷ xs) (suc n) inside h = each_at xs n (omega arith) h.1

at_behind : (xs ys : List ℕ) (n : ℕ) → get_or (xs ++ ys) (length xs + n) 0 ≡ get_or ys n 0
at_behind [] ys n = ap (λ (k : ℕ). get_or ys k 0) (zero-add n)
at_behind (x ∷ xs) ys n =
    let more : length (x ∷ xs) + n ≡ suc (length xs + n) = omega arith in ap (λ (k : ℕ). get_or (x ∷ (xs ++ ys)) k 0) more ∙ at_behind xs ys n

at_front : (n i : ℕ) (xs : List ℕ) → i < n → get_or (take n xs) i 0 ≡ get_or xs i 0
at_front zero i xs h = absurd (omega arith)
at_front (suc n) i [] h = refl
at_front (suc n) zero (x ∷ xs) h = refl
at_front (suc n) (suc i) (x ∷ xs) h = at_front n i xs (omega arith)

-- a text whose last byte is a line feed has no other text without one at its end
pub none_behind : (script : List ℕ) (at : ℕ) (front rest : List ℕ) → at ≤ length script → IsLineStart script at → take at script ≡ front ++ rest → NoFeed rest → rest ≡ []
none_behind script at front [] inside start cut plain = refl
none_behind script at front (r ∷ rs) inside start cut plain =
    let size : length (take at script) ≡ at = length-take-le at script inside in
    let both = length-append front (r ∷ rs) in
    let total : at ≡ length front + suc (length rs) = omega (arith, size, ap (λ (xs : List ℕ). length xs) cut, both) in
    elim start [
      | inl none ↦ absurd (omega (arith, total, none))
      | inr feed ↦
          let last : at - 1 ≡ length front + length rs = omega (arith, total) in
          absurd (each_at (r ∷ rs) (length rs) (omega arith) plain
          (sym (at_behind front (r ∷ rs) (length rs)) ∙ ap (λ xs. get_or xs (length front + length rs) 0) (sym cut)
          ∙ at_front at (length front + length rs) script (omega (arith, total)) ∙ ap (λ k. get_or script k 0) (sym last) ∙ feed))
    ]

-- ---- a statement of the line

pub awaits : (m : Mode) → IsStand m stand.Awaiting → m ≡ awaiting
awaits awaiting h = refl
awaits dropping h = absurd (let f : stand.Awaiting ≡ stand.Dropping = h in cc)
awaits (gathering n card j count) h = absurd (let f : stand.Awaiting ≡ stand.Gathering = h in cc)

pub place_found : (s : Session) (script : List ℕ) (at line first : ℕ) (r : Result (Option LinePlace) WhyFault) → first ≡ s.lines + 1 → IsStand s.reader.mode stand.Awaiting →
    IfOk r (λ found. IfSome found (IsStatementAt script at first line)) → IfOk r (λ found. IfSome found (IsPlaceOf s script at line))
place_found s script at line first (Ok (Some place)) is stands found =
    record { awaits = awaits s.reader.mode stands; statement = subst (λ n. IsStatementAt script at n line place) is found }
place_found s script at line first (Ok None) is stands found = found
place_found s script at line first (Err fault) is stands found = found

-- ---- another line is taken

pub line_taken : (script : List ℕ) (at : ℕ) (old new : Session) (told : Option Step) (step : Step) → told ≡ Some step → StepsOver script at (Ok told) →
    ((settings : Settings) (answers : List Marked) → Took settings (take at script) answers old → BringsStep settings script answers new (Ok told)) →
    TakesLine script at old new step.next
line_taken script at old new told step is place brings =
    let over : StepsOver script at (Ok (Some step)) = subst (λ (x : Option Step). StepsOver script at (Ok x)) is place in
    record {
      line = over.1;
      within = over.1.within;
      starts = inr over.1.feed;
      took = λ settings answers took.
          let more : BringsStep settings script answers new (Ok (Some step)) =
          subst (λ (x : Option Step). BringsStep settings script answers new (Ok x)) is (brings settings answers took) in (answers ++ more.0, more.2);
    }

-- the statement is found there
pub found_at : (settings : Settings) (script : List ℕ) (at line : ℕ) (s : Session) (place : LinePlace) → IsPlaceOf s script at line place → IsLineStart script at →
    ((answers : List Marked) × Took settings (take at script) answers s) → IsFound settings script line s place
found_at settings script at line s place its start (answers, took) =
    let same = sym its.statement.begins in
    record {
      before = answers;
      took = subst (λ k. Took settings (take k script) answers s) same took;
      starts = subst (IsLineStart script) same start;
      its = subst (λ k. IsPlaceOf s script k line place) same its;
    }

-- ---- what is put is written

-- the text of a cause
one_written : (is : List ℕ → Type 0) (old now later new : Option (List ℕ)) (a b c : Gathered) → IsEmpty a → EndsInOne is old now a b → PutsSome now later b c →
    ((first : Option (List ℕ)) (text : List ℕ) → Holds first later c text → Appends first new text) → WritesOne is old new
one_written is old now later new a b c none (its, says, (front, puts)) (text, some) finish =
    let all = puts_both old now later a b c (front ++ its) text puts some in (
      its,
      says,
      (
        front,
        text,
        subst (Appends old new) (append_assoc front its text)
            (finish old ((front ++ its) ++ text) (all old [] (empty_holds old old a [] none (Appends-nil old)))),
      ),
    )

-- the place of an area
area_written : (settings : Settings) (s : State) (o : Obtain) (old now later new : Option (List ℕ)) (a b c : Gathered) → IsEmpty a →
    TellsItsPlace settings s o old now a b → PutsSome now later b c →
    ((first : Option (List ℕ)) (text : List ℕ) → Holds first later c text → Appends first new text) →
    (its : Place) × IsItsPlace settings s o its × ((front : List ℕ) × (behind : List ℕ) × Appends old new (front ++ (found_text its ++ behind)))
area_written settings s o old now later new a b c none (its, is, (front, puts)) (text, some) finish =
    let all = puts_both old now later a b c (front ++ found_text its) text puts some in (
      its,
      is,
      (
        front,
        text,
        subst (Appends old new) (append_assoc front (found_text its) text)
            (finish old ((front ++ found_text its) ++ text) (all old [] (empty_holds old old a [] none (Appends-nil old)))),
      ),
    )

-- a text among others
among_written : (is : List ℕ → Type 0) (old now later new : Option (List ℕ)) (a b c : Gathered) → IsEmpty a → PutsAmong is old now a b → PutsSome now later b c →
    ((first : Option (List ℕ)) (text : List ℕ) → Holds first later c text → Appends first new text) → WritesOne is old new
among_written is old now later new a b c none (its, says, (front, behind, puts)) (text, some) finish =
    let all = puts_both old now later a b c (front ++ (its ++ behind)) text puts some in
    let same : (front ++ (its ++ behind)) ++ text ≡ front ++ (its ++ (behind ++ text)) =
    append_assoc front (its ++ behind) text ∙ ap (λ x. front ++ x) (append_assoc its behind text) in (
      its,
      says,
      (
        front,
        behind ++ text,
        subst (Appends old new) same
            (finish old ((front ++ (its ++ behind)) ++ text) (all old [] (empty_holds old old a [] none (Appends-nil old)))),
      ),
    )

request_written : (settings : Settings) (m : NamedState) (kept undone : ℕ) (x : Asked) (old now later new : Option (List ℕ)) (a b c : Gathered) → IsEmpty a →
    TellsRequest settings m kept undone x old now a b → PutsSome now later b c →
    ((first : Option (List ℕ)) (text : List ℕ) → Holds first later c text → Appends first new text) → WritesRequest settings m kept undone x old new
request_written settings m kept undone (act x) old now later new a b c none told some finish = λ valid. record {
  cause = λ service cause asked plain first.
      one_written (IsTold settings m.storage service cause) old now later new a b c none ((told valid).cause service cause asked plain first) some finish;
  area = λ o asked first. area_written settings m.storage o old now later new a b c none ((told valid).area o asked first) some finish;
}
request_written settings m kept undone (peek address count) old now later new a b c none told some finish = λ word valid is.
    among_written (λ text. text ≡ pages_text m.storage word count) old now later new a b c none (told word valid is) some finish
request_written settings m kept undone map_asked old now later new a b c none told some finish = tt
request_written settings m kept undone (back n) old now later new a b c none told some finish =
    among_written (λ text. text ≡ kept_text kept) old now later new a b c none told some finish
request_written settings m kept undone (forward n) old now later new a b c none told some finish =
    among_written (λ text. text ≡ undone_text undone) old now later new a b c none told some finish

pub ahead_written : (settings : Settings) (m : NamedState) (kept undone : ℕ) (x : ahead.NextStatement) (old now later new : Option (List ℕ)) (a b c : Gathered) → IsEmpty a →
    TellsAhead settings m kept undone x old now a b → PutsSome now later b c →
    ((first : Option (List ℕ)) (text : List ℕ) → Holds first later c text → Appends first new text) → WritesAhead settings m kept undone x old new
ahead_written settings m kept undone (variant.Request request) old now later new a b c none told some finish =
    request_written settings m kept undone (asked_in request) old now later new a b c none told some finish
ahead_written settings m kept undone (variant.Fault kind) old now later new a b c none told some finish = tt
ahead_written settings m kept undone variant.Open old now later new a b c none told some finish = tt
ahead_written settings m kept undone variant.Aside old now later new a b c none told some finish = tt

-- ---- and so the statement of the line is explained

pub all_ok : {X E : Type 0} (P Q : Type 0) (R S : X → Type 0) (r : Result X E) → ((x : X) → P → Q → R x → S x) → OnOk r P → OnOk r Q → IfOk r R → IfOk r S
all_ok P Q R S (Ok x) f p q h = f x p q h
all_ok P Q R S (Err e) f p q h = h

pub explained : (settings : Settings) (script : List ℕ) (line : ℕ) (s : Session) (place : LinePlace) (definition : Definition) (bringer : Option Bringer) (old new : Option (List ℕ)) → place.at ≤ length script →
    (found : IsFound settings script line s place) → (refused : Bool) → WritesAhead (settings_in s.bench) (bench_of s.bench).present (length (bench_of s.bench).past) (length (bench_of s.bench).later) place.ahead.asked old new →
    WritesDetail place.first found.its.statement.ahead.lines (bench_of s.bench).present place.ahead.asked definition bringer old new →
    IsItsDefinition settings (bench_of s.bench).present (take place.at script) place.ahead.asked definition →
    IsItsBringer settings (bench_of s.bench).present (take place.at script) place.ahead.asked bringer →
    WritesAnswer settings script found.before place.first line old new refused → IsExplained settings script line old new refused
explained settings script line s place definition bringer old new inside found refused told detail defined brought answer =
    let took = found.took in
    let its = found.its.statement in
    let none : took.rest ≡ [] = none_behind script place.at (flat_map with_feed took.lines) took.rest inside found.starts took.within.cut took.within.unended.0 in
    let read : Between awaiting (map columns took.lines) (answers_of found.before) =
    subst (λ m. Between m (map columns took.lines) (answers_of found.before)) found.its.awaits took.told.between in
    let l = stands_all settings nothing_stands found.before in
    let stands = stands_for settings found.before (bench_of s.bench) took.led in
    let present : (bench_of s.bench).present ≡ alone_now settings l = stands.present in
    let number : place.first ≡ length took.lines + 1 = its.numbered ∙ ap (λ n. n + 1) took.count in
    record {
      place = place.at;
      lines = took.lines;
      within = subst (Within (take place.at script) took.lines) none took.within;
      before = found.before;
      parts = read.0;
      reads = read.1;
      met = took.led.met;
      own = its.ahead.lines;
      behind = its.ahead.behind;
      next = its.ahead.first;
      asked = place.ahead.asked;
      asks = its.ahead.asks;
      bears = its.bears;
      from = omega (arith, its.from, took.count);
      to = omega (arith, its.to, its.ahead.count, took.count);
      tells = subst (λ n. WritesAhead settings (alone_now settings l) l.kept n place.ahead.asked old new) stands.undone
          (subst (λ n. WritesAhead settings (alone_now settings l) n (length (bench_of s.bench).later) place.ahead.asked old new) stands.kept
          (subst (λ m. WritesAhead settings m (length (bench_of s.bench).past) (length (bench_of s.bench).later) place.ahead.asked old new) present
          (subst (λ k. WritesAhead k (bench_of s.bench).present (length (bench_of s.bench).past) (length (bench_of s.bench).later) place.ahead.asked old new) took.under told)));
      definition = definition;
      defined = subst (λ m. IsItsDefinition settings m (take place.at script) place.ahead.asked definition) present defined;
      bringer = bringer;
      brought = subst (λ m. IsItsBringer settings m (take place.at script) place.ahead.asked bringer) present brought;
      detail = subst (λ m. WritesDetail (length took.lines + 1) its.ahead.lines m place.ahead.asked definition bringer old new) present
          (subst (λ n. WritesDetail n its.ahead.lines (bench_of s.bench).present place.ahead.asked definition bringer old new) number detail);
      answer = subst (λ n. WritesAnswer settings script found.before n line old new refused) number answer;
    }
