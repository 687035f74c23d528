-- What a fault says of a line.
use Rattle.std.proofs.Common.{◌≡◌, ◌≢◌, inl, inr, ℕ, zero, suc, ◌+◌, ◌<◌, ◌≤◌, List, drop, length, map, take, Option, Some, None, Result, Ok, Err, IfErr, IfOk, IfNone, refl, sym, ap, subst, ◌∙◌, arith}
use Rattle.vsm_model.specs.declared.limits.Settings.{Settings}
use Rattle.macro_reader.specs.Columns.{Line}
use Rattle.macro_reader.specs.Roles.{IsStand}
use Rattle.macro_reader.specs.Scripts.{Between, Mode, awaiting, dropping, gathering}
use Rattle.macro_reader.specs.declared.reading.ReaderState.TheVariants as stand
use Rattle.script_steps.specs.Output.{Marked}
use Rattle.script_steps.specs.Script.{Within, columns}
use Rattle.script_steps.specs.Taken.{Took, answers_of}
use Rattle.script_steps.specs.declared.session.Session.{Session}
use Rattle.explain_why.specs.Ahead.{AreFirst, Asks, IsAhead, IsAside}
use Rattle.explain_why.specs.declared.ahead.Ahead.{Ahead}
use Rattle.explain_why.specs.declared.ahead.NextStatement as ahead
use Rattle.explain_why.specs.declared.ahead.NextStatement.TheVariants as variant
use Rattle.explain_why.specs.Explained.{IsLineStart}
use Rattle.explain_why.specs.Faults.{HasLineCount, IsBeyond, IsFaultOf, IsLastFault, IsLineAt, IsOtherFault, IsPlaceFault, IsSkippedAt, IsStatementFault}
use Rattle.explain_why.specs.declared.faults.WhyFault.{WhyFault}
use Rattle.explain_why.specs.declared.faults.WhyFault.TheVariants as fault
use Rattle.explain_why.specs.declared.lines.LinePlace.{LinePlace}
use Rattle.explain_why.proofs.Counts.{count_at_last, no_rest}
use Rattle.explain_why.proofs.Found.{awaits}

-- a comment or an empty line is one line
asks_aside : (script : List ℕ) (at : ℕ) (lines : List Line) (behind : List ℕ) (count : ℕ) (asked : ahead.NextStatement) → AreFirst (drop at script) lines behind →
    count ≡ length lines → Asks lines behind asked → asked ≡ variant.Aside → (count ≡ 1) × IsSkippedAt script at
asks_aside script at lines behind count asked first counted asks is =
    let (own, one, skipped) : IsAside lines = subst (λ x. Asks lines behind x) is asks in
    (counted ∙ ap (λ (xs : List Line). length xs) one, (own, behind, subst (λ xs. AreFirst (drop at script) xs behind) one first, skipped))

pub aside_first : (script : List ℕ) (at first line : ℕ) (a : Ahead) → IsAhead (drop at script) a → a.asked ≡ variant.Aside → first ≤ line → line < first + a.lines →
    IsStatementFault script at first line fault.Aside
aside_first script at first line a its is from to =
    let (one, skipped) = asks_aside script at its.lines its.behind a.lines a.asked its.first its.count its.asks is in
    (omega (arith, from, to, one), skipped)

pub drops : (m : Mode) → IsStand m stand.Dropping → m ≡ dropping
drops awaiting h = absurd (let f : stand.Dropping ≡ stand.Awaiting = h in cc)
drops dropping h = refl
drops (gathering n card j count) h = absurd (let f : stand.Dropping ≡ stand.Gathering = h in cc)

-- no statement begins at a place
pub none_found : (s : Session) (line first : ℕ) (r : Result (Option LinePlace) WhyFault) → first ≡ s.lines + 1 →
    IfOk r (λ found. IfNone found (line ≢ first)) → IfOk r (λ found. IfNone found (line ≢ s.lines + 1))
none_found s line first (Ok (Some place)) is h = tt
none_found s line first (Ok None) is h = subst (λ n. line ≢ n) is h
none_found s line first (Err f) is h = tt

place_fault : (s : Session) (script : List ℕ) (at line first : ℕ) (f : WhyFault) → first ≡ s.lines + 1 → IsStand s.reader.mode stand.Awaiting →
    IsStatementFault script at first line f → IsPlaceFault s script at line f
place_fault s script at line first fault.Aside is stands (number, skipped) = (awaits s.reader.mode stands, number ∙ is, skipped)
place_fault s script at line first (fault.New f) is stands h = absurd h
place_fault s script at line first fault.TooLong is stands h = absurd h
place_fault s script at line first fault.Write is stands h = absurd h
place_fault s script at line first fault.Memory is stands h = absurd h
place_fault s script at line first (fault.NoLine n) is stands h = absurd h
place_fault s script at line first fault.Dropped is stands h = absurd h

pub fault_found : (s : Session) (script : List ℕ) (at line first : ℕ) (r : Result (Option LinePlace) WhyFault) → first ≡ s.lines + 1 → IsStand s.reader.mode stand.Awaiting →
    IfErr r (IsStatementFault script at first line) → IfErr r (IsPlaceFault s script at line)
fault_found s script at line first (Ok found) is stands h = tt
fault_found s script at line first (Err f) is stands h = place_fault s script at line first f is stands h

-- the line isn't the next, and so it's beyond that
pub beyond_next : (line n more : ℕ) → IsBeyond line n → line ≢ n + 1 → more ≡ n + 1 → IsBeyond line more
beyond_next line n more (inl none) other is = inl none
beyond_next line n more (inr beyond) other is = inr (omega (arith, beyond, other, is))

pub beyond_none : (line n : ℕ) → n ≡ 0 → IsBeyond line n
beyond_none zero n is = inl refl
beyond_none (suc line) n is = inr (omega (arith, is))

module _ (settings : Settings) (script : List ℕ) (at line : ℕ) (answers : List Marked) (s : Session) (within : at ≤ length script) (start : IsLineStart script at)
    (some : at < length script) (took : Took settings (take at script) answers s) where
  line_at : line ≡ s.lines + 1 → IsLineAt script at line took.lines
  line_at number = record {
    some = some;
    before = subst (Within (take at script) took.lines) (no_rest settings script at answers s within start took) took.within;
    number = number ∙ ap (λ n. n + 1) took.count;
  }

  pub fault_of_place : (f : WhyFault) → IsPlaceFault s script at line f → IsFaultOf script line f
  fault_of_place fault.Aside (mode, number, skipped) =
      let read : Between awaiting (map columns took.lines) (answers_of answers) =
      subst (λ m. Between m (map columns took.lines) (answers_of answers)) mode took.told.between in
      record {
        place = at;
        lines = took.lines;
        its = line_at number;
        answers = answers_of answers;
        parts = read.0;
        reads = read.1;
        skipped = skipped;
      }
  fault_of_place fault.Dropped (mode, number) = record {
    place = at;
    lines = took.lines;
    its = line_at number;
    answers = answers_of answers;
    drops = subst (λ m. Between m (map columns took.lines) (answers_of answers)) mode took.told.between;
  }
  fault_of_place fault.TooLong h = tt
  fault_of_place (fault.New f) h = absurd h
  fault_of_place fault.Write h = absurd h
  fault_of_place fault.Memory h = absurd h
  fault_of_place (fault.NoLine n) h = absurd h

  pub fault_of_last : (f : WhyFault) → IsBeyond line (s.lines + 1) → IsLastFault s script at f → IsFaultOf script line f
  fault_of_last (fault.NoLine n) beyond (plain, is) =
      (subst (λ k. HasLineCount script k) (sym is) (count_at_last settings script at answers s within start took some plain), subst (λ k. IsBeyond line k) (sym is) beyond)
  fault_of_last fault.TooLong beyond h = tt
  fault_of_last (fault.New f) beyond h = absurd h
  fault_of_last fault.Write beyond h = absurd h
  fault_of_last fault.Memory beyond h = absurd h
  fault_of_last fault.Aside beyond h = absurd h
  fault_of_last fault.Dropped beyond h = absurd h

-- a fault that says nothing of the line
pub other_fault : (script : List ℕ) (line : ℕ) (f : WhyFault) → IsOtherFault f → IsFaultOf script line f
other_fault script line fault.Aside h = absurd h
other_fault script line fault.Dropped h = absurd h
other_fault script line (fault.NoLine n) h = absurd h
other_fault script line fault.TooLong h = tt
other_fault script line (fault.New f) h = tt
other_fault script line fault.Write h = tt
other_fault script line fault.Memory h = tt

pub other_says_nothing : {X : Type 0} (script : List ℕ) (line : ℕ) (r : Result X WhyFault) → IfErr r IsOtherFault → IfErr r (IsFaultOf script line)
other_says_nothing script line (Ok x) h = tt
other_says_nothing script line (Err f) h = other_fault script line f h
