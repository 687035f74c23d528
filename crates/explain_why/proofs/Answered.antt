-- The next answer of a script, by what a session brings.
use Rattle.std.proofs.Common.{◌≡◌, inl, inr, ℕ, Bool, true, false, List, [], ◌∷◌, ◌++◌, take, Option, Some, None, append_assoc, is_some, refl, sym, subst, true≢false}
use Rattle.std.proofs.lemmas.List.{append-nil}
use Rattle.std.proofs.KnownBytes.{Appends-nil}
use Rattle.std.specs.Io.KnownBytes.{Appends}
use Rattle.std.specs.Prelude.{Ok}
use Rattle.std.specs.Option.{option_or}
use Rattle.vsm_model.specs.declared.limits.Settings.{Settings}
use Rattle.script_steps.specs.Output.{Marked}
use Rattle.script_steps.specs.Steps.{ShowsStep}
use Rattle.script_steps.specs.Taken.{Brings, EndBrings, Ended, Shows, Took, Unended}
use Rattle.script_steps.specs.declared.lines.Ending.{Ending}
use Rattle.script_steps.specs.declared.responses.Response.{Response}
use Rattle.script_steps.specs.declared.session.Session.{Session}
use Rattle.script_steps.specs.declared.steps.Step.{Step}
use Rattle.text_output.specs.Writing.{Holds, IsEmpty, Puts}
use Rattle.text_output.specs.declared.writing.Gathered.{Gathered}
use Rattle.text_output.proofs.Gathering.{empty_holds, puts_both}
use Rattle.explain_text.specs.Pieces.{PutsSome}
use Rattle.explain_why.specs.Answers.{IsNextAnswer, PutsAnswer, WritesAnswer, answer_text, first_text, tells_refusal}
use Rattle.explain_why.specs.Told.{PutsBeginning}

pub begins : (first : List ℕ) (old now new : Option (List ℕ)) (a b c : Gathered) → Puts old now a b first → PutsSome now new b c → PutsBeginning old new a c first
begins first old now new a b c h (rest, k) = (rest, puts_both old now new a b c first rest h k)

-- a beginning, and more
pub begins_more : (first : List ℕ) (old now new : Option (List ℕ)) (a b c : Gathered) → PutsBeginning old now a b first → PutsSome now new b c → PutsBeginning old new a c first
begins_more first old now new a b c (rest, h) (more, k) =
    (rest ++ more, subst (Puts old new a c) (append_assoc first rest more) (puts_both old now new a b c (first ++ rest) more h k))

pub some_begun : (first : List ℕ) (old new : Option (List ℕ)) (a b : Gathered) → PutsBeginning old new a b first → PutsSome old new a b
some_begun first old new a b (rest, h) = (first ++ rest, h)

module _ (settings : Settings) (script : List ℕ) (before : List Marked) where
  -- a line that brings nothing leaves the answers as they were
  none_list : (next : ℕ) (s : Session) (more : List Marked) → Brings settings before more None → Took settings (take next script) (before ++ more) s
      → Took settings (take next script) before s
  none_list next s [] brings took = subst (λ xs. Took settings (take next script) xs s) (append-nil before) took
  none_list next s (m ∷ []) brings took = absurd brings
  none_list next s (m ∷ n ∷ ms) brings took = absurd brings

  none_by : (next : ℕ) (s : Session) (told : Option (ℕ × Response)) (more : List Marked) → is_some told ≡ false → Brings settings before more told
      → Took settings (take next script) (before ++ more) s → Took settings (take next script) before s
  none_by next s None more e brings took = none_list next s more brings took
  none_by next s (Some told) more e brings took = absurd (true≢false e)

  pub none_more : (s : Session) (step : Step) → is_some step.told ≡ false → ShowsStep settings script before s (Ok (Some step))
      → Took settings (take step.next script) before s
  none_more s step e (more, brings, shows, took) = none_by step.next s step.told more e brings took

  -- one that brings an answer brings the next
  unended : (given : List ℕ) (answers : List Marked) (s : Session) → Took settings given answers s → Unended settings given answers
  unended given answers s t = record { lines = t.lines; rest = t.rest; within = t.within; told = (_, t.told); met = t.led.met }

  next_by : (next : ℕ) (s : Session) (told : Option (ℕ × Response)) (more : List Marked) (bytes : List ℕ) → is_some told ≡ true → Brings settings before more told
      → Shows settings before more bytes → Took settings (take next script) (before ++ more) s → IsNextAnswer settings script before told bytes
  next_by next s None more bytes e brings shows took = absurd (true≢false (sym e))
  next_by next s (Some told) [] bytes e brings shows took = absurd brings
  next_by next s (Some told) (m ∷ []) bytes e brings shows took =
      (m, brings, shows, inl (next, unended (take next script) (before ++ m ∷ []) s took))
  next_by next s (Some told) (m ∷ n ∷ ms) bytes e brings shows took = absurd brings

  pub next_answer : (s : Session) (step : Step) → is_some step.told ≡ true → ShowsStep settings script before s (Ok (Some step))
      → IsNextAnswer settings script before step.told s.shown.items
  next_answer s step e (more, brings, shows, took) = next_by step.next s step.told more s.shown.items e brings shows took

  -- and so does the end: an answer to what has no line feed, or to the open statement
  open_answer : (told : Option (ℕ × Response)) (also : List Marked) (bytes : List ℕ) → Brings settings before also told → Shows settings before also bytes
      → Ended settings script (before ++ also) → IsNextAnswer settings script before told bytes
  open_answer None [] bytes brings shows ended = subst (Ended settings script) (append-nil before) ended
  open_answer None (m ∷ []) bytes brings shows ended = absurd brings
  open_answer None (m ∷ n ∷ ms) bytes brings shows ended = absurd brings
  open_answer (Some told) [] bytes brings shows ended = absurd brings
  open_answer (Some told) (m ∷ []) bytes brings shows ended =
      (m, brings, shows, inr ([], subst (Ended settings script) (sym (append-nil (before ++ m ∷ []))) ended))
  open_answer (Some told) (m ∷ n ∷ ms) bytes brings shows ended = absurd brings

  last_answer : (last opened : Option (ℕ × Response)) (more also : List Marked) (bytes : List ℕ) → Brings settings before more last → Shows settings before more bytes
      → Brings settings (before ++ more) also opened → Shows settings (before ++ more) also bytes → Ended settings script ((before ++ more) ++ also)
      → IsNextAnswer settings script before (option_or last opened) bytes
  last_answer None opened [] also bytes brings shows opens shows_on ended =
      let same = append-nil before in
      open_answer opened also bytes (subst (λ xs. Brings settings xs also opened) same opens) (subst (λ xs. Shows settings xs also bytes) same shows_on)
      (subst (λ xs. Ended settings script (xs ++ also)) same ended)
  last_answer None opened (m ∷ []) also bytes brings shows opens shows_on ended = absurd brings
  last_answer None opened (m ∷ n ∷ ms) also bytes brings shows opens shows_on ended = absurd brings
  last_answer (Some told) opened [] also bytes brings shows opens shows_on ended = absurd brings
  last_answer (Some told) opened (m ∷ []) also bytes brings shows opens shows_on ended = (m, brings, shows, inr (also, ended))
  last_answer (Some told) opened (m ∷ n ∷ ms) also bytes brings shows opens shows_on ended = absurd brings

  pub end_answer : (e : Ending) → EndBrings settings script before e → IsNextAnswer settings script before (option_or e.last e.open_statement) e.shown.items
  end_answer e b = last_answer e.last e.open_statement b.more b.also e.shown.items b.last b.shows b.unended b.shows_on b.ended

  -- its text is put
  pub answer_put : (told : Option (ℕ × Response)) (bytes : List ℕ) (refused : Bool) (old new : Option (List ℕ)) (a b : Gathered)
      → IsNextAnswer settings script before told bytes → Puts old new a b (answer_text bytes told) → refused ≡ tells_refusal told
      → PutsAnswer settings script before old new a b refused
  answer_put told bytes refused old new a b next puts status =
      (answer_text bytes told, record { told = told; bytes = bytes; next = next; is = refl; status = status }, puts)

  -- and written, after what begins with the line
  pub answer_written : (first line : ℕ) (refused : Bool) (old now later new : Option (List ℕ)) (a b c : Gathered) → IsEmpty a
      → PutsBeginning old now a b (first_text first line) → PutsAnswer settings script before now later b c refused
      → ((at_first : Option (List ℕ)) (text : List ℕ) → Holds at_first later c text → Appends at_first new text)
      → WritesAnswer settings script before first line old new refused
  answer_written first line refused old now later new a b c none (rest, begun) (last, is, puts) finish =
      let head = first_text first line in
      let all = puts_both old now later a b c (head ++ rest) last begun puts in
      record {
        reasons = rest;
        last = last;
        answer = is;
        written = subst (Appends old new) (append_assoc head rest last)
            (finish old ((head ++ rest) ++ last) (all old [] (empty_holds old old a [] none (Appends-nil old))));
      }
