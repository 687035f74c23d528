-- Lines that are taken up to the end of a statement.
use Rattle.std.proofs.Common.{◌≡◌, ℕ, ◌+◌, ◌<◌, ◌≤◌, inl, inr, true, false, nat_le, Bool, ◌&&◌, true≢false, List, [], ◌++◌, is_some, take, drop, Option, Some, None, unwrap_or, refl, sym, ap, ◌∙◌, arith}
use Rattle.std.proofs.lemmas.Bool.{le-leb, leb-true, cases_lt}
use Rattle.std.proofs.lemmas.List.{take-append-drop}
use Rattle.vsm_model.specs.declared.limits.Settings.{Settings}
use Rattle.script_steps.specs.Output.{Marked}
use Rattle.script_steps.specs.Steps.{IsLineOf}
use Rattle.script_steps.specs.Taken.{Took, Brings}
use Rattle.script_steps.specs.declared.responses.Response.{Response}
use Rattle.script_steps.specs.declared.session.Session.{Session}
use Rattle.explain_report.specs.Lines.{feeds, line_count, some_line}
use Rattle.explain_report.specs.Reports.{IsReached, EndsStatement, HasLine, IsRestAt, IsSilentLine, LacksLine, Reaches, StaysOpen, StaysTo, ends_by, silence}
use Rattle.explain_report.specs.Said.{is_between}
use Rattle.explain_report.specs.declared.faults.ReportFault.{ReportFault}
use Rattle.explain_report.specs.declared.runs.LastAnswer.{LastAnswer}
use Rattle.explain_report.proofs.Following.{one_brought, read_by}
use Rattle.explain_report.proofs.Lines.{all_lines, feeds_both, next_feeds, plain_feeds, took_feeds}

-- at first no line was taken
pub none_open : (settings : Settings) (script : List ℕ) (n : ℕ) (s : Session) (last : LastAnswer) → 0 < n → Reaches settings [] s last → StaysOpen settings script n 0 s last
none_open settings script n s last some h =
    let none = took_feeds settings [] h.0 s h.1.took in
    record { reaches = h; open_since = λ k from to. absurd (omega (arith, none, some, from, to)) }

-- then another line
lines_more : (settings : Settings) (script : List ℕ) (at next : ℕ) (s t : Session) (answers others : List Marked) → IsLineOf script at next
    → Took settings (take at script) answers s → Took settings (take next script) others t → t.lines ≡ s.lines + 1
lines_more settings script at next s t answers others line h k =
    let a = took_feeds settings (take at script) answers s h in
    let b = took_feeds settings (take next script) others t k in
    omega (arith, a, b, next_feeds script at next line)

-- which is far enough, and leaves none open
both_true : (a b : Bool) → a && b ≡ true → (a ≡ true) × (b ≡ true)
both_true true b e = (refl, e)
both_true false b e = absurd (true≢false (sym e))

ends_far : (n : ℕ) (s : Session) → ends_by n s ≡ true → (n ≤ s.lines) × (is_between s.reader.mode ≡ true)
ends_far n s e =
    let both = both_true (nat_le n s.lines) (is_between s.reader.mode) e in
    (leb-true n s.lines both.0, both.1)

stays_open : (n : ℕ) (s : Session) → ends_by n s ≡ false → n ≤ s.lines → is_between s.reader.mode ≡ false
stays_open n s none far = sym (ap (λ b. b && is_between s.reader.mode) (le-leb n s.lines far)) ∙ none

pub one_open : (settings : Settings) (script : List ℕ) (n at next : ℕ) (s t : Session) (last more : LastAnswer) → IsLineOf script at next → StaysOpen settings script n at s last
    → (told : Option (ℕ × Response))
    → ((answers : List Marked) → IsReached settings (take at script) s last answers
    → (further : List Marked) × Brings settings answers further told × IsReached settings (take next script) t more (answers ++ further))
    → ends_by n t ≡ false → StaysOpen settings script n next t more
one_open settings script n at next s t last more line h told step none =
    let older = h.reaches.0 in
    let e = step older h.reaches.1 in
    let size = lines_more settings script at next s t older (older ++ e.0) line h.reaches.1.took e.2.took in
    record {
      reaches = (older ++ e.0, e.2);
      open_since = λ k from to. elim (cases_lt k t.lines) [
        | inl less ↦ h.open_since k from (omega (arith, size, less))
        | inr not_less ↦
            let is : t.lines ≡ k = omega (arith, to, not_less) in
            (next, older ++ e.0, t.reader, read_by settings (take next script) (older ++ e.0) t e.2.took, sym e.2.took.count ∙ is, stays_open n t none (omega (arith, from, is)))
      ];
    }

-- and the line after which no statement is open
pub statement_ends : (settings : Settings) (script : List ℕ) (n at next : ℕ) (s t : Session) (last more : LastAnswer) → IsLineOf script at next → (h : StaysOpen settings script n at s last)
    → (further : List Marked) (told : Option (ℕ × Response)) → Brings settings h.reaches.0 further told → IsReached settings (take next script) t more (h.reaches.0 ++ further)
    → is_some told ≡ true → ends_by n t ≡ true → EndsStatement settings script n next (h.reaches.0 ++ further)
statement_ends settings script n at next s t last more line h further told brings r some ends =
    let older = h.reaches.0 in
    let size = lines_more settings script at next s t older (older ++ further) line h.reaches.1.took r.took in
    let one = one_brought settings older further told brings some in
    let end = ends_far n t ends in
    record {
      at = at;
      line = line;
      older = older;
      before = s.reader;
      read = read_by settings (take at script) older s h.reaches.1.took;
      newest = one.0;
      brought = ap (λ xs. older ++ xs) one.1;
      after = t.reader;
      read_on = read_by settings (take next script) (older ++ further) t r.took;
      far = omega (arith, end.0, r.took.count);
      ends = end.1;
      first = λ k from to. h.open_since k from (omega (arith, size, r.took.count, to));
    }

-- which may bring no answer
pub line_is_silent : (settings : Settings) (script : List ℕ) (n at next : ℕ) (s t : Session) (last more : LastAnswer) (f : ReportFault) → IsLineOf script at next
    → (h : StaysOpen settings script n at s last) → Took settings (take next script) h.reaches.0 t → ends_by n t ≡ true → f ≡ silence s.reader.mode → IsSilentLine settings script n f
line_is_silent settings script n at next s t last more f line h took ends why =
    let size = lines_more settings script at next s t h.reaches.0 h.reaches.0 line h.reaches.1.took took in
    let end = ends_far n t ends in
    record {
      at = at;
      next = next;
      line = line;
      answers = h.reaches.0;
      before = s.reader;
      read = read_by settings (take at script) h.reaches.0 s h.reaches.1.took;
      after = t.reader;
      read_on = read_by settings (take next script) h.reaches.0 t took;
      far = omega (arith, end.0, took.count);
      ends = end.1;
      first = λ k from to. h.open_since k from (omega (arith, size, took.count, to));
      why = why;
    }

-- ---- how many lines the script has

module _ (settings : Settings) (script : List ℕ) (at : ℕ) (answers : List Marked) (s : Session) where
  lines_are : (n : ℕ) (rest : List ℕ) → Took settings script answers s → IsRestAt script at → rest ≡ drop at script → n ≡ s.lines + some_line rest → n ≡ line_count script
  lines_are n rest took (within, plain, begins) is count =
      let all = all_lines script at plain begins in
      let taken = took_feeds settings script answers s took in
      let last = ap some_line is in
      omega (arith, all, taken, last, count)

  pub lacks_line : (line : Option ℕ) (n : ℕ) (rest : List ℕ) → Took settings script answers s → IsRestAt script at → rest ≡ drop at script → n ≡ s.lines + some_line rest
      → n < unwrap_or line 0 → LacksLine script line n
  lacks_line None n rest took place is count less = absurd (omega (arith, less))
  lacks_line (Some asked) n rest took place is count less = inr (lines_are n rest took place is count, less)

  feeds_are : IsRestAt script at → feeds script ≡ feeds (take at script)
  feeds_are (within, plain, begins) =
      let all = ap feeds (sym (take-append-drop at script)) ∙ feeds_both (take at script) (drop at script) in
      omega (arith, all, plain_feeds (drop at script) plain)

  pub has_line : (line : Option ℕ) (n : ℕ) (rest : List ℕ) (before : Session) → Took settings (take at script) answers before → StaysTo settings script line before
      → Took settings script answers s → IsRestAt script at → rest ≡ drop at script → n ≡ s.lines + some_line rest → unwrap_or line 0 ≤ n → HasLine settings script line
  has_line None n rest before older stays took place is count less = tt
  has_line (Some asked) n rest before older stays took place is count less =
      let all = lines_are n rest took place is count in
      let taken = took_feeds settings (take at script) answers before older in
      let same = feeds_are place in
      (omega (arith, all, less), λ k from to. stays k from (omega (arith, taken, same, to)))

-- a session that took the same lines
pub stays_same : (settings : Settings) (script : List ℕ) (n at : ℕ) (s t : Session) (last more : LastAnswer) → StaysOpen settings script n at s last
    → Reaches settings (take at script) t more → StaysOpen settings script n at t more
stays_same settings script n at s t last more h r =
    let old = took_feeds settings (take at script) h.reaches.0 s h.reaches.1.took in
    let new = took_feeds settings (take at script) r.0 t r.1.took in
    record { reaches = r; open_since = λ k from to. h.open_since k from (omega (arith, old, new, to)) }
