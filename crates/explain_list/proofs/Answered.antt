-- What a bench answers is the answer of the plain machine.
use Rattle.std.proofs.Common.{◌≡◌, ℕ, List, [], ◌∷◌, ◌++◌, length, map, if◌then◌else◌, Bool, Option, Some, None, Result, Ok, Err, refl, sym, ap, ◌∙◌, subst}
use Rattle.std.specs.List.{flat_map}
use Rattle.macro_operands.specs.declared.faults.FaultKind.{FaultKind}
use Rattle.macro_statements.specs.Requests.{Act, Asked, IsValidAsked, act, peek, map_asked, back, forward}
use Rattle.vsm_model.specs.declared.limits.Settings.{Settings}
use Rattle.vsm_model.specs.declared.replies.Reply.{Reply}
use Rattle.vsm_model.specs.Names.{NamedState}
use Rattle.vsm_model.specs.Standing.{Bench, Standing, Call, Apply, Back, Forward, Look, Answer, Replied, RefusedFor, NoMemory, Moved, TooFar, Shown, nothing_stands, stand}
use Rattle.bench_core.specs.Refusal.{Refusal}
use Rattle.bench_core.specs.Refusal.TheVariants as refusal
use Rattle.explain_text.specs.declared.json.Form.{Form}
use Rattle.explain_text.specs.declared.json.Form.TheVariants as form
use Rattle.bench_core.specs.Machine.{Why, shown_at}
use Rattle.script_steps.specs.Answers.{AreShown}
use Rattle.script_steps.specs.Output.{Marked, alone_now, answer_to, bytes_shown, responded, stands_after, stands_all, stands_with}
use Rattle.script_steps.specs.Responses.{bytes_of, reading_response, response_text, response_to}
use Rattle.script_steps.specs.Taken.{AreAsked, Brings, IsAskedBy, Led, Shows, ShowsRead, answers_of}
use Rattle.script_steps.specs.declared.responses.Response.{Response}
use Rattle.script_steps.specs.declared.responses.Response.TheVariants as response
use Rattle.script_steps.proofs.Standings.{stands_for, stands_push}
use Rattle.text_output.specs.Writing.{Puts}
use Rattle.text_output.specs.declared.writing.Gathered.{Gathered}
use Rattle.explain_faults.specs.declared.lines.SourceLine.{SourceLine}
use Rattle.explain_faults.specs.Roles.{brought_as, brought_by}
use Rattle.explain_faults.specs.declared.roles.Brought.TheVariants as brought
use Rattle.explain_list.specs.Pages.{brought_for, brought_told, fault_answered, fault_asked, fault_of, fault_told, one_of}
use Rattle.explain_list.specs.Listing.{ArePageRows, AreNotesTo, IsNoted, paged, is_written, item_text, page_text, HoldsListing, IsItemOf, PutsPage}
use Rattle.explain_list.specs.Answers.{AreNotes, AreNotesOf, Notes, answer_in}
use Rattle.explain_list.specs.Causes.{IsCauseFor, IsCauseText}
use Rattle.explain_list.specs.Rows.{Row, row_in, IsLineAt}
use Rattle.explain_list.specs.declared.layouts.Layout.{Layout}
use Rattle.macro_reader.specs.Roles.{Role}
use Rattle.explain_list.specs.Groups.{IsGroup, is_lost, roles_in}
use Rattle.explain_list.proofs.Items.{holds_item}

-- the text of a response to a call is the same whatever is shown
call_text : (call : Call Act) (its : Answer Reply Why) (kept : ℕ) (bytes others : List ℕ)
    → response_text bytes (response_to call its kept) ≡ response_text others (response_to call its kept)
call_text call (Replied reply) kept bytes others = refl
call_text call (RefusedFor why) kept bytes others = refl
call_text call NoMemory kept bytes others = refl
call_text call Moved kept bytes others = refl
call_text call Shown kept bytes others = refl
call_text (Apply x) (TooFar n) kept bytes others = refl
call_text (Back m) (TooFar n) kept bytes others = refl
call_text (Forward m) (TooFar n) kept bytes others = refl
call_text Look (TooFar n) kept bytes others = refl

-- that of a reading has its bytes
reading_text : (r : Result (List ℕ) Why) (bytes : List ℕ) → AreShown r bytes
    → response_text bytes (reading_response r) ≡ response_text (bytes_of r) (reading_response r)
reading_text (Ok read) bytes h = ap (λ xs. response_text xs response.Shown) h
reading_text (Err why) bytes h = refl

-- the answer that is reported
abbrev pub taken : List Marked → Option Marked
taken [] = None
taken (m ∷ ms) = Some m

module _ (settings : Settings) where
  shown_text_is : (l : Standing Act Reply) (unmet : Bool) (what : Result Asked FaultKind) (bytes : List ℕ) → ShowsRead settings l what bytes
      → response_text bytes (responded settings l unmet what) ≡ response_text (bytes_shown settings l what) (responded settings l unmet what)
  shown_text_is l unmet (Err kind) bytes h = refl
  shown_text_is l unmet (Ok (act x)) bytes h = call_text (Apply x) _ _ bytes []
  shown_text_is l unmet (Ok (peek address count)) bytes h = reading_text (shown_at (alone_now settings l) address count) bytes h
  shown_text_is l unmet (Ok map_asked) bytes h = refl
  shown_text_is l unmet (Ok (back n)) bytes h = call_text (Back n) _ _ bytes []
  shown_text_is l unmet (Ok (forward n)) bytes h = call_text (Forward n) _ _ bytes []

  pub taken_is : (answers more : List Marked) (told : Option (ℕ × Response)) → Brings settings answers more told → one_of (taken more) ≡ more
  taken_is answers [] None brings = refl
  taken_is answers (m ∷ []) (Some told) brings = refl
  taken_is answers [] (Some told) brings = absurd brings
  taken_is answers (m ∷ []) None brings = absurd brings
  taken_is answers (m ∷ n ∷ ms) None brings = absurd brings
  taken_is answers (m ∷ n ∷ ms) (Some told) brings = absurd brings

  module _ (layout : Layout) (script : List ℕ) (rows : List Row) (last : SourceLine) (notes : Notes) where
    one_told : (answers : List Marked) (m : Marked) (b : Bench NamedState) (bytes : List ℕ) (told : ℕ × Response) → Brings settings answers (m ∷ []) (Some told)
        → ShowsRead settings (stands_all settings nothing_stands answers) m.answer.what bytes → Led settings (answers ++ m ∷ []) b
        → page_text layout script settings b.present (length b.past) bytes rows (Some told) last notes
        ≡ item_text settings layout script (stands_all settings nothing_stands answers) (paged rows (Some m) last notes)
    one_told answers m b bytes told brings shows led =
        let l = stands_all settings nothing_stands answers in
        let s = stands_for settings (answers ++ m ∷ []) b led in
        let its = responded settings l m.unmet m.answer.what in
        let line = m.answer.line in
        let after = stands_after settings l m in
        (λ i. page_text layout script settings (s.present i) (s.kept i) bytes rows (Some (brings.0 i, brings.1 i)) last notes)
        ∙ ap (λ k. page_text layout script settings (alone_now settings k) k.kept bytes rows (Some (line, its)) last notes) (stands_push settings nothing_stands answers (m ∷ []))
        ∙ ap (λ t. if is_written layout (Some (line, its)) then flat_map (row_in layout.form script) rows ++ answer_in layout.form settings (alone_now settings after) after.kept t (line, its) last notes else [])
        (shown_text_is l m.unmet m.answer.what bytes shows)

    page_is : (answers more : List Marked) (b : Bench NamedState) (bytes : List ℕ) (told : Option (ℕ × Response)) → Brings settings answers more told
        → Shows settings answers more bytes → Led settings (answers ++ more) b
        → page_text layout script settings b.present (length b.past) bytes rows told last notes
        ≡ item_text settings layout script (stands_all settings nothing_stands answers) (paged rows (taken more) last notes)
    page_is answers [] b bytes None brings shows led = refl
    page_is answers (m ∷ []) b bytes (Some told) brings shows led = one_told answers m b bytes told brings shows led
    page_is answers [] b bytes (Some told) brings shows led = absurd brings
    page_is answers (m ∷ []) b bytes None brings shows led = absurd brings
    page_is answers (m ∷ n ∷ ms) b bytes None brings shows led = absurd brings
    page_is answers (m ∷ n ∷ ms) b bytes (Some told) brings shows led = absurd brings

    item_is : (m : Option Marked) → ArePageRows script (fault_of m) rows → IsLineAt script last → IsItemOf script (paged rows m last notes)
    item_is None are at = are
    item_is (Some m) are at = (are, at)

  -- ---- the fault of a page

  call_no_fault : (call : Call Act) (its : Answer Reply Why) (kept : ℕ) → fault_answered (response_to call its kept) ≡ None
  call_no_fault call (Replied reply) kept = refl
  call_no_fault call (RefusedFor why) kept = refl
  call_no_fault call NoMemory kept = refl
  call_no_fault call Moved kept = refl
  call_no_fault call Shown kept = refl
  call_no_fault (Apply x) (TooFar n) kept = refl
  call_no_fault (Back m) (TooFar n) kept = refl
  call_no_fault (Forward m) (TooFar n) kept = refl
  call_no_fault Look (TooFar n) kept = refl

  reading_no_fault : (r : Result (List ℕ) Why) → fault_answered (reading_response r) ≡ None
  reading_no_fault (Ok read) = refl
  reading_no_fault (Err why) = refl

  asked_fault : (l : Standing Act Reply) (unmet : Bool) (what : Result Asked FaultKind) → fault_answered (responded settings l unmet what) ≡ fault_asked what
  asked_fault l unmet (Err kind) = refl
  asked_fault l unmet (Ok (act x)) = call_no_fault (Apply x) _ _
  asked_fault l unmet (Ok (peek address count)) = reading_no_fault (shown_at (alone_now settings l) address count)
  asked_fault l unmet (Ok map_asked) = refl
  asked_fault l unmet (Ok (back n)) = call_no_fault (Back n) _ _
  asked_fault l unmet (Ok (forward n)) = call_no_fault (Forward n) _ _

  pub fault_is : (answers more : List Marked) (told : Option (ℕ × Response)) → Brings settings answers more told → fault_told told ≡ fault_of (taken more)
  fault_is answers [] None brings = refl
  fault_is answers (m ∷ []) (Some told) brings = ap fault_answered brings.1 ∙ asked_fault (stands_all settings nothing_stands answers) m.unmet m.answer.what
  fault_is answers [] (Some told) brings = absurd brings
  fault_is answers (m ∷ []) None brings = absurd brings
  fault_is answers (m ∷ n ∷ ms) None brings = absurd brings
  fault_is answers (m ∷ n ∷ ms) (Some told) brings = absurd brings

  -- and what its line brings
  brought_other : (r : Response) → fault_answered r ≡ None → brought_for r ≡ brought.Answer
  brought_other (response.Replied x) e = refl
  brought_other (response.Refused x) e = refl
  brought_other response.Shown e = refl
  brought_other (response.Kept n) e = refl
  brought_other (response.TooFar n) e = refl
  brought_other (response.TooFarAhead n) e = refl
  brought_other response.Map e = refl
  brought_other (response.Fault k) e = cc

  asked_brings : (l : Standing Act Reply) (unmet : Bool) (what : Result Asked FaultKind) → brought_for (responded settings l unmet what) ≡ brought_as what
  asked_brings l unmet (Err kind) = refl
  asked_brings l unmet (Ok x) = brought_other (responded settings l unmet (Ok x)) (asked_fault l unmet (Ok x))

  pub brought_is : (answers more : List Marked) (told : Option (ℕ × Response)) → Brings settings answers more told → brought_told told ≡ brought_by (answers_of more)
  brought_is answers [] None brings = refl
  brought_is answers (m ∷ []) (Some told) brings = ap brought_for brings.1 ∙ asked_brings (stands_all settings nothing_stands answers) m.unmet m.answer.what
  brought_is answers [] (Some told) brings = absurd brings
  brought_is answers (m ∷ []) None brings = absurd brings
  brought_is answers (m ∷ n ∷ ms) None brings = absurd brings
  brought_is answers (m ∷ n ∷ ms) (Some told) brings = absurd brings

  -- ---- what a page says of its statement

  -- a refused statement leaves in effect what was
  call_stays : (l : Standing Act Reply) (call : Call Act) (its : Answer Reply Why) (kept : ℕ) (why : Refusal) → response_to call its kept ≡ response.Refused why
      → stand settings.history l call its ≡ l
  call_stays l (Apply x) (Replied reply) kept why is = cc
  call_stays l (Apply x) (RefusedFor y) kept why is = refl
  call_stays l (Apply x) NoMemory kept why is = refl
  call_stays l (Apply x) Moved kept why is = refl
  call_stays l (Apply x) (TooFar n) kept why is = refl
  call_stays l (Apply x) Shown kept why is = refl
  call_stays l (Back m) (Replied reply) kept why is = refl
  call_stays l (Back m) (RefusedFor y) kept why is = refl
  call_stays l (Back m) NoMemory kept why is = refl
  call_stays l (Back m) Moved kept why is = cc
  call_stays l (Back m) (TooFar n) kept why is = refl
  call_stays l (Back m) Shown kept why is = refl
  call_stays l (Forward m) (Replied reply) kept why is = refl
  call_stays l (Forward m) (RefusedFor y) kept why is = refl
  call_stays l (Forward m) NoMemory kept why is = refl
  call_stays l (Forward m) Moved kept why is = cc
  call_stays l (Forward m) (TooFar n) kept why is = refl
  call_stays l (Forward m) Shown kept why is = refl
  call_stays l Look (Replied reply) kept why is = refl
  call_stays l Look (RefusedFor y) kept why is = refl
  call_stays l Look NoMemory kept why is = refl
  call_stays l Look Moved kept why is = refl
  call_stays l Look (TooFar n) kept why is = refl
  call_stays l Look Shown kept why is = refl

  refused_stays : (l : Standing Act Reply) (unmet : Bool) (x : Asked) (why : Refusal) → responded settings l unmet (Ok x) ≡ response.Refused why
      → stands_with settings l unmet (Ok x) ≡ l
  refused_stays l unmet (act x) why is = call_stays l (Apply x) (answer_to settings l unmet (Apply x)) _ why is
  refused_stays l unmet (peek address count) why is = refl
  refused_stays l unmet map_asked why is = refl
  refused_stays l unmet (back n) why is = call_stays l (Back n) (answer_to settings l unmet (Back n)) _ why is
  refused_stays l unmet (forward n) why is = call_stays l (Forward n) (answer_to settings l unmet (Forward n)) _ why is

  -- so its cause in the state after it is the one in the state before it
  cause_before : (x : Asked) (told : Response) (text : List ℕ) (m n : NamedState) → ((why : Refusal) → told ≡ response.Refused why → m ≡ n)
      → IsCauseFor settings m x told text → IsCauseFor settings n x told text
  cause_before x (response.Replied r) text m n same h = tt
  cause_before x (response.Refused refusal.Name) text m n same h = tt
  cause_before x (response.Refused refusal.NoMemory) text m n same h = tt
  cause_before x (response.Refused (refusal.Abend code)) text m n same h = subst (λ s. IsCauseText settings s x text) (same (refusal.Abend code) refl) h
  cause_before x response.Shown text m n same h = tt
  cause_before x (response.Kept k) text m n same h = tt
  cause_before x (response.TooFar k) text m n same h = tt
  cause_before x (response.TooFarAhead k) text m n same h = tt
  cause_before x response.Map text m n same h = tt
  cause_before x (response.Fault k) text m n same h = tt

  notes_before : (f : Form) (x : Asked) (told : Response) (notes : Notes) (m n : NamedState) → ((why : Refusal) → told ≡ response.Refused why → m ≡ n)
      → AreNotes f settings m x told notes → AreNotes f settings n x told notes
  notes_before form.Text x told notes m n same h = tt
  notes_before form.Json x told notes m n same (name, pool, cause) = (name, pool, cause_before x told notes.cause m n same cause)

  noted_to : (f : Form) (l : Standing Act Reply) (unmet : Bool) (what : Result Asked FaultKind) (asked : Asked) (m : NamedState) (notes : Notes) → IsAskedBy asked what
      → m ≡ alone_now settings (stands_with settings l unmet what)
      → (IsValidAsked asked → AreNotes f settings m asked (responded settings l unmet what) notes)
      → AreNotesTo settings f (alone_now settings l) what (responded settings l unmet what) notes
  noted_to f l unmet (Err kind) asked m notes is stands h = tt
  noted_to f l unmet (Ok x) asked m notes (same, valid) stands h =
      notes_before f x (responded settings l unmet (Ok x)) notes m (alone_now settings l)
      (λ why refused. stands ∙ ap (alone_now settings) (refused_stays l unmet x why refused))
      (subst (λ y. AreNotes f settings m y (responded settings l unmet (Ok x)) notes) same (h (subst IsValidAsked (sym same) valid)))

  noted_is : (f : Form) (answers more : List Marked) (b : Bench NamedState) (told : Option (ℕ × Response)) (asked : Asked) (notes : Notes) → Brings settings answers more told
      → AreAsked asked (answers_of more) → Led settings (answers ++ more) b → AreNotesOf f settings b.present asked told notes
      → IsNoted settings f (stands_all settings nothing_stands answers) (taken more) notes
  noted_is f answers [] b None asked notes brings asks led h = tt
  noted_is f answers (m ∷ []) b (Some told) asked notes brings asks led h =
      let l = stands_all settings nothing_stands answers in
      let s = stands_for settings (answers ++ m ∷ []) b led in
      noted_to f l m.unmet m.answer.what asked b.present notes asks.0 (s.present ∙ ap (alone_now settings) (stands_push settings nothing_stands answers (m ∷ [])))
      (λ valid. subst (λ r. AreNotes f settings b.present asked r notes) brings.1 (h valid))
  noted_is f answers [] b (Some told) asked notes brings asks led h = absurd brings
  noted_is f answers (m ∷ []) b None asked notes brings asks led h = absurd brings
  noted_is f answers (m ∷ n ∷ ms) b None asked notes brings asks led h = absurd brings
  noted_is f answers (m ∷ n ∷ ms) b (Some told) asked notes brings asks led h = absurd brings

  -- A listing with the page of a line, or of the end of a script.
  pub holds_page : (layout : Layout) (script : List ℕ) (first old now : Option (List ℕ)) (before after : Gathered) (answers more : List Marked) (b : Bench NamedState) (bytes : List ℕ)
      (told : Option (ℕ × Response)) (asked : Asked) (lines others : List SourceLine) (losses : List Bool) (roles : List Role) → IsGroup roles (taken more) → losses ≡ map is_lost roles
      → roles_in script (lines ++ others) ≡ roles_in script lines ++ roles → Brings settings answers more told → Shows settings answers more bytes
      → AreAsked asked (answers_of more) → Led settings (answers ++ more) b → PutsPage layout script settings b bytes others losses told asked old now before after → HoldsListing layout settings script first old before answers lines
      → HoldsListing layout settings script first now after (answers ++ more) (lines ++ others)
  holds_page layout script first old now before after answers more b bytes told asked lines others losses roles together gone split brings shows asks led (rows, last, notes, are, have, lost, at, noted, p) h =
      let held = holds_item layout settings script first old now before after answers lines rows (taken more) last notes roles (together, lost ∙ gone)
      (subst (λ ls. roles_in script (lines ++ ls) ≡ roles_in script lines ++ roles) (sym have) split) (item_is layout script rows last notes (taken more) (subst (λ k. ArePageRows script k rows) (fault_is answers more told brings) are) at)
      (noted_is layout.form answers more b told asked notes brings asks led noted)
      (subst (Puts old now before after) (page_is layout script rows last notes answers more b bytes told brings shows led) p) h in
      subst (λ ms. HoldsListing layout settings script first now after (answers ++ ms) (lines ++ others)) (taken_is answers more told brings)
      (subst (λ ls. HoldsListing layout settings script first now after (answers ++ one_of (taken more)) (lines ++ ls)) have held)

-- A page of a bench, by what its functions return.
pub page_of : (layout : Layout) (script : List ℕ) (lines : List SourceLine) (losses : List Bool) (told : Option (ℕ × Response)) (asked : Asked) (old now : Option (List ℕ)) (before after : Gathered) (s t : Settings)
    (b c : Bench NamedState) (xs ys : List ℕ) → s ≡ t → b ≡ c → xs ≡ ys → PutsPage layout script s b xs lines losses told asked old now before after
    → PutsPage layout script t c ys lines losses told asked old now before after
page_of layout script lines losses told asked old now before after s t b c xs ys e f h p =
    subst (λ x. PutsPage layout script x c ys lines losses told asked old now before after) e
    (subst (λ x. PutsPage layout script s x ys lines losses told asked old now before after) f
    (subst (λ x. PutsPage layout script s b x lines losses told asked old now before after) h p))
