-- What is in effect after a list of answers, and after another answer.
use Rattle.std.proofs.Common.{◌≡◌, ℕ, ◌+◌, nat_le, Bool, true, false, List, [], ◌∷◌, ◌++◌, length, Option, Some, None, Result, Ok, Err, sym, ◌∙◌, ap, subst, refl, arith, append_assoc, if◌then◌else◌}
use Rattle.std.proofs.lemmas.Bool.{cond-true, cond-false, le-leb, lt-leb}
use Rattle.std.proofs.lemmas.List.{append-nil}
use Rattle.macro_operands.specs.declared.faults.FaultKind.{FaultKind}
use Rattle.macro_statements.specs.Requests.{Act, Asked, act, peek, map_asked, back, forward}
use Rattle.macro_reader.specs.Scripts as grammar
use Rattle.vsm_model.specs.declared.limits.Settings.{Settings}
use Rattle.vsm_model.specs.declared.replies.Reply.{Reply}
use Rattle.vsm_model.specs.Names.{NamedState, first_named_state}
use Rattle.vsm_model.specs.Standing.{Bench, Standing, Call, Apply, Back, Forward, Look, Answer, Replied, RefusedFor, NoMemory, Moved, TooFar, Shown, Heard, Keeps, Leads, IsAccepted, new_bench, nothing_stands, stand_all, outcome_answer}
use Rattle.vsm_model.proofs.Alone.{stands_alone}
use Rattle.bench_core.specs.Machine.{Why, statement_step, shown_at}
use Rattle.script_steps.specs.Responses.{response_to, reading_response, bytes_of, response_text, lines_behind, is_refused, numbered}
use Rattle.script_steps.specs.Output.{Marked, call_in, alone_now, answer_to, IsMet, stands_behind, stands_with, responded_to, responded, bytes_shown, stands_after, stands_all, AllMet, lines_with, text_of, texts, refusals, heard_call, heard_with, heard_all}
use Rattle.script_steps.specs.Answers.{RespondsTo, AreShown, Responds, Tells, told_text, told_count, told_refused}
use Rattle.script_steps.specs.Taken.{Led, Brings, IsTold, Shows, ShowsRead, answers_of}
use Rattle.script_steps.specs.declared.responses.Response.{Response}
use Rattle.script_steps.specs.declared.responses.Response.TheVariants as response

plus_zero : (n : ℕ) → n + 0 ≡ n
plus_zero n = omega arith

same_statement : (x y : Act) → Some (Apply x) ≡ Some (Apply y) → x ≡ y
same_statement x y e = cc

-- the text of a response to a call is the same whatever is shown
pub call_text : (call : Call Act) (answer : Answer Reply Why) (kept : ℕ) (bytes others : List ℕ) →
    response_text bytes (response_to call answer kept) ≡ response_text others (response_to call answer kept)
call_text call (Replied reply) kept bytes others = refl
call_text call (RefusedFor why) kept bytes others = refl
call_text call NoMemory kept bytes others = refl
call_text call Moved kept bytes others = refl
call_text call Shown kept bytes others = refl
call_text (Apply x) (TooFar n) kept bytes others = refl
call_text (Back m) (TooFar n) kept bytes others = refl
call_text (Forward m) (TooFar n) kept bytes others = refl
call_text Look (TooFar n) kept bytes others = refl

-- that of a reading contains its bytes
pub reading_text : (r : Result (List ℕ) Why) (bytes : List ℕ) → AreShown r bytes → response_text bytes (reading_response r) ≡ response_text (bytes_of r) (reading_response r)
reading_text (Ok read) bytes h = ap (λ xs. response_text xs response.Shown) h
reading_text (Err why) bytes h = refl

module _ (settings : Settings) where
  abbrev Stood : Type 0
  Stood = Standing Act Reply

  pub stands_push : (l : Stood) (xs ys : List Marked) → stands_all settings l (xs ++ ys) ≡ stands_all settings (stands_all settings l xs) ys
  stands_push l [] ys = refl
  stands_push l (x ∷ xs) ys = stands_push (stands_after settings l x) xs ys

  pub texts_push : (l : Stood) (xs ys : List Marked) → texts settings l (xs ++ ys) ≡ texts settings l xs ++ texts settings (stands_all settings l xs) ys
  texts_push l [] ys = refl
  texts_push l (x ∷ xs) ys =
      let text = text_of settings l x in
      ap (λ t. text ++ t) (texts_push (stands_after settings l x) xs ys) ∙ sym (append_assoc text _ _)

  pub refusals_push : (l : Stood) (xs ys : List Marked) → refusals settings l (xs ++ ys) ≡ refusals settings l xs + refusals settings (stands_all settings l xs) ys
  refusals_push l [] ys = omega arith
  refusals_push l (x ∷ xs) ys = let e = refusals_push (stands_after settings l x) xs ys in omega (arith, e)

  pub met_push : (l : Stood) (xs ys : List Marked) → AllMet settings l xs → AllMet settings (stands_all settings l xs) ys → AllMet settings l (xs ++ ys)
  met_push l [] ys h k = k
  met_push l (x ∷ xs) ys h k = (h.0, met_push (stands_after settings l x) xs ys h.1 k)

  heard_with_push : (l : Stood) (unmet : Bool) (what : Result Asked FaultKind) (hs ks : List (Heard Act Reply Why)) →
      heard_with settings l unmet what (hs ++ ks) ≡ heard_with settings l unmet what hs ++ ks
  heard_with_push l unmet (Err kind) hs ks = refl
  heard_with_push l unmet (Ok (act x)) hs ks = refl
  heard_with_push l unmet (Ok (peek address count)) hs ks = refl
  heard_with_push l unmet (Ok map_asked) hs ks = refl
  heard_with_push l unmet (Ok (back n)) hs ks = refl
  heard_with_push l unmet (Ok (forward n)) hs ks = refl

  heard_push : (l : Stood) (xs ys : List Marked) → heard_all settings l (xs ++ ys) ≡ heard_all settings l xs ++ heard_all settings (stands_all settings l xs) ys
  heard_push l [] ys = refl
  heard_push l (x ∷ xs) ys =
      ap (heard_with settings l x.unmet x.answer.what) (heard_push (stands_after settings l x) xs ys)
      ∙ heard_with_push l x.unmet x.answer.what (heard_all settings (stands_after settings l x) xs) _

  -- what is in effect is what the calls leave in effect
  heard_with_stands : (l : Stood) (unmet : Bool) (what : Result Asked FaultKind) (hs : List (Heard Act Reply Why)) →
      stand_all settings.history l (heard_with settings l unmet what hs) ≡ stand_all settings.history (stands_with settings l unmet what) hs
  heard_with_stands l unmet (Err kind) hs = refl
  heard_with_stands l unmet (Ok (act x)) hs = refl
  heard_with_stands l unmet (Ok (peek address count)) hs = refl
  heard_with_stands l unmet (Ok map_asked) hs = refl
  heard_with_stands l unmet (Ok (back n)) hs = refl
  heard_with_stands l unmet (Ok (forward n)) hs = refl

  heard_stands : (l : Stood) (xs : List Marked) → stand_all settings.history l (heard_all settings l xs) ≡ stands_all settings l xs
  heard_stands l [] = refl
  heard_stands l (x ∷ xs) =
      heard_with_stands l x.unmet x.answer.what (heard_all settings (stands_after settings l x) xs) ∙ heard_stands (stands_after settings l x) xs

  leads_push : (b c d : Bench NamedState) (hs ks : List (Heard Act Reply Why)) → Leads (statement_step settings) settings.history b hs c →
      Leads (statement_step settings) settings.history c ks d → Leads (statement_step settings) settings.history b (hs ++ ks) d
  leads_push b c d [] ks h k = subst (λ x. Leads (statement_step settings) settings.history x ks d) h k
  leads_push b c d (x ∷ hs) ks (mid, one, rest) k = (mid, one, leads_push mid c d hs ks rest k)

  -- the state and the numbers of a bench when these statements are in effect
  pub record StandsFor (l : Stood) (b : Bench NamedState) : Type 0 where
    pub present : b.present ≡ alone_now settings l
    pub kept : length b.past ≡ l.kept
    pub undone : length b.later ≡ length l.undone

  pub stands_for : (xs : List Marked) (b : Bench NamedState) → Led settings xs b → StandsFor (stands_all settings nothing_stands xs) b
  stands_for xs b led =
      let law = stands_alone first_named_state (statement_step settings) settings.history (heard_all settings nothing_stands xs) b led.leads in
      let same = heard_stands nothing_stands xs in
      record {
        present = law.0.0 ∙ ap (alone_now settings) same;
        kept = law.1 ∙ ap (λ l. l.kept) same;
        undone = law.2 ∙ ap (λ l. length l.undone) same;
      }

  abbrev is_memory : Answer Reply Why → Bool
  is_memory NoMemory = true
  is_memory _ = false

  -- the answer that the relation of a call allows is the one that is stated
  answered : (l : Stood) (b c : Bench NamedState) → StandsFor l b → (call : Call Act) (answer : Answer Reply Why) →
      Keeps (statement_step settings) settings.history b call answer c → answer_to settings l (is_memory answer) call ≡ answer
  answered l b c s (Apply x) (Replied r) k = ap (λ m. outcome_answer (statement_step settings m x)) (sym s.present) ∙ ap outcome_answer k.0
  answered l b c s (Apply x) (RefusedFor why) k = ap (λ m. outcome_answer (statement_step settings m x)) (sym s.present) ∙ ap outcome_answer k.0
  answered l b c s (Apply x) NoMemory k = refl
  answered l b c s (Back n) Moved k = cond-true (nat_le n l.kept) _ _ (le-leb n l.kept (omega (arith, s.kept, k.0)))
  answered l b c s (Back n) (TooFar kept) k =
      cond-false (nat_le n l.kept) _ _ (lt-leb n l.kept (omega (arith, s.kept, k.0))) ∙ ap TooFar (sym (k.1 ∙ s.kept))
  answered l b c s (Forward n) Moved k = cond-true (nat_le n (length l.undone)) _ _ (le-leb n (length l.undone) (omega (arith, s.undone, k.0)))
  answered l b c s (Forward n) (TooFar undone) k =
      cond-false (nat_le n (length l.undone)) _ _ (lt-leb n (length l.undone) (omega (arith, s.undone, k.0))) ∙ ap TooFar (sym (k.1 ∙ s.undone))
  answered l b c s Look Shown k = refl
  answered l b c s (Apply x) Moved k = absurd k
  answered l b c s (Apply x) (TooFar n) k = absurd k
  answered l b c s (Apply x) Shown k = absurd k
  answered l b c s (Back n) (Replied r) k = absurd k
  answered l b c s (Back n) (RefusedFor why) k = absurd k
  answered l b c s (Back n) NoMemory k = absurd k
  answered l b c s (Back n) Shown k = absurd k
  answered l b c s (Forward n) (Replied r) k = absurd k
  answered l b c s (Forward n) (RefusedFor why) k = absurd k
  answered l b c s (Forward n) NoMemory k = absurd k
  answered l b c s (Forward n) Shown k = absurd k
  answered l b c s Look (Replied r) k = absurd k
  answered l b c s Look (RefusedFor why) k = absurd k
  answered l b c s Look NoMemory k = absurd k
  answered l b c s Look Moved k = absurd k
  answered l b c s Look (TooFar n) k = absurd k

  was_met : (l : Stood) (b c : Bench NamedState) → StandsFor l b → (asked : Asked) (call : Call Act) → call_in asked ≡ Some call → (answer : Answer Reply Why) →
      Keeps (statement_step settings) settings.history b call answer c → IsMet settings l (is_memory answer) (Ok asked)
  was_met l b c s asked call is (Replied r) k = tt
  was_met l b c s asked call is (RefusedFor why) k = tt
  was_met l b c s asked call is Moved k = tt
  was_met l b c s asked call is (TooFar n) k = tt
  was_met l b c s asked call is Shown k = tt
  was_met l b c s asked (Back n) is NoMemory k = absurd k
  was_met l b c s asked (Forward n) is NoMemory k = absurd k
  was_met l b c s asked Look is NoMemory k = absurd k
  was_met l b c s (act y) (Apply x) is NoMemory k = subst (λ m. IsAccepted (statement_step settings m y)) s.present (subst (λ z. IsAccepted (statement_step settings b.present z)) (sym (same_statement y x is)) k.0)
  was_met l b c s (peek address count) (Apply x) is NoMemory k = cc
  was_met l b c s map_asked (Apply x) is NoMemory k = cc
  was_met l b c s (back n) (Apply x) is NoMemory k = cc
  was_met l b c s (forward n) (Apply x) is NoMemory k = cc

  abbrev marked : ℕ → Result Asked FaultKind → Bool → Marked
  marked line what unmet = record { answer = record { line = line; what = what }; unmet = unmet }

  -- what is no call leaves the bench where it was led
  led_idle : (xs : List Marked) (b c : Bench NamedState) (line : ℕ) (what : Result Asked FaultKind) → Led settings xs b → c ≡ b →
      heard_with settings (stands_all settings nothing_stands xs) false what [] ≡ [] → Led settings (xs ++ marked line what false ∷ []) c
  led_idle xs b c line what led same none =
      let m = marked line what false in
      let before = heard_all settings nothing_stands xs in
      let heard : heard_all settings nothing_stands (xs ++ m ∷ []) ≡ before =
      heard_push nothing_stands xs (m ∷ []) ∙ ap (λ hs. before ++ hs) none ∙ append-nil before in
      record {
        leads = subst (λ hs. Leads (statement_step settings) settings.history (new_bench first_named_state) hs c) (sym heard)
            (subst (Leads (statement_step settings) settings.history (new_bench first_named_state) before) (sym same) led.leads);
        met = met_push nothing_stands xs (m ∷ []) led.met (tt, tt);
      }

  -- a call leads the bench on
  led_call : (xs : List Marked) (b c : Bench NamedState) (line : ℕ) (asked : Asked) (call : Call Act) (told : Response) → call_in asked ≡ Some call → Led settings xs b →
      RespondsTo settings b call told c →
      (unmet : Bool) × Led settings (xs ++ marked line (Ok asked) unmet ∷ []) c × (told ≡ responded_to settings (stands_all settings nothing_stands xs) unmet call)
  led_call xs b c line asked call told is led (answer, keeps, response) =
      let l = stands_all settings nothing_stands xs in
      let s = stands_for xs b led in
      let unmet = is_memory answer in
      let m = marked line (Ok asked) unmet in
      let same = answered l b c s call answer keeps in
      let one : Keeps (statement_step settings) settings.history b call (answer_to settings l unmet call) c =
      subst (λ a. Keeps (statement_step settings) settings.history b call a c) (sym same) keeps in
      let before = heard_all settings nothing_stands xs in
      let heard : heard_all settings nothing_stands (xs ++ m ∷ []) ≡ before ++ record { call = call; answer = answer_to settings l unmet call } ∷ [] =
      heard_push nothing_stands xs (m ∷ []) ∙ ap (λ k. before ++ heard_call settings l unmet k []) is in
      let after : Led settings (xs ++ m ∷ []) c = record {
        leads = subst (λ hs. Leads (statement_step settings) settings.history (new_bench first_named_state) hs c) (sym heard)
            (leads_push (new_bench first_named_state) b c before (record { call = call; answer = answer_to settings l unmet call } ∷ []) led.leads (c, one, refl));
        met = met_push nothing_stands xs (m ∷ []) led.met (was_met l b c s asked call is answer keeps, tt);
      } in
      let t = stands_for (xs ++ m ∷ []) c after in
      let kept : length c.past ≡ (stands_behind settings l unmet (Some call)).kept =
      t.kept ∙ ap (λ k. k.kept) (stands_push nothing_stands xs (m ∷ [])) ∙ ap (λ k. (stands_behind settings l unmet k).kept) is in (
        unmet,
        after,
        response ∙ ap (λ a. response_to call a (length c.past)) (sym same) ∙ ap (response_to call (answer_to settings l unmet call)) kept,
      )

  -- Another answer: how it is marked, that it leads on, and the response that is stated for it.
  pub led_one : (xs : List Marked) (b c : Bench NamedState) (line : ℕ) (what : Result Asked FaultKind) (told : Response) (bytes : List ℕ) → Led settings xs b →
      Responds settings b what told bytes c →
      (unmet : Bool) × Led settings (xs ++ marked line what unmet ∷ []) c × (told ≡ responded settings (stands_all settings nothing_stands xs) unmet what)
  led_one xs b c line (Err kind) told bytes led (is, same) = (false, led_idle xs b c line (Err kind) led same refl, is)
  led_one xs b c line (Ok (act x)) told bytes led h = led_call xs b c line (act x) (Apply x) told refl led h
  led_one xs b c line (Ok (peek address count)) told bytes led (is, read, same) = (
    false,
    led_idle xs b c line (Ok (peek address count)) led same refl,
    is ∙ ap (λ m. reading_response (shown_at m address count)) (stands_for xs b led).present,
  )
  led_one xs b c line (Ok map_asked) told bytes led (is, same) = (false, led_idle xs b c line (Ok map_asked) led same refl, is)
  led_one xs b c line (Ok (back n)) told bytes led h = led_call xs b c line (back n) (Back n) told refl led h
  led_one xs b c line (Ok (forward n)) told bytes led h = led_call xs b c line (forward n) (Forward n) told refl led h

  -- its text, with what is shown, is the one with the bytes that are stated
  text_is : (xs : List Marked) (b c : Bench NamedState) (what : Result Asked FaultKind) (told : Response) (bytes : List ℕ) → Led settings xs b →
      Responds settings b what told bytes c →
      response_text bytes told ≡ response_text (bytes_shown settings (stands_all settings nothing_stands xs) what) told
  text_is xs b c (Err kind) told bytes led (is, same) = ap (response_text bytes) is ∙ sym (ap (response_text []) is)
  text_is xs b c (Ok (act x)) told bytes led (answer, keeps, is) =
      ap (response_text bytes) is ∙ call_text (Apply x) answer (length c.past) bytes [] ∙ sym (ap (response_text []) is)
  text_is xs b c (Ok (peek address count)) told bytes led (is, read, same) =
      let r = shown_at b.present address count in
      ap (response_text bytes) is ∙ reading_text r bytes read ∙ sym (ap (response_text (bytes_of r)) is)
      ∙ ap (λ m. response_text (bytes_of (shown_at m address count)) told) (stands_for xs b led).present
  text_is xs b c (Ok map_asked) told bytes led (is, same) = ap (response_text bytes) is ∙ sym (ap (response_text []) is)
  text_is xs b c (Ok (back n)) told bytes led (answer, keeps, is) =
      ap (response_text bytes) is ∙ call_text (Back n) answer (length c.past) bytes [] ∙ sym (ap (response_text []) is)
  text_is xs b c (Ok (forward n)) told bytes led (answer, keeps, is) =
      ap (response_text bytes) is ∙ call_text (Forward n) answer (length c.past) bytes [] ∙ sym (ap (response_text []) is)

  -- and what is shown is what a reading contains
  shows_is : (xs : List Marked) (b c : Bench NamedState) (what : Result Asked FaultKind) (told : Response) (bytes : List ℕ) → Led settings xs b →
      Responds settings b what told bytes c → ShowsRead settings (stands_all settings nothing_stands xs) what bytes
  shows_is xs b c (Err kind) told bytes led h = tt
  shows_is xs b c (Ok (act x)) told bytes led h = tt
  shows_is xs b c (Ok (peek address count)) told bytes led (is, read, same) =
      subst (λ m. AreShown (shown_at m address count) bytes) (stands_for xs b led).present read
  shows_is xs b c (Ok map_asked) told bytes led h = tt
  shows_is xs b c (Ok (back n)) told bytes led h = tt
  shows_is xs b c (Ok (forward n)) told bytes led h = tt

  -- the lines after a response: those of the state and the number that the standing statements give
  behind_is : (xs : List Marked) (c : Bench NamedState) (m : Marked) (told : Response) → Led settings (xs ++ m ∷ []) c →
      lines_behind settings c.present (length c.past) told ≡ lines_with settings (stands_after settings (stands_all settings nothing_stands xs) m) told
  behind_is xs c m told led =
      let s = stands_for (xs ++ m ∷ []) c led in
      (λ i. lines_behind settings (s.present i) (s.kept i) told) ∙ ap (λ l. lines_with settings l told) (stands_push nothing_stands xs (m ∷ []))

  -- What a line adds: the further answers, marked.
  pub record TellsMore (xs : List Marked) (c : Bench NamedState) (told : List grammar.Answer) (shown : Option (ℕ × Response)) (bytes : List ℕ) : Type 0 where
    pub more : List Marked
    pub answers : answers_of more ≡ told
    pub led : Led settings (xs ++ more) c
    pub text : IsTold settings xs more (told_text settings c bytes shown)
    pub brings : Brings settings xs more shown
    pub shows : Shows settings xs more bytes
    pub count : length more ≡ told_count shown
    pub refused : refusals settings (stands_all settings nothing_stands xs) more ≡ told_refused shown

  pub tells_more : (xs : List Marked) (b c : Bench NamedState) (told : List grammar.Answer) (shown : Option (ℕ × Response)) (bytes : List ℕ) → Led settings xs b →
      Tells settings b told shown bytes c → TellsMore xs c told shown bytes
  tells_more xs b c [] None bytes led h = record {
    more = [];
    answers = refl;
    led = subst (λ ys. Led settings ys c) (sym (append-nil xs)) (subst (Led settings xs) (sym h) led);
    text = refl;
    brings = tt;
    shows = tt;
    count = refl;
    refused = refl;
  }
  tells_more xs b c (a ∷ []) (Some shown) bytes led (line, h) =
      let one = led_one xs b c a.line a.what shown.1 bytes led h in
      let l = stands_all settings nothing_stands xs in
      let m = marked a.line a.what one.0 in
      record {
        more = m ∷ [];
        answers = refl;
        led = one.1;
        text = (λ i. numbered (line i) (text_is xs b c a.what shown.1 bytes led h i) ++ behind_is xs c m shown.1 one.1 i)
            ∙ ap (λ r. numbered a.line (response_text (bytes_shown settings l a.what) r) ++ lines_with settings (stands_after settings l m) r) one.2
            ∙ sym (append-nil _);
        brings = (line, one.2);
        shows = shows_is xs b c a.what shown.1 bytes led h;
        count = refl;
        refused = plus_zero _ ∙ ap (λ r. if is_refused r then 1 else 0) (sym one.2);
      }
  tells_more xs b c [] (Some shown) bytes led h = absurd h
  tells_more xs b c (a ∷ []) None bytes led h = absurd h
  tells_more xs b c (a ∷ d ∷ others) None bytes led h = absurd h
  tells_more xs b c (a ∷ d ∷ others) (Some shown) bytes led h = absurd h

  -- the text of further answers, after the text of others
  pub told_both : (xs ys zs : List Marked) (a b : List ℕ) → IsTold settings xs ys a → IsTold settings (xs ++ ys) zs b → IsTold settings xs (ys ++ zs) (a ++ b)
  told_both xs ys zs a b e f =
      let l = stands_all settings nothing_stands xs in
      (λ i. e i ++ f i)
      ∙ ap (λ m. texts settings l ys ++ texts settings m zs) (stands_push nothing_stands xs ys)
      ∙ sym (texts_push l ys zs)

  -- how many of them are refusals
  pub refused_both : (xs ys zs : List Marked) → refusals settings nothing_stands (xs ++ (ys ++ zs))
      ≡ refusals settings nothing_stands xs + refusals settings (stands_all settings nothing_stands xs) ys + refusals settings (stands_all settings nothing_stands (xs ++ ys)) zs
  refused_both xs ys zs =
      let l = stands_all settings nothing_stands xs in
      let e = refusals_push nothing_stands xs (ys ++ zs) in
      let f = refusals_push l ys zs in
      let g : refusals settings (stands_all settings nothing_stands (xs ++ ys)) zs ≡ refusals settings (stands_all settings l ys) zs =
      ap (λ m. refusals settings m zs) (stands_push nothing_stands xs ys) in
      omega (arith, e, f, g)
