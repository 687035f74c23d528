-- Each state of a bench is well-formed: what a statement asks for, once its values are looked up, has its values, and
-- each call keeps all states well-formed.
use Rattle.std.proofs.Common.{◌≡◌, ℕ, zero, suc, ◌/◌, ◌<◌, Bool, true, Option, Some, None, List, [], ◌∷◌, All, refl, sym, subst, arith}
use Rattle.std.specs.Prelude.{IfSome, ⊤}
use Rattle.std.specs.Option.{option_map}
use Rattle.std.proofs.lemmas.Nat.{mod_below}
use Rattle.std.proofs.lemmas.List.Elements.{All-head, All-tail, All-cons, All-nil, All-take, All-from_recursion}
use Rattle.vsm_model.specs.declared.causes.Cause.{Cause}
use Rattle.vsm_model.specs.declared.limits.Settings.{Settings}
use Rattle.vsm_model.specs.declared.replies.Reply.{Reply}
use Rattle.vsm_model.specs.declared.services.Boundary.{Boundary}
use Rattle.vsm_model.specs.declared.services.Build.{Build}
use Rattle.vsm_model.specs.declared.services.Lengths.{Lengths}
use Rattle.vsm_model.specs.declared.services.Location.{Location}
use Rattle.vsm_model.specs.declared.services.Passed.{Passed}
use Rattle.vsm_model.specs.Bytes.{fullword}
use Rattle.vsm_model.specs.Forms.{with_code}
use Rattle.vsm_model.specs.Regions.{settings_valid}
use Rattle.vsm_model.specs.Services as services
use Rattle.vsm_model.specs.Services.{Service}
use Rattle.vsm_model.specs.Standing.{Outcome, Accepted, Refused, Call, Apply, Back, Forward, Look, Answer, Replied, RefusedFor, NoMemory, Moved, TooFar, Shown, Heard, Bench, new_bench, moved_back, moved_forward, state_after, alone, Keeps, Leads}
use Rattle.vsm_model.specs.Names.{NamedState, first_named_state, named_step}
use Rattle.vsm_model.specs.WellFormed.{IsWellFormedNamed}
use Rattle.vsm_model.proofs.First.{first_is_well_formed}
use Rattle.service_laws.specs.Reached.{IsRegister, IsStatement}
use Rattle.service_laws.proofs.Reached.{statement_leaves_well_formed}
use Rattle.macro_reader.specs.Written.{Target, in_name, in_register, spelled, word, IsTarget}
use Rattle.macro_reader.specs.Requests.{Act, obtain, release, whole, build, get, free, delete, attach, detach, run, end_task, poke}
use Rattle.bench_core.specs.Machine.{Why, register_in, name_in, with_three, with_bytes, with_lengths, area_asked, area_back, with_passed, service_asked, name_asked, family_asked, or_abend, served, statement_step, looked_up, lengths_asked, left_or_looked_up, with_cells, passed_asked}
use Rattle.vsm_bench.specs.Reached.{IsGiven, IsGivenCall, HasWellFormed, AcceptedLeavesWellFormed, ReachedIsWellFormed, BenchIsWellFormed}

same_register : (r n : ℕ) → ◌≡◌ {A = Option ℕ} (Some r) (Some n) → r ≡ n
same_register r n e = cc

no_register : (n : ℕ) → ◌≡◌ {A = Option ℕ} None (Some n) → ⊥
no_register n e = cc

-- a place that can be written, if it is a register, is one of the sixteen
register_is_one : (target : Option Target) → IfSome target IsTarget → IsRegister (register_in target)
register_is_one None is = λ n e. absurd (no_register n e)
register_is_one (Some (in_name name)) is = λ n e. absurd (no_register n e)
register_is_one (Some (in_register r)) is = λ n e. subst (λ n. n < 16) (same_register r n e) (let few = is.1 in omega (arith, few))

-- the elements of a fullword are bytes
fullword_is_bytes : (n : ℕ) → All (λ byte. byte < 256) (fullword n)
fullword_is_bytes n =
    All-from_recursion (λ byte. byte < 256) (fullword n)
    (mod_below (n / 16777216) 256 (omega arith), (mod_below (n / 65536) 256 (omega arith), (mod_below (n / 256) 256 (omega arith), (mod_below n 256 (omega arith), tt))))

-- The service, if there is one, is a statement with this name.
abbrev IsIt : Option (List ℕ) → Option Service → Type 0
IsIt name None = ⊤
IsIt name (Some service) = IsStatement (record { service = service; name = name })

-- ---- the services in which words are looked up

module _ (register : Option ℕ) (is : IsRegister register) (boundary : Boundary) (location : Location) (conditional : Bool) (name : Option (List ℕ)) where
  area_is_it : (lengths : Option Lengths) (subpool : Option ℕ) → IsIt name (with_lengths (area_asked register boundary location conditional) lengths subpool)
  area_is_it (Some lengths) (Some subpool) = record { values = is; unnamed = tt }
  area_is_it (Some lengths) None = tt
  area_is_it None subpool = tt

area_back_is_it : (conditional : Bool) (length address subpool : Option ℕ) → IsIt None (with_three (area_back conditional) length address subpool)
area_back_is_it conditional (Some length) (Some address) (Some subpool) = record { values = tt; unnamed = tt }
area_back_is_it conditional (Some length) (Some address) None = tt
area_back_is_it conditional (Some length) None subpool = tt
area_back_is_it conditional None address subpool = tt

whole_is_it : (subpool : Option ℕ) → IsIt None (option_map services.whole subpool)
whole_is_it (Some subpool) = record { values = tt; unnamed = tt }
whole_is_it None = tt

build_is_it : (pool : List ℕ) (header : Option (List ℕ)) (numbers : Option Build) → IsIt None (option_map (services.build pool header) numbers)
build_is_it pool header (Some numbers) = record { values = tt; unnamed = refl }
build_is_it pool header None = tt

free_is_it : (pool : List ℕ) (cell : Option ℕ) → IsIt None (option_map (services.free pool) cell)
free_is_it pool (Some cell) = record { values = tt; unnamed = tt }
free_is_it pool None = tt

attach_is_it : (shares_zero : Bool) (given shared : Option Passed) → IsIt None (with_passed shares_zero given shared)
attach_is_it shares_zero (Some given) (Some shared) = record { values = tt; unnamed = tt }
attach_is_it shares_zero (Some given) None = tt
attach_is_it shares_zero None shared = tt

detach_is_it : (task : Option ℕ) → IsIt None (option_map services.detach task)
detach_is_it (Some task) = record { values = tt; unnamed = tt }
detach_is_it None = tt

run_is_it : (task : Option ℕ) → IsIt None (option_map services.run task)
run_is_it (Some task) = record { values = tt; unnamed = tt }
run_is_it None = tt

spelled_is_it : (address : Option ℕ) (bytes : List ℕ) → All (λ byte. byte < 256) bytes → IsIt None (with_bytes address (Some bytes))
spelled_is_it (Some address) bytes are = record { values = are; unnamed = tt }
spelled_is_it None bytes are = tt

word_is_it : (address value : Option ℕ) → IsIt None (with_bytes address (option_map fullword value))
word_is_it (Some address) (Some value) = record { values = fullword_is_bytes value; unnamed = tt }
word_is_it (Some address) None = tt
word_is_it None value = tt

-- A statement as a bench is given it asks for a service with its values.
asked_is_it : (m : NamedState) (x : Act) → IsGiven x → IsIt (name_asked x) (service_asked m x)
asked_is_it m (obtain length subpool target boundary location form) is =
    area_is_it (register_in target) (register_is_one target is.valid.2) boundary location form.conditional (name_in target)
    (lengths_asked m length) (looked_up m subpool)
asked_is_it m (release length address subpool form) is =
    area_back_is_it form.conditional (looked_up m length) (looked_up m address) (looked_up m subpool)
asked_is_it m (whole subpool form) is = whole_is_it (looked_up m subpool)
asked_is_it m (build pool header primary secondary size subpool location) is =
    build_is_it pool header
    (with_cells location (looked_up m primary) (left_or_looked_up m secondary) (looked_up m size) (looked_up m subpool))
asked_is_it m (get pool target conditional) is = record { values = register_is_one target is.valid.1; unnamed = tt }
asked_is_it m (free pool cell) is = free_is_it pool (looked_up m cell)
asked_is_it m (delete pool) is = record { values = tt; unnamed = tt }
asked_is_it m (attach given shared shares_zero) is = attach_is_it shares_zero (passed_asked m given) (passed_asked m shared)
asked_is_it m (detach task) is = detach_is_it (looked_up m task)
asked_is_it m (run task) is = run_is_it (looked_up m task)
asked_is_it m end_task is = record { values = tt; unnamed = tt }
asked_is_it m (poke address (spelled bytes)) is =
    spelled_is_it (looked_up m address) bytes (All-from_recursion (λ byte. byte < 256) bytes is.has_bytes)
asked_is_it m (poke address (word value)) is = word_is_it (looked_up m address) (looked_up m value)

-- ---- statements

module _ (settings : Settings) (valid : settings_valid settings ≡ true) where
  -- the state after a service with its name in a form, by what it does
  outcome_kept : (m : NamedState) (x : Act) (service : Service) (o : Outcome NamedState Reply Cause) → IsIt (name_asked x) (Some service) →
      named_step settings m (record { service = service; name = name_asked x }) ≡ o → IsWellFormedNamed settings m →
      IsWellFormedNamed settings (state_after m (or_abend (with_code (family_asked x) service o)))
  outcome_kept m x service (Accepted n reply) is e w =
      statement_leaves_well_formed settings m n (record { service = service; name = name_asked x }) reply valid is w e
  outcome_kept m x service (Refused cause) is e w = w

  served_kept : (m : NamedState) (x : Act) (asked : Option Service) → IsIt (name_asked x) asked → IsWellFormedNamed settings m →
      IsWellFormedNamed settings (state_after m (served settings m x asked))
  served_kept m x None is w = w
  served_kept m x (Some service) is w =
      outcome_kept m x service (named_step settings m (record { service = service; name = name_asked x })) is refl w

  -- the state after a statement, also of a refused one
  left_well_formed : (m : NamedState) (x : Act) → IsGiven x → IsWellFormedNamed settings m →
      IsWellFormedNamed settings (state_after m (statement_step settings m x))
  left_well_formed m x is w = served_kept m x (service_asked m x) (asked_is_it m x is) w

pub accepted_leaves_well_formed : AcceptedLeavesWellFormed
accepted_leaves_well_formed settings m n x reply valid is w e =
    subst (λ o. IsWellFormedNamed settings (state_after m o)) e (left_well_formed settings valid m x is w)

pub reached_is_well_formed : ReachedIsWellFormed
reached_is_well_formed settings [] valid all = first_is_well_formed settings
reached_is_well_formed settings (x ∷ older) valid all =
    left_well_formed settings valid (alone first_named_state (statement_step settings) older) x (All-head IsGiven x older all)
    (reached_is_well_formed settings older valid (All-tail IsGiven x older all))

-- ---- calls

module _ (settings : Settings) where
  -- all states that a bench represents, one by one
  of_bench : (b : Bench NamedState) (past later : List NamedState) (s : NamedState) → b.past ≡ past → b.present ≡ s → b.later ≡ later →
      All (IsWellFormedNamed settings) past → IsWellFormedNamed settings s → All (IsWellFormedNamed settings) later → HasWellFormed settings b
  of_bench b past later s is_past is_present is_later p w l = record {
    past = subst (All (IsWellFormedNamed settings)) (sym is_past) p;
    present = subst (IsWellFormedNamed settings) (sym is_present) w;
    later = subst (All (IsWellFormedNamed settings)) (sym is_later) l;
  }

  back_kept : (n : ℕ) (past : List NamedState) (s : NamedState) (later : List NamedState) → All (IsWellFormedNamed settings) past →
      IsWellFormedNamed settings s → All (IsWellFormedNamed settings) later → HasWellFormed settings (moved_back n past s later)
  back_kept zero past s later p w l = record { past = p; present = w; later = l }
  back_kept (suc n) [] s later p w l = record { past = p; present = w; later = l }
  back_kept (suc n) (q ∷ past) s later p w l =
      back_kept n past q (s ∷ later) (All-tail (IsWellFormedNamed settings) q past p) (All-head (IsWellFormedNamed settings) q past p)
      (All-cons (IsWellFormedNamed settings) s later w l)

  forward_kept : (n : ℕ) (past : List NamedState) (s : NamedState) (later : List NamedState) → All (IsWellFormedNamed settings) past →
      IsWellFormedNamed settings s → All (IsWellFormedNamed settings) later → HasWellFormed settings (moved_forward n past s later)
  forward_kept zero past s later p w l = record { past = p; present = w; later = l }
  forward_kept (suc n) past s [] p w l = record { past = p; present = w; later = l }
  forward_kept (suc n) past s (t ∷ later) p w l =
      forward_kept n (s ∷ past) t later (All-cons (IsWellFormedNamed settings) s past w p) (All-head (IsWellFormedNamed settings) t later l)
      (All-tail (IsWellFormedNamed settings) t later l)

  same_bench : (b c : Bench NamedState) → c ≡ b → HasWellFormed settings b → HasWellFormed settings c
  same_bench b c e h = subst (HasWellFormed settings) (sym e) h

  module _ (valid : settings_valid settings ≡ true) where
    -- what each call keeps
    call_kept : (b : Bench NamedState) (call : Call Act) (answer : Answer Reply Why) (c : Bench NamedState) → IsGivenCall call →
        Keeps (statement_step settings) settings.history b call answer c → HasWellFormed settings b → HasWellFormed settings c
    call_kept b (Apply x) (Replied reply) c is k h = record {
      past =
          subst (All (IsWellFormedNamed settings)) (sym k.1)
          (All-take (IsWellFormedNamed settings) settings.history (b.present ∷ b.past)
          (All-cons (IsWellFormedNamed settings) b.present b.past h.present h.past));
      present = accepted_leaves_well_formed settings b.present c.present x reply valid is h.present k.0;
      later = subst (All (IsWellFormedNamed settings)) (sym k.2) (All-nil (IsWellFormedNamed settings));
    }
    call_kept b (Apply x) (RefusedFor cause) c is k h = same_bench b c k.1 h
    call_kept b (Apply x) NoMemory c is k h = same_bench b c k.1 h
    call_kept b (Apply x) Moved c is k h = absurd k
    call_kept b (Apply x) (TooFar n) c is k h = absurd k
    call_kept b (Apply x) Shown c is k h = absurd k
    call_kept b (Back n) Moved c is k h = same_bench (moved_back n b.past b.present b.later) c k.1 (back_kept n b.past b.present b.later h.past h.present h.later)
    call_kept b (Back n) (TooFar kept) c is k h = same_bench b c k.2 h
    call_kept b (Back n) (Replied reply) c is k h = absurd k
    call_kept b (Back n) (RefusedFor cause) c is k h = absurd k
    call_kept b (Back n) NoMemory c is k h = absurd k
    call_kept b (Back n) Shown c is k h = absurd k
    call_kept b (Forward n) Moved c is k h = same_bench (moved_forward n b.past b.present b.later) c k.1 (forward_kept n b.past b.present b.later h.past h.present h.later)
    call_kept b (Forward n) (TooFar undone) c is k h = same_bench b c k.2 h
    call_kept b (Forward n) (Replied reply) c is k h = absurd k
    call_kept b (Forward n) (RefusedFor cause) c is k h = absurd k
    call_kept b (Forward n) NoMemory c is k h = absurd k
    call_kept b (Forward n) Shown c is k h = absurd k
    call_kept b Look Shown c is k h = same_bench b c k h
    call_kept b Look (Replied reply) c is k h = absurd k
    call_kept b Look (RefusedFor cause) c is k h = absurd k
    call_kept b Look NoMemory c is k h = absurd k
    call_kept b Look Moved c is k h = absurd k
    call_kept b Look (TooFar n) c is k h = absurd k

    calls_kept : (calls : List (Heard Act Reply Why)) (b c : Bench NamedState) → All (λ h. IsGivenCall h.call) calls →
        Leads (statement_step settings) settings.history b calls c → HasWellFormed settings b → HasWellFormed settings c
    calls_kept [] b c all leads h = same_bench b c leads h
    calls_kept (x ∷ calls) b c all leads h =
        calls_kept calls leads.0 c (All-tail (λ h. IsGivenCall h.call) x calls all) leads.2
        (call_kept b x.call x.answer leads.0 (All-head (λ h. IsGivenCall h.call) x calls all) leads.1 h)

pub bench_is_well_formed : BenchIsWellFormed
bench_is_well_formed settings calls c valid all leads =
    calls_kept settings valid calls (new_bench first_named_state) c all leads
    (record {
      past = All-nil (IsWellFormedNamed settings);
      present = first_is_well_formed settings;
      later = All-nil (IsWellFormedNamed settings);
    })
