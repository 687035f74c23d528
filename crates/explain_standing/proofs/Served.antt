-- Only the service of a GET is answered with a cell.
use Rattle.std.proofs.Common.{◌≡◌, ℕ, Bool, true, false, if◌then◌else◌, Option, Some, None, List, refl, sym, ap, ◌∙◌, inl, inr}
use Rattle.std.specs.Option.{option_map}
use Rattle.bench_core.specs.Machine.{bytes_in, left_or_looked_up, lengths_asked, looked_up, passed_asked, service_asked, with_bytes, with_cells, with_lengths, with_passed, with_three}
use Rattle.macro_statements.specs.Requests.{Act, obtain, release, whole, build, get, free, delete, attach, detach, run, end_task, poke}
use Rattle.vsm_model.specs.declared.limits.Settings.{Settings}
use Rattle.vsm_model.specs.declared.replies.Reply.{Reply}
use Rattle.vsm_model.specs.declared.replies.Reply.TheVariants.{Obtained, Returned, Cell, Attached, Turn, Stored}
use Rattle.vsm_model.specs.declared.services.Lengths.{Lengths}
use Rattle.vsm_model.specs.declared.services.Passed.{Passed}
use Rattle.vsm_model.specs.Names.{NamedState}
use Rattle.vsm_model.specs.Search.{holds}
use Rattle.vsm_model.specs.Services as services
use Rattle.vsm_model.specs.Services.{Service}
use Rattle.vsm_model.specs.Standing.{Accepted, reply_in}
use Rattle.vsm_model.specs.State.{State}
use Rattle.vsm_model.specs.Step.{effect, step}
use Rattle.vsm_model.proofs.Chosen.{accepted_has_its_effect}
use Rattle.explain_standing.specs.Carried.{is_get}
use Rattle.explain_standing.specs.Newly.{taken_by}
use Rattle.explain_standing.proofs.CellsByReply.{is_cell}
use Rattle.explain_standing.proofs.Effects.{same_reply}

-- ---- the service that a statement asks for

abbrev gets : Service → Bool
gets (services.get name operands) = true
gets (services.obtain o) = false
gets (services.release r) = false
gets (services.whole number) = false
gets (services.attach a) = false
gets (services.detach task) = false
gets services.end_task = false
gets (services.run task) = false
gets (services.store address bytes) = false
gets (services.build name header b) = false
gets (services.free name cell) = false
gets (services.delete name) = false

by_one : {A : Type 0} (f : A → Service) → ((a : A) → gets (f a) ≡ false) → (o : Option A) → holds gets (option_map f o) ≡ false
by_one f none None = refl
by_one f none (Some a) = none a

by_lengths : (f : Lengths → ℕ → Service) → ((l : Lengths) (n : ℕ) → gets (f l n) ≡ false) → (o : Option Lengths) (p : Option ℕ) → holds gets (with_lengths f o p) ≡ false
by_lengths f none None None = refl
by_lengths f none None (Some n) = refl
by_lengths f none (Some l) None = refl
by_lengths f none (Some l) (Some n) = none l n

by_three : (f : ℕ → ℕ → ℕ → Service) → ((a b c : ℕ) → gets (f a b c) ≡ false) → (o p q : Option ℕ) → holds gets (with_three f o p q) ≡ false
by_three f none None None None = refl
by_three f none None None (Some c) = refl
by_three f none None (Some b) None = refl
by_three f none None (Some b) (Some c) = refl
by_three f none (Some a) None None = refl
by_three f none (Some a) None (Some c) = refl
by_three f none (Some a) (Some b) None = refl
by_three f none (Some a) (Some b) (Some c) = none a b c

by_bytes : (o : Option ℕ) (p : Option (List ℕ)) → holds gets (with_bytes o p) ≡ false
by_bytes None None = refl
by_bytes None (Some bytes) = refl
by_bytes (Some a) None = refl
by_bytes (Some a) (Some bytes) = refl

by_passed : (zero_too : Bool) (o p : Option Passed) → holds gets (with_passed zero_too o p) ≡ false
by_passed zero_too None None = refl
by_passed zero_too None (Some b) = refl
by_passed zero_too (Some a) None = refl
by_passed zero_too (Some a) (Some b) = refl

asked : (m : NamedState) (x : Act) → is_get x ≡ false → holds gets (service_asked m x) ≡ false
asked m (obtain length subpool target boundary location form) e = by_lengths _ (λ l n. refl) (lengths_asked m length) (looked_up m subpool)
asked m (release length address subpool form) e = by_three _ (λ a b c. refl) (looked_up m length) (looked_up m address) (looked_up m subpool)
asked m (whole subpool form) e = by_one services.whole (λ a. refl) (looked_up m subpool)
asked m (build pool header primary secondary size subpool location) e =
    by_one (services.build pool header) (λ a. refl)
    (with_cells location (looked_up m primary) (left_or_looked_up m secondary) (looked_up m size) (looked_up m subpool))
asked m (get pool target conditional) e = absurd (let no : true ≡ false = e in cc)
asked m (free pool cell) e = by_one (services.free pool) (λ a. refl) (looked_up m cell)
asked m (delete pool) e = refl
asked m (attach given shared shares_zero) e = by_passed shares_zero (passed_asked m given) (passed_asked m shared)
asked m (detach task) e = by_one services.detach (λ a. refl) (looked_up m task)
asked m (run task) e = by_one services.run (λ a. refl) (looked_up m task)
asked m end_task e = refl
asked m (poke address content) e = by_bytes (looked_up m address) (bytes_in m content)

-- ---- its reply

no_cell : (settings : Settings) (s : State) (x : Service) → gets x ≡ false → is_cell (effect settings s x).1 ≡ false
no_cell settings s (services.obtain o) e = refl
no_cell settings s (services.release r) e = refl
no_cell settings s (services.whole number) e = refl
no_cell settings s (services.attach a) e = refl
no_cell settings s (services.detach task) e = refl
no_cell settings s services.end_task e = refl
no_cell settings s (services.run task) e = refl
no_cell settings s (services.store address bytes) e = refl
no_cell settings s (services.build name header b) e = refl
no_cell settings s (services.get name operands) e = absurd (let no : true ≡ false = e in cc)
no_cell settings s (services.free name cell) e = refl
no_cell settings s (services.delete name) e = refl

-- No reply but a cell needs the sums of taken bytes.
needless : (reply : Reply) (a b c d : ℕ) → is_cell reply ≡ false → taken_by reply a b ≡ taken_by reply c d
needless (Obtained address length) a b c d e = refl
needless (Returned code) a b c d e = refl
needless (Cell address) a b c d e = absurd (let no : true ≡ false = e in cc)
needless (Attached task) a b c d e = refl
needless (Turn task) a b c d e = refl
needless Stored a b c d e = refl

pub taken_by_some : (settings : Settings) (names_full : Bool) (m : NamedState) (t : State) (x : Act) (service : Service) (reply : Reply) (before after : ℕ) →
    service_asked m x ≡ Some service → step settings names_full m.storage service ≡ Accepted t reply →
    taken_by reply (if is_get x then before else 0) (if is_get x then after else 0) ≡ taken_by reply before after
taken_by_some settings names_full m t x service reply before after is e = go (is_get x) refl where
  quiet : is_get x ≡ false → is_cell reply ≡ false
  quiet other =
      let its : gets service ≡ false = ap (holds gets) (sym is) ∙ asked m x other in
      elim (accepted_has_its_effect settings names_full m.storage t service reply e) [
        | inl has ↦ ap is_cell (same_reply (effect settings m.storage service).1 reply (ap reply_in has.1)) ∙ no_cell settings m.storage service its
        | inr four ↦ ap is_cell four.1
      ]

  go : (b : Bool) → is_get x ≡ b → taken_by reply (if b then before else 0) (if b then after else 0) ≡ taken_by reply before after
  go true e = refl
  go false e = needless reply 0 0 before after (quiet e)
