-- What a statement that can be written asks for stores at most 256 bytes.
use Rattle.std.proofs.Common.{◌≡◌, ℕ, ◌≤◌, Bool, Option, Some, None, List, length, subst, arith, lit≤}
use Rattle.std.specs.Option.{IfSome, option_map}
use Rattle.bench_core.specs.Machine.{service_asked, looked_up, lengths_asked, left_or_looked_up, passed_asked, with_bytes, with_cells, with_lengths, with_passed, with_three, bytes_in}
use Rattle.macro_statements.specs.Requests.{Act, IsStored, IsValidAct, Stored, spelled, word}
use Rattle.macro_statements.specs.Requests.{obtain, release, whole, build, get, free, delete, attach, detach, run, end_task, poke}
use Rattle.vsm_model.specs.Bytes.{fullword}
use Rattle.vsm_model.specs.Names.{NamedState}
use Rattle.vsm_model.specs.declared.services.Lengths.{Lengths}
use Rattle.vsm_model.specs.declared.services.Passed.{Passed}
use Rattle.vsm_model.specs.Services as services
use Rattle.vsm_model.specs.Services.{Service}
use Rattle.explain_findings.specs.Judged.{HasFewBytes}

few_in : {A : Type 0} (f : A → Service) (o : Option A) → ((a : A) → HasFewBytes (f a)) → IfSome (option_map f o) HasFewBytes
few_in f None few = tt
few_in f (Some a) few = few a

few_of_three : (f : ℕ → ℕ → ℕ → Service) (a b c : Option ℕ) → ((k l m : ℕ) → HasFewBytes (f k l m)) → IfSome (with_three f a b c) HasFewBytes
few_of_three f None b c few = tt
few_of_three f (Some k) None c few = tt
few_of_three f (Some k) (Some l) None few = tt
few_of_three f (Some k) (Some l) (Some m) few = few k l m

few_of_area : (f : Lengths → ℕ → Service) (a : Option Lengths) (b : Option ℕ) → ((k : Lengths) (l : ℕ) → HasFewBytes (f k l)) → IfSome (with_lengths f a b) HasFewBytes
few_of_area f None b few = tt
few_of_area f (Some k) None few = tt
few_of_area f (Some k) (Some l) few = few k l

few_of_task : (shares_zero : Bool) (a b : Option Passed) → IfSome (with_passed shares_zero a b) HasFewBytes
few_of_task shares_zero None b = tt
few_of_task shares_zero (Some k) None = tt
few_of_task shares_zero (Some k) (Some l) = tt

few_of_store : (a : Option ℕ) (b : Option (List ℕ)) → IfSome b (λ bytes. length bytes ≤ 256) → IfSome (with_bytes a b) HasFewBytes
few_of_store None b few = tt
few_of_store (Some address) None few = tt
few_of_store (Some address) (Some bytes) few = few

few_of_word : (o : Option ℕ) → IfSome (option_map fullword o) (λ bytes. length bytes ≤ 256)
few_of_word None = tt
few_of_word (Some n) = lit≤ tt

few_stored : (m : NamedState) (content : Stored) → IsStored content → IfSome (bytes_in m content) (λ bytes. length bytes ≤ 256)
few_stored m (spelled bytes) valid = omega (arith, valid)
few_stored m (word value) valid = few_of_word (looked_up m value)

few : (m : NamedState) (x : Act) → IsValidAct x → IfSome (service_asked m x) HasFewBytes
few m (obtain length subpool target boundary location form) valid =
    few_of_area _ (lengths_asked m length) (looked_up m subpool) (λ k l. tt)
few m (release length address subpool form) valid =
    few_of_three _ (looked_up m length) (looked_up m address) (looked_up m subpool) (λ j k l. tt)
few m (whole subpool form) valid = few_in services.whole (looked_up m subpool) (λ n. tt)
few m (build pool header primary secondary size subpool location) valid =
    few_in (services.build pool header)
    (with_cells location (looked_up m primary) (left_or_looked_up m secondary) (looked_up m size) (looked_up m subpool))
    (λ b. tt)
few m (get pool target conditional) valid = tt
few m (free pool cell) valid = few_in (services.free pool) (looked_up m cell) (λ n. tt)
few m (delete pool) valid = tt
few m (attach given shared shares_zero) valid = few_of_task shares_zero (passed_asked m given) (passed_asked m shared)
few m (detach task) valid = few_in services.detach (looked_up m task) (λ n. tt)
few m (run task) valid = few_in services.run (looked_up m task) (λ n. tt)
few m end_task valid = tt
few m (poke address content) valid = few_of_store (looked_up m address) (bytes_in m content) (few_stored m content valid.1)

pub few_asked : (m : NamedState) (x : Act) (service : Service) → IsValidAct x → service_asked m x ≡ Some service → HasFewBytes service
few_asked m x service valid is =
    let P : Option Service → Type 0 = λ o. IfSome o HasFewBytes in
    subst P is (few m x valid)
