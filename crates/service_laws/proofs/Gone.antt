-- What is gone with tasks that have ended, and what stays.
use Rattle.std.proofs.Common.{◌≡◌, ◌≢◌, ◌⊎◌, ℕ, ◌/◌, Bool, true, false, not, ◌&&◌, ◌||◌, ◌==◌, if◌then◌else◌, Option, Some, None, refl, sym, ◌∙◌, ap, subst, inl, inr}
use Rattle.std.specs.Prelude.{unwrap_or}
use Rattle.std.proofs.lemmas.Bool.{cond-true, cond-false, and_from, and_left, and_right, or_left, or_right, or_from, eq-eqb, ne_eqb, both_ways}
use Rattle.vsm_model.specs.declared.Subpool.{Subpool}
use Rattle.vsm_model.specs.declared.replies.Reply.TheVariants.{Turn}
use Rattle.vsm_model.specs.Search.{holds}
use Rattle.vsm_model.specs.CellPools.{CellPool, are_ascending}
use Rattle.vsm_model.specs.State.{State, is_task}
use Rattle.vsm_model.specs.Registers.{with_register}
use Rattle.vsm_model.specs.Ending.{is_child, is_in_subtree, without_tasks}
use Rattle.vsm_model.specs.Causes.{first_cause}
use Rattle.vsm_model.specs.Tasks.{end_task_causes, ended}
use Rattle.vsm_model.specs.WellFormed.{TasksAreSound}
use Rattle.service_laws.specs.Ends.{HaveEnded, IsDetached, DetachEndsTheSubtree, HasEnded, EndTaskEndsTheCurrentTask}
use Rattle.service_laws.proofs.TaskTables.{found_still, none_still, found_no_more}
use Rattle.service_laws.proofs.Below.{subtree_is_whole}
use Rattle.service_laws.proofs.Ends.{parent_is, not_now, detach_passes, end_task_passes, parent_of_ended, no_child}
use Rattle.service_laws.proofs.Turned.{turned}
use Rattle.service_laws.proofs.Accepted.{detach_accepted, end_task_accepted}

none_of : {A : Type 0} (b : Bool) (o : Option A) → o ≡ None → (if b then None else o) ≡ None
none_of true o e = refl
none_of false o e = e

zero_of : (b : Bool) (word : ℕ) → word ≡ 0 → (if b then 0 else word) ≡ 0
zero_of true word e = refl
zero_of false word e = e

holds_not : {A : Type 0} (f : A → Bool) (o : Option A) → ((x : A) → o ≡ Some x → f x ≡ false) → holds f o ≡ false
holds_not f None h = refl
holds_not f (Some x) h = h x refl

module _ (s : State) (these : ℕ → Bool) where
  abbrev theirs : Subpool → Bool
  theirs p = these p.owner

  abbrev stays : CellPool → Bool
  stays pool = not (these pool.subpool.owner)

  have_ended : are_ascending s.cell_pools ≡ true → HaveEnded s (without_tasks s these) these
  have_ended up = record {
    no_task = λ task ends. cond-true (these task) None (s.parents task) ends;
    other_tasks = λ task stay. cond-false (these task) None (s.parents task) stay;
    no_subpool = λ number owner ends. and_left (not (these owner)) (s.subpools number owner) (ap not ends);
    other_subpools = λ number owner stay. ap (λ b. not b && s.subpools number owner) stay;
    no_sight = λ task number ends.
        cond-true (these task || holds these (s.sight task number)) None (s.sight task number) (or_left (these task) _ ends);
    no_sight_of_theirs = λ task number owner at ends.
        cond-true (these task || holds these (s.sight task number)) None (s.sight task number)
        (or_right (these task) (holds these (s.sight task number)) (ap (holds these) at ∙ ends));
    other_sight = λ task number owner at stay too.
        cond-false (these task || holds these (s.sight task number)) None (s.sight task number)
        (or_from (these task) (holds these (s.sight task number)) stay (ap (holds these) at ∙ too)) ∙ at;
    no_new_sight = λ task number none. none_of (these task || holds these (s.sight task number)) (s.sight task number) none;
    no_page = λ k p at ends. cond-true (holds theirs (s.pages k)) None (s.pages k) (ap (holds theirs) at ∙ ends);
    other_pages = λ k p at stay. cond-false (holds theirs (s.pages k)) None (s.pages k) (ap (holds theirs) at ∙ stay) ∙ at;
    no_new_page = λ k none. none_of (holds theirs (s.pages k)) (s.pages k) none;
    no_doubleword = λ d p at ends. and_left (not (holds theirs (s.pages (d / 512)))) (s.taken d) (ap (λ o. not (holds theirs o)) at ∙ ap not ends);
    other_doublewords = λ d stay. ap (λ b. not b && s.taken d) (holds_not theirs (s.pages (d / 512)) stay);
    no_byte = λ a p at ends.
        cond-true (holds theirs (s.pages (a / 4096))) None (s.bytes a) (ap (holds theirs) at ∙ ends);
    other_bytes = λ a stay. cond-false (holds theirs (s.pages (a / 4096))) None (s.bytes a) (holds_not theirs (s.pages (a / 4096)) stay);
    no_cell_pool = λ name pool at ends. found_no_more stays s.cell_pools up name pool at (ap not ends);
    other_cell_pools = λ name pool at stay. found_still stays s.cell_pools name pool at (ap not stay);
    no_new_cell_pool = λ name none. none_still stays s.cell_pools name none;
  }

-- which task is current, and which words exist, is no part of it
elsewhere : (s t : State) (these : ℕ → Bool) (current : ℕ) (words : ℕ → ℕ → ℕ) → HaveEnded (turned s current) t these →
    HaveEnded s (record t { words = words }) these
elsewhere s t these current words h = record {
  no_task = h.no_task;
  other_tasks = h.other_tasks;
  no_subpool = h.no_subpool;
  other_subpools = h.other_subpools;
  no_sight = h.no_sight;
  no_sight_of_theirs = h.no_sight_of_theirs;
  other_sight = h.other_sight;
  no_new_sight = h.no_new_sight;
  no_page = h.no_page;
  other_pages = h.other_pages;
  no_new_page = h.no_new_page;
  no_doubleword = h.no_doubleword;
  other_doublewords = h.other_doublewords;
  no_byte = h.no_byte;
  other_bytes = h.other_bytes;
  no_cell_pool = h.no_cell_pool;
  other_cell_pools = h.other_cell_pools;
  no_new_cell_pool = h.no_new_cell_pool;
}

-- another register than register 15 of the task
pub apart_from_15 : (current task register : ℕ) → (task ≢ current) ⊎ (register ≢ 15) → ((task == current) && (register == 15)) ≡ false
apart_from_15 current task register (inl other) = and_left (task == current) (register == 15) (ne_eqb task current other)
apart_from_15 current task register (inr other) = and_right (task == current) (register == 15) (ne_eqb register 15 other)

module _ (s : State) (w : TasksAreSound s) (up : are_ascending s.cell_pools ≡ true) (task : ℕ) (there : is_task s task ≡ true) (child : is_child s s.current task ≡ true) where
  abbrev ending : ℕ → Bool
  ending = is_in_subtree s task

  is_detached : IsDetached s (with_register (without_tasks s ending) 15 0) task
  is_detached = record {
    was_subtask = parent_is s w task there child;
    these = ending;
    are_all_below = λ other. subtree_is_whole s w task other there;
    have_ended = elsewhere s (without_tasks s ending) ending s.current (with_register (without_tasks s ending) 15 0).words (have_ended s ending up);
    current_stays = not_now s w task there child;
    current = refl;
    no_words = λ other register ends.
        zero_of ((other == s.current) && (register == 15)) (if ending other then 0 else s.words other register)
        (cond-true (ending other) 0 (s.words other register) ends);
    register_15 =
        cond-true ((s.current == s.current) && (15 == 15)) 0 (if ending s.current then 0 else s.words s.current 15)
        (and_from (s.current == s.current) (15 == 15) (eq-eqb s.current s.current refl) refl);
    other_registers = λ other register stay apart.
        cond-false ((other == s.current) && (register == 15)) 0 (if ending other then 0 else s.words other register)
        (apart_from_15 s.current other register apart)
        ∙ cond-false (ending other) 0 (s.words other register) stay;
  }

pub detach_ends_the_subtree : DetachEndsTheSubtree
detach_ends_the_subtree settings names_full s t task reply w e =
    let (none, is, replied) = detach_accepted settings names_full s t reply task e in
    let (there, child) = detach_passes s task none in
    (subst (λ (u : State). IsDetached s u task) is (is_detached s w.tasks w.cell_pools.ascending task there child), sym replied)

module _ (s : State) (w : TasksAreSound s) (up : are_ascending s.cell_pools ≡ true) (none : first_cause (end_task_causes s) ≡ None) where
  has_ended : HasEnded s (ended s).0
  has_ended =
      let parent : ℕ = unwrap_or (s.parents s.current) 0 in
      let alone = end_task_passes s none in
      record {
        no_subtask = λ task at. no_child s w alone.0 task s.current at (eq-eqb s.current s.current refl);
        not_first = λ is. both_ways (s.current == 1) alone.1 (eq-eqb s.current 1 is);
        have_ended = elsewhere s (ended s).0 (λ t. t == s.current) parent (ended s).0.words (have_ended (turned s parent) (λ t. t == s.current) up);
        turn = (parent_of_ended s w none).0;
        no_words = λ register. cond-true (s.current == s.current) 0 (s.words s.current register) (eq-eqb s.current s.current refl);
        other_registers = λ task register other. cond-false (task == s.current) 0 (s.words task register) (ne_eqb task s.current other);
      }

pub end_task_ends_the_current_task : EndTaskEndsTheCurrentTask
end_task_ends_the_current_task settings names_full s t reply w e =
    let (none, is, replied) = end_task_accepted settings names_full s t reply e in (
      subst (λ (u : State). HasEnded s u) is (has_ended s w.tasks w.cell_pools.ascending none),
      sym replied ∙ ap (λ (u : State). Turn u.current) is,
    )
