-- What ATTACH leaves: a new task, with the subpools that it's given and those that it shares.
-- Assembler Services Guide, "Virtual storage management", "Subpool handling"; Assembler Services Reference, ATTACH:
-- GSPV, GSPL, SHSPV, SHSPL and SZERO.
use Rattle.std.specs.Prelude.{◌≡◌, ◌≢◌, ◌⊎◌, ℕ, ◌<◌, ◌≤◌, Bool, true, false, Some, None, List, ◌++◌, slice_get}
use Rattle.vsm_model.specs.declared.Subpool.{Subpool}
use Rattle.vsm_model.specs.declared.limits.Settings.{Settings}
use Rattle.vsm_model.specs.declared.replies.Reply.{Reply}
use Rattle.vsm_model.specs.declared.replies.Reply.TheVariants as replies
use Rattle.vsm_model.specs.declared.services.Attach.{Attach}
use Rattle.vsm_model.specs.declared.services.Obtain.{Obtain}
use Rattle.vsm_model.specs.Search.{is_in}
use Rattle.vsm_model.specs.CellPools.{CellPool, cell_pool_in}
use Rattle.vsm_model.specs.State.{State, is_task}
use Rattle.vsm_model.specs.Subpools.{seen_or_own}
use Rattle.vsm_model.specs.Services.{attach, obtain}
use Rattle.vsm_model.specs.Standing.{Accepted}
use Rattle.vsm_model.specs.Passing.{numbers_in}
use Rattle.vsm_model.specs.Step.{step}
use Rattle.vsm_model.specs.WellFormed.{IsWellFormed}

-- From s to t, the current task gave the subpool of the number to the task: the one that it owned, or a new one if it
-- saw none.
pub record IsGiven (s t : State) (task number : ℕ) : Type 0 where
  -- it saw no other task's
  pub was_its_own : (owner : ℕ) → s.sight s.current number ≡ Some owner → owner ≡ s.current
  -- the task owns it and sees it, and the giver neither owns nor sees one
  pub owned : t.subpools number task ≡ true
  pub seen : t.sight task number ≡ Some task
  pub not_owned : t.subpools number s.current ≡ false
  pub not_seen : t.sight s.current number ≡ None
  -- a task that shared it with the giver sees it as the new owner's; what else was seen of the number is still seen,
  -- and subpools of other owners stay
  pub sharers :
      (other : ℕ) → other ≢ s.current → s.sight other number ≡ Some s.current → t.sight other number ≡ Some task
  pub other_sight :
      (other : ℕ) → other ≢ s.current → other ≢ task → s.sight other number ≢ Some s.current →
      t.sight other number ≡ s.sight other number
  pub other_owners :
      (owner : ℕ) → owner ≢ s.current → owner ≢ task → t.subpools number owner ≡ s.subpools number owner
  -- its pages go with it, and they are all that the new owner has; the giver has none left
  pub pages :
      (k : ℕ) → s.pages k ≡ Some (record { number = number; owner = s.current }) →
      t.pages k ≡ Some (record { number = number; owner = task })
  pub no_other_page :
      (k : ℕ) → t.pages k ≡ Some (record { number = number; owner = task }) →
      s.pages k ≡ Some (record { number = number; owner = s.current })
  pub no_page_left : (k : ℕ) → t.pages k ≢ Some (record { number = number; owner = s.current })
  -- its cell pools go with it
  pub cell_pools :
      (name : List ℕ) (pool : CellPool) → cell_pool_in s.cell_pools name ≡ Some pool →
      pool.subpool ≡ record { number = number; owner = s.current } →
      cell_pool_in t.cell_pools name ≡ Some (record pool { subpool = record { number = number; owner = task } })
  -- storage of the number that the giver then asks for is again a subpool's of its own
  pub asked_again : seen_or_own t number ≡ record { number = number; owner = s.current }

-- From s to t, the current task shares the subpool of the number with the task: the one that it saw, or a new one of
-- its own.
pub record IsShared (s t : State) (task number : ℕ) : Type 0 where
  pub owner : ℕ
  pub one_that_it_saw : (o : ℕ) → s.sight s.current number ≡ Some o → owner ≡ o
  pub else_its_own : s.sight s.current number ≡ None → owner ≡ s.current
  -- both see it, and all others see what they saw
  pub there : t.subpools number owner ≡ true
  pub seen : t.sight task number ≡ Some owner
  pub seen_still : t.sight s.current number ≡ Some owner
  pub other_sight : (other : ℕ) → other ≢ s.current → other ≢ task → t.sight other number ≡ s.sight other number
  pub other_owners : (o : ℕ) → o ≢ owner → t.subpools number o ≡ s.subpools number o

-- From s to t, the task has a new subpool of its own of the number, without storage, and all else of the number is as
-- it was.
pub record HasItsOwn (s t : State) (task number : ℕ) : Type 0 where
  pub owned : t.subpools number task ≡ true
  pub seen : t.sight task number ≡ Some task
  pub no_page : (k : ℕ) → t.pages k ≢ Some (record { number = number; owner = task })
  pub other_sight : (other : ℕ) → other ≢ task → t.sight other number ≡ s.sight other number
  pub other_owners : (owner : ℕ) → owner ≢ task → t.subpools number owner ≡ s.subpools number owner

-- Each number is from 1 to 127, and none appears twice.
pub record AreNumbers (numbers : List ℕ) : Type 0 where
  pub private : (n : ℕ) → is_in numbers n ≡ true → (1 ≤ n) × (n ≤ 127)
  pub once : (i j n : ℕ) → i < j → slice_get numbers i ≡ Some n → slice_get numbers j ≢ Some n

-- From s to t, the task was attached.
pub record IsAttached (s t : State) (a : Attach) (task : ℕ) : Type 0 where
  -- its number is the least from 1 to 64 that no task had
  pub in_range : (1 ≤ task) × (task ≤ 64)
  pub was_none : is_task s task ≡ false
  pub is_least : (n : ℕ) → 1 ≤ n → n < task → is_task s n ≡ true
  -- its parent is the current task, which stays current, and all other tasks have their parents
  pub parent : t.parents task ≡ Some s.current
  pub other_tasks : (other : ℕ) → other ≢ task → t.parents other ≡ s.parents other
  pub current : t.current ≡ s.current
  -- its registers are zero; registers 15 and 1 of the current task are 0 and its number, and no other register changes
  pub no_words : (register : ℕ) → t.words task register ≡ 0
  pub register_15 : t.words s.current 15 ≡ 0
  pub register_1 : t.words s.current 1 ≡ task
  pub other_registers :
      (other register : ℕ) → (other ≢ s.current) ⊎ ((register ≢ 15) × (register ≢ 1)) →
      t.words other register ≡ s.words other register
  -- the numbers that the operands name are private ones, and none is named twice
  pub given : List ℕ
  pub are_given : numbers_in s a.given ≡ Some given
  pub shared : List ℕ
  pub are_shared : numbers_in s a.shared ≡ Some shared
  pub are_numbers : AreNumbers (given ++ shared)
  -- what becomes of the subpools of each number: it is given or shared; subpool 0 is shared or the task's own; others
  -- are untouched
  pub each_given : (number : ℕ) → is_in given number ≡ true → IsGiven s t task number
  pub each_shared : (number : ℕ) → is_in shared number ≡ true → IsShared s t task number
  pub zero_shared : a.shares_zero ≡ true → IsShared s t task 0
  pub zero_own : a.shares_zero ≡ false → HasItsOwn s t task 0
  pub other_sight :
      (number other : ℕ) → number ≢ 0 → is_in given number ≡ false → is_in shared number ≡ false →
      t.sight other number ≡ s.sight other number
  pub other_subpools :
      (number owner : ℕ) → number ≢ 0 → is_in given number ≡ false → is_in shared number ≡ false →
      t.subpools number owner ≡ s.subpools number owner
  -- storage stays where it is: doublewords and bytes, and whose it is, except what is given
  pub doublewords : t.taken ≡ s.taken
  pub bytes : t.bytes ≡ s.bytes
  pub other_pages :
      (k : ℕ) (p : Subpool) → s.pages k ≡ Some p → (is_in given p.number ≡ false) ⊎ (p.owner ≢ s.current) →
      t.pages k ≡ Some p
  pub no_new_page : (k : ℕ) → s.pages k ≡ None → t.pages k ≡ None
  pub other_cell_pools :
      (name : List ℕ) (pool : CellPool) → cell_pool_in s.cell_pools name ≡ Some pool →
      (is_in given pool.subpool.number ≡ false) ⊎ (pool.subpool.owner ≢ s.current) →
      cell_pool_in t.cell_pools name ≡ Some pool
  pub no_new_cell_pool :
      (name : List ℕ) → cell_pool_in s.cell_pools name ≡ None → cell_pool_in t.cell_pools name ≡ None

-- An accepted ATTACH makes a task, and gives it or shares with it what the operands name.
abbrev pub AttachMakesATask : Type 0
AttachMakesATask =
    (settings : Settings) (names_full : Bool) (s t : State) (a : Attach) (reply : Reply) → IsWellFormed settings s →
    step settings names_full s (attach a) ≡ Accepted t reply →
    (task : ℕ) × IsAttached s t a task × (reply ≡ replies.Attached task)

-- From t to u, a giver that obtained storage of the number again has a new subpool of its own, which has each page that
-- was assigned; the task keeps what it was given.
pub record HasANewOne (t u : State) (giver task number : ℕ) : Type 0 where
  pub owned : u.subpools number giver ≡ true
  pub seen : u.sight giver number ≡ Some giver
  pub pages :
      (k : ℕ) (p : Subpool) → t.pages k ≡ None → u.pages k ≡ Some p → p ≡ record { number = number; owner = giver }
  pub kept : u.subpools number task ≡ true
  pub seen_still : u.sight task number ≡ Some task

-- After a gift, an accepted obtain of the number makes the giver a new subpool.
abbrev pub AGiverIsMadeANewOne : Type 0
AGiverIsMadeANewOne =
    (settings : Settings) (names_full : Bool) (s t u : State) (task : ℕ) (o : Obtain) (address given : ℕ) →
    IsGiven s t task o.number → t.current ≡ s.current →
    step settings names_full t (obtain o) ≡ Accepted u (replies.Obtained address given) →
    HasANewOne t u s.current task o.number
