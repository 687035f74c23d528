-- A task that shares a subpool, or no longer does, and back; and a subpool that passes to another task, and back.
use Rattle.std.proofs.Common.{◌≡◌, ◌≢◌, ℕ, ◌+◌, ◌≤◌, Bool, true, false, not, ◌&&◌, ◌==◌, if◌then◌else◌, Option, Some, None, refl, sym, ap, ◌∙◌, arith}
use Rattle.std.specs.Option.{option_map}
use Rattle.std.proofs.lemmas.Bool.{eqb-true, eq-eqb, ne_eqb, and_left}
use Rattle.vsm_model.specs.declared.Subpool.{Subpool}
use Rattle.vsm_model.specs.Passing.{sight_after_gift}
use Rattle.vsm_model.specs.Search.{holds}
use Rattle.vsm_model.specs.Subpools.{same_subpool}
use Rattle.cell_pool.specs.Pools.{Pool, lies_in, handed_on}
use Rattle.subpool_storage.specs.Subpools.{Subpools, is_there, owned_by, with_passed}
use Rattle.storage_changes.specs.declared.record.SharerRecord.{SharerRecord}
use Rattle.storage_changes.specs.declared.record.PassRecord.{PassRecord}
use Rattle.storage_changes.specs.Walk.{Walk, flip}
use Rattle.storage_changes.specs.Steps.{sharer_step, pass_step}
use Rattle.storage_changes.specs.Fits.{SharerFits, PassFits}
use Rattle.storage_changes.proofs.Cases.{cond-back, cond-in, cond-out, and-left, and-right, and-both, and-false, same-self, same-is, subpools-same, state-same, walk-same}

-- a sharer

module _ (w : Walk) (p : Subpool) (sharer : ℕ) where
  abbrev shared : Bool → SharerRecord
  shared b = record { subpool = p; task = sharer; present = b }

  abbrev seen : ℕ → ℕ → Option ℕ
  seen = w.state.subpools.sight

  abbrev behind : Bool → Walk
  behind b = flip (sharer_step w (shared b))

  abbrev back : Bool → Walk
  back b = sharer_step (behind b) (shared (not b))

  is-sharers : (task number : ℕ) → ((task == sharer) && (number == p.number)) ≡ true → seen sharer p.number ≡ seen task number
  is-sharers task number c =
      let same_task : task ≡ sharer = eqb-true task sharer (and-left (task == sharer) (number == p.number) c) in
      let same_number : number ≡ p.number = eqb-true number p.number (and-right (task == sharer) (number == p.number) c) in
      λ i. seen (sym same_task i) (sym same_number i)

  sharer-other : (b : Bool) → SharerFits w (shared b) → (if not b then Some p.owner else None) ≡ seen sharer p.number
  sharer-other true h = sym h.other
  sharer-other false h = sym h.other

  sight-back : (b : Bool) → SharerFits w (shared b) → (task number : ℕ) → (back b).state.subpools.sight task number ≡ seen task number
  sight-back b h task number = cond-back ((task == sharer) && (number == p.number)) (if not b then Some p.owner else None) (if b then Some p.owner else None) (seen task number)
      (λ c. sharer-other b h ∙ is-sharers task number c)

  spare-back : (b : Bool) → SharerFits w (shared b) → (back b).spare ≡ w.spare
  spare-back true h = omega (arith, h.room)
  spare-back false h = omega arith

  room-back : (b : Bool) → SharerFits w (shared b) → 1 ≤ (behind b).spare + (if not b then 0 else 1)
  room-back true h = omega (arith, h.room)
  room-back false h = omega arith

  sharer-seen : (b : Bool) → (behind b).state.subpools.sight sharer p.number ≡ (if b then Some p.owner else None)
  sharer-seen b = cond-in ((sharer == sharer) && (p.number == p.number)) (if b then Some p.owner else None) (seen sharer p.number)
      (and-both (sharer == sharer) (p.number == p.number) (eq-eqb sharer sharer refl) (eq-eqb p.number p.number refl))

  not-turned : (b : Bool) → (if b then Some p.owner else None) ≡ (if not b then None else Some p.owner)
  not-turned true = refl
  not-turned false = refl

  there-back : (b : Bool) → SharerFits w (shared b) → is_there (behind b).state.subpools p ≡ true
  there-back b h = ap (holds (λ owner. owner == p.owner)) (cond-out ((p.owner == sharer) && (p.number == p.number)) (if b then Some p.owner else None) (seen p.owner p.number)
      (and_left (p.owner == sharer) (p.number == p.number) (ne_eqb p.owner sharer (λ e. h.sharer (sym e))))) ∙ h.there

  run-back : (b : Bool) → SharerFits w (shared b) → back b ≡ flip w
  run-back b h = walk-same (back b) (flip w)
      (state-same (back b).state w.state refl
      (subpools-same (back b).state.subpools w.state.subpools (sight-back b h) (λ q page. refl) (λ q d. refl) (λ id. refl))
      (λ page. refl) (λ a. refl))
      (λ a. refl) (λ a. refl) refl (spare-back b h)

  run-fits : (b : Bool) → SharerFits w (shared b) → SharerFits (behind b) (shared (not b))
  run-fits b h = record {
    there = there-back b h;
    range = h.range;
    sharer = h.sharer;
    other = sharer-seen b ∙ not-turned b;
    room = room-back b h;
  }

pub sharer-back : (w : Walk) (r : SharerRecord) → SharerFits w r → sharer_step (flip (sharer_step w r)) (record r { present = not r.present }) ≡ flip w
sharer-back w r h = run-back w r.subpool r.task r.present h

pub sharer-fits : (w : Walk) (r : SharerRecord) → SharerFits w r → SharerFits (flip (sharer_step w r)) (record r { present = not r.present })
sharer-fits w r h = run-fits w r.subpool r.task r.present h

-- a subpool that passes

some-here : (o : Option ℕ) (owner : ℕ) → holds (λ x. x == owner) o ≡ true → o ≡ Some owner
some-here None owner h = cc
some-here (Some x) owner h = ap (λ (z : ℕ). Some z) (eqb-true x owner h)

module _ (w : Walk) (p : Subpool) (to : ℕ) (h : PassFits w (record { subpool = p; to = to })) where
  abbrev passed : PassRecord
  passed = record { subpool = p; to = to }

  abbrev returned : PassRecord
  returned = record { subpool = owned_by p to; to = p.owner }

  abbrev m : Subpools
  m = w.state.subpools

  abbrev after : Subpools
  after = with_passed m p to

  owner-sees : m.sight p.owner p.number ≡ Some p.owner
  owner-sees = some-here (m.sight p.owner p.number) p.owner h.there

  apart : p.owner ≢ to
  apart e = let s : Some p.owner ≡ None = sym owner-sees ∙ ap (λ (z : ℕ). m.sight z p.number) e ∙ h.unseen in cc

  -- who sees what

  abbrev given : ℕ → Option ℕ → Option ℕ
  given task x = if task == to then Some to else (if task == p.owner then None else option_map (λ owner. if owner == p.owner then to else owner) x)

  abbrev taken : ℕ → Option ℕ → Option ℕ
  taken task x = if task == p.owner then Some p.owner else (if task == to then None else option_map (λ owner. if owner == to then p.owner else owner) x)

  renamed-back : (o : ℕ) → o ≢ to → (if (if o == p.owner then to else o) == to then p.owner else (if o == p.owner then to else o)) ≡ o
  renamed-back o other = go (o == p.owner) refl where
    go : (b : Bool) → (o == p.owner) ≡ b → (if (if b then to else o) == to then p.owner else (if b then to else o)) ≡ o
    go true e = cond-in (to == to) p.owner to (eq-eqb to to refl) ∙ sym (eqb-true o p.owner e)
    go false e = cond-out (o == to) p.owner o (ne_eqb o to other)

  row-back : (x : Option ℕ) → x ≢ Some to → option_map (λ owner. if owner == to then p.owner else owner) (option_map (λ owner. if owner == p.owner then to else owner) x) ≡ x
  row-back None other = refl
  row-back (Some o) other = ap (λ (z : ℕ). Some z) (renamed-back o (λ e. other (ap (λ (z : ℕ). Some z) e)))

  taken-back : (task : ℕ) → taken task (given task (m.sight task p.number)) ≡ m.sight task p.number
  taken-back task = go (task == p.owner) (task == to) refl refl where
    go : (b c : Bool) → (task == p.owner) ≡ b → (task == to) ≡ c
        → (if b then Some p.owner else (if c then None else option_map (λ owner. if owner == to then p.owner else owner) (if c then Some to else (if b then None else option_map (λ owner. if owner == p.owner then to else owner) (m.sight task p.number))))) ≡ m.sight task p.number
    go true c e f = sym (ap (λ (z : ℕ). m.sight z p.number) (eqb-true task p.owner e) ∙ owner-sees)
    go false true e f = sym (ap (λ (z : ℕ). m.sight z p.number) (eqb-true task to f) ∙ h.unseen)
    go false false e f = row-back (m.sight task p.number) (h.unowned task)

  sight-back-again : (task number : ℕ) → sight_after_gift after.sight p.number to p.owner task number ≡ m.sight task number
  sight-back-again task number = go (number == p.number) refl where
    go : (b : Bool) → (number == p.number) ≡ b
        → (if not b then (if not b then m.sight task number else given task (m.sight task number)) else taken task (if not b then m.sight task number else given task (m.sight task number))) ≡ m.sight task number
    go false e = refl
    go true e = let same : number ≡ p.number = eqb-true number p.number e in
        ap (λ (z : ℕ). taken task (given task (m.sight task z))) same ∙ taken-back task ∙ ap (m.sight task) (sym same)

  -- what it has

  not-same : same_subpool p (owned_by p to) ≡ false
  not-same = and-false (p.number == p.number) (p.owner == to) (ne_eqb p.owner to apart)

  module _ (sets : Subpool → ℕ → Bool) (empty : (n : ℕ) → sets (owned_by p to) n ≡ false) where
    abbrev moved : Subpool → ℕ → Bool
    moved q n = if same_subpool q (owned_by p to) then sets p n else (if same_subpool q p then false else sets q n)

    moved-to : (n : ℕ) → moved (owned_by p to) n ≡ sets p n
    moved-to n = cond-in (same_subpool (owned_by p to) (owned_by p to)) (sets p n) (if same_subpool (owned_by p to) p then false else sets (owned_by p to) n) (same-self (owned_by p to))

    moved-from : (n : ℕ) → moved p n ≡ false
    moved-from n = cond-out (same_subpool p (owned_by p to)) (sets p n) (if same_subpool p p then false else sets p n) not-same ∙ cond-in (same_subpool p p) false (sets p n) (same-self p)

    moved-back : (q : Subpool) (n : ℕ) → (if same_subpool q p then moved (owned_by p to) n else (if same_subpool q (owned_by p to) then false else moved q n)) ≡ sets q n
    moved-back q n = go (same_subpool q p) (same_subpool q (owned_by p to)) refl refl where
      go : (b c : Bool) → same_subpool q p ≡ b → same_subpool q (owned_by p to) ≡ c
          → (if b then moved (owned_by p to) n else (if c then false else (if c then sets p n else (if b then false else sets q n)))) ≡ sets q n
      go true c e f = moved-to n ∙ ap (λ (z : Subpool). sets z n) (sym (same-is q p e))
      go false true e f = sym (ap (λ (z : Subpool). sets z n) (same-is q (owned_by p to) f) ∙ empty n)
      go false false e f = refl

  -- its cell pools

  abbrev PoolsOf : Option Pool → Type 0
  PoolsOf x = (q : Pool) → x ≡ Some q → same_subpool q.settings.subpool (owned_by p to) ≡ false

  lies-there : (q : Pool) → lies_in p q ≡ true → (q.settings.subpool.number == p.number) && (to == to) ≡ true
  lies-there q e = and-both (q.settings.subpool.number == p.number) (to == to) (and-left (q.settings.subpool.number == p.number) (q.settings.subpool.owner == p.owner) e) (eq-eqb to to refl)

  abbrev lying-in : Pool → ℕ → Pool
  lying-in q owner = record q { settings = record q.settings { subpool = record q.settings.subpool { owner = owner } } }

  handed-back : (q : Pool) → same_subpool q.settings.subpool (owned_by p to) ≡ false → handed_on (owned_by p to) p.owner (handed_on p to q) ≡ q
  handed-back q other = go (lies_in p q) refl where
    go : (b : Bool) → lies_in p q ≡ b → handed_on (owned_by p to) p.owner (if b then lying-in q to else q) ≡ q
    go true e = cond-in ((q.settings.subpool.number == p.number) && (to == to)) (lying-in q p.owner) (lying-in q to) (lies-there q e)
        ∙ ap (lying-in q) (ap (λ (z : Subpool). z.owner) (sym (same-is q.settings.subpool p e)))
    go false e = cond-out (same_subpool q.settings.subpool (owned_by p to)) (lying-in q p.owner) q other

  pool-back : (x : Option Pool) → PoolsOf x → option_map (handed_on (owned_by p to) p.owner) (option_map (handed_on p to) x) ≡ x
  pool-back None none = refl
  pool-back (Some q) none = ap (λ (z : Pool). Some z) (handed-back q (none q refl))

  cells-back : (id : ℕ) → option_map (handed_on (owned_by p to) p.owner) (option_map (handed_on p to) (m.cells id)) ≡ m.cells id
  cells-back id = pool-back (m.cells id) (h.no_cells id)

  handed-away : (q : Pool) → lies_in p (handed_on p to q) ≡ false
  handed-away q = go (lies_in p q) refl where
    go : (b : Bool) → lies_in p q ≡ b → lies_in p (if b then lying-in q to else q) ≡ false
    go true e = and-false (q.settings.subpool.number == p.number) (to == p.owner) (ne_eqb to p.owner (λ s. apart (sym s)))
    go false e = e

  pool-gone : (x : Option Pool) (q : Pool) → option_map (handed_on p to) x ≡ Some q → lies_in p q ≡ false
  pool-gone None q e = cc
  pool-gone (Some y) q e = let same : handed_on p to y ≡ q = cc in ap (lies_in p) (sym same) ∙ handed-away y

  cells-gone : (id : ℕ) (q : Pool) → option_map (handed_on p to) (m.cells id) ≡ Some q → lies_in p q ≡ false
  cells-gone id q e = pool-gone (m.cells id) q e

  run-back-again : pass_step (flip (pass_step w passed)) returned ≡ flip w
  run-back-again =
      let v = pass_step (flip (pass_step w passed)) returned in
      walk-same v (flip w)
      (state-same v.state w.state refl
      (subpools-same v.state.subpools m sight-back-again (moved-back m.pages h.no_pages) (moved-back m.free h.none_free) cells-back)
      (λ page. refl) (λ a. refl))
      (λ a. refl) (λ a. refl) refl refl

  -- and it fits

  seen-after : (task : ℕ) → after.sight task p.number ≡ given task (m.sight task p.number)
  seen-after task = cond-out (not (p.number == p.number)) (m.sight task p.number) (given task (m.sight task p.number)) (ap not (eq-eqb p.number p.number refl))

  taker-sees : after.sight to p.number ≡ Some to
  taker-sees = seen-after to ∙ cond-in (to == to) (Some to) (if to == p.owner then None else option_map (λ owner. if owner == p.owner then to else owner) (m.sight to p.number)) (eq-eqb to to refl)

  giver-blind : after.sight p.owner p.number ≡ None
  giver-blind = seen-after p.owner
      ∙ cond-out (p.owner == to) (Some to) (if p.owner == p.owner then None else option_map (λ owner. if owner == p.owner then to else owner) (m.sight p.owner p.number)) (ne_eqb p.owner to apart)
      ∙ cond-in (p.owner == p.owner) None (option_map (λ owner. if owner == p.owner then to else owner) (m.sight p.owner p.number)) (eq-eqb p.owner p.owner refl)

  one-unowned : (o : ℕ) → (if o == p.owner then to else o) ≢ p.owner
  one-unowned o = go (o == p.owner) refl where
    go : (b : Bool) → (o == p.owner) ≡ b → (if b then to else o) ≢ p.owner
    go true e s = apart (sym s)
    go false e s = let f : true ≡ false = sym (eq-eqb o p.owner s) ∙ e in cc

  some-is : (a b : ℕ) → Some a ≡ Some b → a ≡ b
  some-is a b e = cc

  row-unowned : (x : Option ℕ) → option_map (λ owner. if owner == p.owner then to else owner) x ≢ Some p.owner
  row-unowned None e = cc
  row-unowned (Some o) e = one-unowned o (some-is (if o == p.owner then to else o) p.owner e)

  given-unowned : (b c : Bool) (x : Option ℕ) → (if b then Some to else (if c then None else option_map (λ owner. if owner == p.owner then to else owner) x)) ≢ Some p.owner
  given-unowned true c x e = apart (sym (some-is to p.owner e))
  given-unowned false true x e = cc
  given-unowned false false x e = row-unowned x e

  run-fits-again : PassFits (flip (pass_step w passed)) returned
  run-fits-again = record {
    there = ap (holds (λ owner. owner == to)) taker-sees ∙ eq-eqb to to refl;
    owner = h.to;
    to = h.owner;
    unseen = giver-blind;
    unowned = λ task e. given-unowned (task == to) (task == p.owner) (m.sight task p.number) (sym (seen-after task) ∙ e);
    no_pages = moved-from m.pages h.no_pages;
    none_free = moved-from m.free h.none_free;
    no_cells = cells-gone;
  }

pub pass-back : (w : Walk) (r : PassRecord) → PassFits w r → pass_step (flip (pass_step w r)) (record { subpool = owned_by r.subpool r.to; to = r.subpool.owner }) ≡ flip w
pass-back w r h = run-back-again w r.subpool r.to h

pub pass-fits : (w : Walk) (r : PassRecord) → PassFits w r → PassFits (flip (pass_step w r)) (record { subpool = owned_by r.subpool r.to; to = r.subpool.owner })
pass-fits w r h = run-fits-again w r.subpool r.to h
