-- An empty subpool that is made or removed, and back.
use Rattle.std.proofs.Common.{◌≡◌, ℕ, ◌<◌, Bool, true, false, not, ◌&&◌, ◌==◌, if◌then◌else◌, Option, Some, None, refl, sym, ◌∙◌, arith, subst}
use Rattle.std.proofs.lemmas.Bool.{eqb-true, eq-eqb, and_left}
use Rattle.vsm_model.specs.declared.Subpool.{Subpool}
use Rattle.storage_changes.specs.declared.record.OwnRecord.{OwnRecord}
use Rattle.storage_changes.specs.Walk.{Walk, flip}
use Rattle.storage_changes.specs.Steps.{own_step}
use Rattle.storage_changes.specs.Fits.{OwnFits}
use Rattle.storage_changes.proofs.Cases.{cond-back, cond-in, cond-out, and-left, and-right, and-both, subpools-same, state-same, walk-same}

module _ (w : Walk) (p : Subpool) where
  abbrev own : Bool → OwnRecord
  own b = record { subpool = p; present = b }

  abbrev seen : ℕ → ℕ → Option ℕ
  seen = w.state.subpools.sight

  abbrev behind : Bool → Walk
  behind b = flip (own_step w (own b))

  abbrev back : Bool → Walk
  back b = own_step (behind b) (own (not b))

  is-own : (task number : ℕ) → ((task == p.owner) && (number == p.number)) ≡ true → seen p.owner p.number ≡ seen task number
  is-own task number c =
      let same_task : task ≡ p.owner = eqb-true task p.owner (and-left (task == p.owner) (number == p.number) c) in
      let same_number : number ≡ p.number = eqb-true number p.number (and-right (task == p.owner) (number == p.number) c) in
      λ i. seen (sym same_task i) (sym same_number i)

  own-other : (b : Bool) → OwnFits w (own b) → (if not b then Some p.owner else None) ≡ seen p.owner p.number
  own-other true h = sym h.other
  own-other false h = sym h.other

  sight-back : (b : Bool) → OwnFits w (own b) → (task number : ℕ) → (back b).state.subpools.sight task number ≡ seen task number
  sight-back b h task number = cond-back ((task == p.owner) && (number == p.number)) (if not b then Some p.owner else None) (if b then Some p.owner else None) (seen task number)
      (λ c. own-other b h ∙ is-own task number c)

  spare-back : (b : Bool) → OwnFits w (own b) → (back b).spare ≡ w.spare
  spare-back true h = omega (arith, h.room)
  spare-back false h = omega (arith, h.room)

  own-seen : (b : Bool) → (behind b).state.subpools.sight p.owner p.number ≡ (if b then Some p.owner else None)
  own-seen b = cond-in ((p.owner == p.owner) && (p.number == p.number)) (if b then Some p.owner else None) (seen p.owner p.number)
      (and-both (p.owner == p.owner) (p.number == p.number) (eq-eqb p.owner p.owner refl) (eq-eqb p.number p.number refl))

  not-turned : (b : Bool) → (if b then Some p.owner else None) ≡ (if not b then None else Some p.owner)
  not-turned true = refl
  not-turned false = refl

  alone-back : (b : Bool) → OwnFits w (own b) → (task : ℕ) → (behind b).state.subpools.sight task p.number ≡ Some p.owner → task ≡ p.owner
  alone-back b h task s = go (task == p.owner) refl where
    go : (t : Bool) → (task == p.owner) ≡ t → task ≡ p.owner
    go true e = eqb-true task p.owner e
    go false e = h.alone task
        (sym (cond-out ((task == p.owner) && (p.number == p.number)) (if b then Some p.owner else None) (seen task p.number) (and_left (task == p.owner) (p.number == p.number) e)) ∙ s)

  run-back : (b : Bool) → OwnFits w (own b) → back b ≡ flip w
  run-back b h = walk-same (back b) (flip w)
      (state-same (back b).state w.state refl
      (subpools-same (back b).state.subpools w.state.subpools (sight-back b h) (λ q page. refl) (λ q d. refl) (λ id. refl))
      (λ page. refl) (λ a. refl))
      (λ a. refl) (λ a. refl) refl (spare-back b h)

  run-fits : (b : Bool) → OwnFits w (own b) → OwnFits (behind b) (own (not b))
  run-fits b h = record {
    owner = h.owner;
    number = h.number;
    other = own-seen b ∙ not-turned b;
    alone = alone-back b h;
    no_pages = h.no_pages;
    none_free = h.none_free;
    room = h.room_after;
    room_after = (let P : ℕ → Type 0 = λ n. 0 < n in subst P (sym (spare-back b h)) h.room);
  }

pub own-back : (w : Walk) (r : OwnRecord) → OwnFits w r → own_step (flip (own_step w r)) (record r { present = not r.present }) ≡ flip w
own-back w r h = run-back w r.subpool r.present h

pub own-fits : (w : Walk) (r : OwnRecord) → OwnFits w r → OwnFits (flip (own_step w r)) (record r { present = not r.present })
own-fits w r h = run-fits w r.subpool r.present h
