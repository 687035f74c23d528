-- Functions that are written at some places, and records of functions.
use Rattle.std.proofs.Common.{◌≡◌, ℕ, Bool, true, false, not, ◌&&◌, ◌==◌, if◌then◌else◌, refl}
use Rattle.std.proofs.lemmas.Bool.{eqb-true, eq-eqb}
use Rattle.vsm_model.specs.declared.Subpool.{Subpool}
use Rattle.vsm_model.specs.Subpools.{same_subpool}
use Rattle.subpool_storage.specs.Subpools.{Subpools}
use Rattle.storage_changes.specs.State.{StorageState}
use Rattle.storage_changes.specs.Walk.{Walk}

-- written, and written back
pub cond-back : {A : Type 0} (b : Bool) (x z y : A) → (b ≡ true → x ≡ y) → (if b then x else (if b then z else y)) ≡ y
cond-back true x z y h = h refl
cond-back false x z y h = refl

-- exchanged, and exchanged back
pub cond-kept : {A : Type 0} (b : Bool) (x y z : A) → (if b then (if b then x else y) else (if b then z else x)) ≡ x
cond-kept true x y z = refl
cond-kept false x y z = refl

pub cond-in : {A : Type 0} (b : Bool) (x y : A) → b ≡ true → (if b then x else y) ≡ x
cond-in true x y h = refl
cond-in false x y h = cc

pub cond-out : {A : Type 0} (b : Bool) (x y : A) → b ≡ false → (if b then x else y) ≡ y
cond-out true x y h = cc
cond-out false x y h = refl

pub and-left : (a b : Bool) → (a && b) ≡ true → a ≡ true
and-left true b h = refl
and-left false b h = cc

pub and-right : (a b : Bool) → (a && b) ≡ true → b ≡ true
and-right true b h = h
and-right false b h = cc

pub and-both : (a b : Bool) → a ≡ true → b ≡ true → (a && b) ≡ true
and-both true b h k = k
and-both false b h k = cc

pub and-false : (a b : Bool) → b ≡ false → (a && b) ≡ false
and-false true b h = h
and-false false b h = refl

pub not-not : (b : Bool) → not (not b) ≡ b
not-not true = refl
not-not false = refl

-- a subpool is the same as itself, and as no other
pub same-self : (p : Subpool) → same_subpool p p ≡ true
same-self p = and-both (p.number == p.number) (p.owner == p.owner) (eq-eqb p.number p.number refl) (eq-eqb p.owner p.owner refl)

pub same-is : (q p : Subpool) → same_subpool q p ≡ true → q ≡ p
same-is q p h =
    let number : q.number ≡ p.number = eqb-true q.number p.number (and-left (q.number == p.number) (q.owner == p.owner) h) in
    let owner : q.owner ≡ p.owner = eqb-true q.owner p.owner (and-right (q.number == p.number) (q.owner == p.owner) h) in
    λ i. record { number = number i; owner = owner i }

-- records of functions are equal if their functions are, at every place
pub subpools-same : (m n : Subpools) → ((task number : ℕ) → m.sight task number ≡ n.sight task number)
    → ((p : Subpool) (page : ℕ) → m.pages p page ≡ n.pages p page) → ((p : Subpool) (d : ℕ) → m.free p d ≡ n.free p d)
    → ((id : ℕ) → m.cells id ≡ n.cells id) → m ≡ n
subpools-same m n a b c e = λ i. record { sight = λ task number. a task number i; pages = λ p page. b p page i; free = λ p d. c p d i; cells = λ id. e id i }

pub state-same : (m n : StorageState) → m.tasks ≡ n.tasks → m.subpools ≡ n.subpools → ((page : ℕ) → m.unassigned page ≡ n.unassigned page)
    → ((a : ℕ) → m.bytes a ≡ n.bytes a) → m ≡ n
state-same m n a b c d = λ i. record { tasks = a i; subpools = b i; unassigned = λ page. c page i; bytes = λ x. d x i }

pub walk-same : (v w : Walk) → v.state ≡ w.state → ((a : ℕ) → v.brought a ≡ w.brought a) → ((a : ℕ) → v.given a ≡ w.given a)
    → v.parked ≡ w.parked → v.spare ≡ w.spare → v ≡ w
walk-same v w a b c d e = λ i. record { state = a i; brought = λ x. b x i; given = λ x. c x i; parked = d i; spare = e i }
