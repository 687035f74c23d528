-- For the test: three pages of the first subpool fit a storage before the first request.
use Rattle.std.proofs.Common.{◌≡◌, ℕ, ◌+◌, ◌/◌, ◌<◌, ◌≤◌, ◌^◌, Bool, true, false, ◌||◌, if◌then◌else◌, List, [], ◌∷◌, Option, Some, None, IsSome, refl, sym, ap, ◌∙◌, arith, subst}
use Rattle.std.proofs.Math.Dec.{lit≤}
use Rattle.run_set.specs.Runs.{Run, inside}
use Rattle.run_set.specs.Counts.{joins}
use Rattle.run_set.proofs.CountLemmas.{neighbours_stay}
use Rattle.vsm_model.specs.declared.Subpool.{Subpool}
use Rattle.vsm_model.specs.declared.limits.Settings.{Settings}
use Rattle.vsm_model.specs.Regions.{in_a_region}
use Rattle.storage_changes.specs.declared.record.Record.{Record}
use Rattle.storage_changes.specs.declared.record.Record.TheVariants.{Area, Extent, Pages}
use Rattle.storage_changes.specs.Walk.{Walk}
use Rattle.storage_changes.specs.Steps.{step}
use Rattle.storage_changes.specs.Changes.{Change, outset, Fit}
use Rattle.storage_changes.specs.State.{StorageState}
use Rattle.storage_swap.specs.declared.storage.Parts.{Parts}
use Rattle.storage_swap.specs.Storage.{state_of}
use Rattle.storage_swap.specs.declared.change.Change.{Change as TheChange}
use Rattle.storage_swap.specs.Swap.{means}
use Rattle.storage_swap.specs.Fresh.{first_storage, IsFresh}
use Rattle.storage_changes.specs.Changes.{change_of}
use Rattle.storage_swap.specs.Reserve.{Reserves}
use Rattle.run_set.proofs.RunLemmas.{inside_true, true_inside}

abbrev pub first : Subpool
first = record { number = 0; owner = 1 }

-- the pages, the rest of whose area is free storage
abbrev pub obtain : Run → Run → List Record
obtain run rest =
    Pages (record { run = run; assigned = true }) ∷ Extent (record { subpool = first; run = run; present = true })
    ∷ Area (record { subpool = first; area = rest; free = true }) ∷ []

joins-two : (f : ℕ → Bool) (r : Run) → 0 < r.len → joins f r ≤ 2
joins-two f r some = (neighbours_stay f f r some (λ n o. refl)).1

module _ (settings : Settings) (run rest : Run) (some : 0 < run.len) (high : run.start + run.len ≤ 2 ^ 20) (some' : 0 < rest.len) (high' : rest.start + rest.len ≤ 2 ^ 29)
    (pages : (page : ℕ) → inside page run ≡ true → in_a_region settings page ≡ true) where
  abbrev d : Change
  d = change_of (obtain run rest) 4 run

  abbrev w : Walk
  w = outset (first_storage settings) d

  abbrev w1 : Walk
  w1 = step w (Pages (record { run = run; assigned = true }))

  abbrev w2 : Walk
  w2 = step w1 (Extent (record { subpool = first; run = run; present = true }))

  first-joins : joins (in_a_region settings) run ≤ 2
  first-joins = joins-two (in_a_region settings) run some

  abbrev zero-byte : Option ℕ
  zero-byte = Some 0

  abbrev no-byte : Option ℕ
  no-byte = None

  byte-there : (b : Bool) → b ≡ true → IsSome (if b then zero-byte else no-byte)
  byte-there true i = refl
  byte-there false i = cc

  none-left : (b : Bool) → (if b then no-byte else (if b then zero-byte else no-byte)) ≡ no-byte
  none-left true = refl
  none-left false = refl

  is-fresh : (b : Bool) (a : ℕ) → inside (a / 4096) run ≡ b → IsSome (if b then zero-byte else no-byte) → in_a_region settings (a / 4096) ≡ true
  is-fresh true a i h = pages (a / 4096) i
  is-fresh false a i h = cc

  pub obtain-fits : Fit (first_storage settings) d
  obtain-fits = record {
    in_turn = (
      record {
        some = some;
        high = high;
        other = pages;
        frame = λ a i. record { there = byte-there (inside (a / 4096) run) i; not_with_other = refl; not_given = refl };
        room = omega arith;
        room_after = omega (arith, first-joins);
      },
      (
        record {
          there = refl;
          some = some;
          high = high;
          other = λ page i. refl;
          room = omega (arith, first-joins);
          room_after = omega (arith, first-joins);
        },
        (record { there = refl; some = some'; high = high'; other = λ x i. refl; room = omega (arith, first-joins); room_after = omega (arith, first-joins) }, tt),
      ),
    );
    fresh = λ a h. is-fresh (inside (a / 4096) run) a refl h;
    brought = λ a. none-left (inside (a / 4096) run);
  }

or-right : (a b : Bool) → b ≡ true → (a || b) ≡ true
or-right true b h = refl
or-right false b h = h

or-left : (a : Bool) → a ≡ true → (a || false) ≡ true
or-left true h = refl
or-left false h = cc

-- a run of the low region
pub in-low : (settings : Settings) (run : Run) → 6 ≤ run.start → run.start + run.len ≤ 6 + settings.low_k / 4 → (page : ℕ) → inside page run ≡ true → in_a_region settings page ≡ true
in-low settings run low high page i =
    let b : (run.start ≤ page) × (page < run.start + run.len) = inside_true page run i in
    let low-run : Run = record { start = 6; len = settings.low_k / 4 } in
    or-right (inside page (record { start = 32768; len = settings.high_k / 4 })) (inside page low-run || false)
    (or-left (inside page low-run) (true_inside page low-run (omega (arith, b.0, low)) (omega (arith, b.1, high))))

-- reserved, it fits
pub reserved-fits : {settings : Settings} (run rest : Run) → 0 < run.len → run.start + run.len ≤ 2 ^ 20 → 0 < rest.len → rest.start + rest.len ≤ 2 ^ 29
    → ((page : ℕ) → inside page run ≡ true → in_a_region settings page ≡ true)
    → (p t : Parts) (c : TheChange) → IsFresh settings p → Reserves p (change_of (obtain run rest) 4 run) c t → Fit (state_of t) (means t.elements c)
reserved-fits {settings = settings} run rest some high some' high' pages p t c f r =
    let P : Change → Type 0 = λ z. Fit (state_of t) z in
    let Q : StorageState → Type 0 = λ z. Fit z (change_of (obtain run rest) 4 run) in
    subst P (sym r.meaning) (subst Q (sym (r.shows ∙ f.shows)) (obtain-fits settings run rest some high some' high' pages))

-- the test's own

abbrev pub test-run : Run
test-run = record { start = 6; len = 3 }

abbrev pub test-rest : Run
test-rest = record { start = 3172; len = 1436 }

module _ (settings : Settings) (low : 3 ≤ settings.low_k / 4) where
  pub test-pages : (page : ℕ) → inside page test-run ≡ true → in_a_region settings page ≡ true
  test-pages = in-low settings test-run (omega arith) (omega (arith, low))

  pub test-unassigned : (p : Parts) → IsFresh settings p → (page : ℕ) → inside page test-run ≡ true → (state_of p).unassigned page ≡ true
  test-unassigned p f page i = ap (λ (z : StorageState). z.unassigned page) f.shows ∙ test-pages page i

  pub test-fits : (p t : Parts) (c : TheChange) → IsFresh settings p → Reserves p (change_of (obtain test-run test-rest) 4 test-run) c t → Fit (state_of t) (means t.elements c)
  test-fits p t c f r = reserved-fits {settings = settings} test-run test-rest (omega arith) (lit≤ tt) (omega arith) (lit≤ tt) test-pages p t c f r
