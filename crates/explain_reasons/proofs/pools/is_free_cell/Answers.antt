use Rattle.std.proofs.Common.{◌≡◌, ◌≢◌, ◌==◌, ℕ, Bool, true, false, ◌||◌, List, ◌∷◌, sym, ap, ◌∙◌}
use Rattle.std.proofs.lemmas.Bool.{eq-eqb, false_from_ne_true, eqb-true}
use Rattle.storage_map.specs.Cells.{cell_pool, cells_left}
use Rattle.vsm_model.specs.Search.{is_in}
use Rattle.explain_reasons.proofs.Rows.{each, fact_of, shorter}
use Rattle.explain_reasons.proofs.pools.is_free_cell.Goals as goal

here : (left rest : List ℕ) (free cell : ℕ) → left ≡ free ∷ rest → free ≡ cell → is_in left cell ≡ true
here left rest free cell next same = ap (λ (xs : List ℕ). is_in xs cell) next ∙ ap (λ (b : Bool). b || is_in rest cell) (eq-eqb free cell same)

later : (left rest : List ℕ) (free cell : ℕ) → left ≡ free ∷ rest → free ≢ cell → is_in left cell ≡ is_in rest cell
later left rest free cell next apart =
    ap (λ (xs : List ℕ). is_in xs cell) next ∙ ap (λ (b : Bool). b || is_in rest cell) (false_from_ne_true (free == cell) (λ e. apart (eqb-true free cell e)))

pub loop-free-init : goal.loop-free-init
loop-free-init c =
    let s = c.args.storage.now in
    let o = cell_pool s c.args.id in
    let first = c.first_free_cell-place in
    record {
      place = first.ensures.place;
      left = each o (λ p. is_in (cells_left s first.result) c.args.cell ≡ is_in p.cells c.args.cell)
          (λ p there. ap (λ (xs : List ℕ). is_in xs c.args.cell) (fact_of (λ p. cells_left s first.result ≡ p.cells) o p there first.ensures.all));
    }

pub returns-then-free-cell : goal.returns-then-free-cell
returns-then-free-cell c =
    let s = c.args.storage.now in
    let o = cell_pool s c.args.id in
    let left = cells_left s c.loop-free.place in
    each o (λ p. true ≡ is_in p.cells c.args.cell)
    (λ p there. sym (here left (cells_left s c.in-Some.after) c.in-Some.free c.args.cell c.in-Some.ensures.next c.if-free-cell.true)
    ∙ fact_of (λ p. is_in left c.args.cell ≡ is_in p.cells c.args.cell) o p there c.loop-free.invariant.left)

pub loop-free-smaller : goal.loop-free-smaller
loop-free-smaller c =
    let s = c.args.storage.now in
    shorter (cells_left s c.loop-free.place) (cells_left s c.in-Some.after) c.in-Some.free c.in-Some.ensures.next

pub loop-free-preserved : goal.loop-free-preserved
loop-free-preserved c =
    let s = c.args.storage.now in
    let o = cell_pool s c.args.id in
    let left = cells_left s c.loop-free.place in
    let rest = cells_left s c.in-Some.after in
    record {
      place = c.in-Some.ensures.place;
      left = each o (λ p. is_in rest c.args.cell ≡ is_in p.cells c.args.cell)
          (λ p there. sym (later left rest c.in-Some.free c.args.cell c.in-Some.ensures.next c.if-free-cell.false)
          ∙ fact_of (λ p. is_in left c.args.cell ≡ is_in p.cells c.args.cell) o p there c.loop-free.invariant.left);
    }

pub returns : goal.returns
returns c =
    let s = c.args.storage.now in
    let o = cell_pool s c.args.id in
    let left = cells_left s c.loop-free.place in
    each o (λ p. false ≡ is_in p.cells c.args.cell)
    (λ p there. sym (ap (λ (xs : List ℕ). is_in xs c.args.cell) c.in_default.ensures.none)
    ∙ fact_of (λ p. is_in left c.args.cell ≡ is_in p.cells c.args.cell) o p there c.loop-free.invariant.left)
