-- Searches, step by step.
use Rattle.std.proofs.Common.{◌≡◌, ℕ, ◌+◌, ◌-◌, ◌<◌, ◌≤◌, ◌⊎◌, inl, inr, max, List, length, refl, sym, ◌∙◌, arith, subst}
use Rattle.vsm_elements.specs.Store.{Store}
use Rattle.run_tree.specs.declared.run.Run.{Run}
use Rattle.run_tree.specs.declared.tree.FoundRun.{FoundRun}
use Rattle.run_tree.specs.declared.tree.RunTree.{RunTree}
use Rattle.run_tree.specs.declared.shape.RunNode.{RunNode}
use Rattle.run_tree.specs.Shape.{longest}
use Rattle.run_tree.specs.Trees.{runs, IsTree, Opens}
use Rattle.run_tree.specs.Searches.{run_at, SeeksTo, FindsRuns, RoomsTo, IsMost}
use Rattle.run_tree.proofs.TreeLemmas.{length-tree}
use Rattle.run_tree.proofs.ItemLemmas.{at_left, at_here, at_right, le_or_lt, longest_le, longest_at}

pub seek_none : (s : Store) (h : RunTree) (m : ℕ) → IsTree s h → h.count ≡ 0 → SeeksTo m (runs s h) 0
seek_none s h m t e = record { within = omega arith; before = λ some. absurd (omega arith); behind = λ low. absurd (omega (arith, low, e, length-tree s h t)) }

pub find_none : (s : Store) (h : RunTree) (m : ℕ) (before behind : Run) → IsTree s h → h.count ≡ 0 → FindsRuns m before behind (runs s h) (record { index = 0; before = before; behind = behind })
find_none s h m before behind t e = record {
  seeks = seek_none s h m t e;
  last = λ some. absurd (omega arith);
  first = λ i. refl;
  next = λ low. absurd (omega (arith, low, e, length-tree s h t));
  end = λ high. refl;
}

pub found_at : (m : ℕ) (before behind : Run) (rs : List Run) (f : FoundRun) (i j : ℕ) → i ≡ j → FindsRuns m before behind rs (record { index = i; before = f.before; behind = f.behind })
    → FindsRuns m before behind rs (record { index = j; before = f.before; behind = f.behind })
found_at m before behind rs f i j e = subst (λ (k : ℕ). FindsRuns m before behind rs (record { index = k; before = f.before; behind = f.behind })) e

pub rooms_end : (s : Store) (h : RunTree) (room : Run → ℕ) (from len : ℕ) → IsTree s h → from ≡ h.count → RoomsTo room (runs s h) from len h.count
rooms_end s h room from len t e = record {
  low = omega (arith, e);
  within = omega (arith, length-tree s h t);
  none_before = λ i p q. absurd (omega (arith, p, q, e));
  there = λ low. absurd (omega (arith, low, length-tree s h t));
}

pub rooms_short : (s : Store) (h : RunTree) (room : Run → ℕ) (from len : ℕ) → IsTree s h → from ≤ h.count → longest room (runs s h) < len → RoomsTo room (runs s h) from len h.count
rooms_short s h room from len t le short = record {
  low = le;
  within = omega (arith, length-tree s h t);
  none_before = λ i p q. omega (arith, short, longest_le room (runs s h) i (omega (arith, q, length-tree s h t)));
  there = λ low. absurd (omega (arith, low, length-tree s h t));
}

pub most_none : (s : Store) (h : RunTree) (room : Run → ℕ) (from to : ℕ) → from ≡ to → IsMost room (runs s h) from to 0
most_none s h room from to e = record { greatest = λ i p q. absurd (omega (arith, p, q, e)); reached = λ some. absurd (omega arith) }

pub most_all : (s : Store) (h : RunTree) (room : Run → ℕ) (from to m : ℕ) → IsTree s h → from ≡ 0 → to ≡ h.count → m ≡ longest room (runs s h) → IsMost room (runs s h) from to m
most_all s h room from to m t e f g = record {
  greatest = λ i p q. omega (arith, g, longest_le room (runs s h) i (omega (arith, q, f, length-tree s h t)));
  reached = λ some. (let w : (i : ℕ) × (i < length (runs s h)) × (room (run_at (runs s h) i) ≡ longest room (runs s h)) = longest_at room (runs s h) (omega (arith, some, g)) in
      (w.0, omega (arith, e), omega (arith, w.1, f, length-tree s h t), w.2 ∙ sym g));
}

module _ (s : Store) (h : RunTree) (n : RunNode) (o : Opens s h n) (t : IsTree s h) where
  lh : length (runs s h) ≡ n.left.count + n.right.count + 1
  lh = length-tree s h t ∙ o.count

  ll : length (runs s n.left) ≡ n.left.count
  ll = length-tree s n.left o.left

  lr : length (runs s n.right) ≡ n.right.count
  lr = length-tree s n.right o.right

  -- when a fact of one run is one of the tree's
  on_left : (P : Run → Type 0) (i : ℕ) → i < n.left.count → P (run_at (runs s n.left) i) → P (run_at (runs s h) i)
  on_left P i low p = subst P (sym (at_left s h n o i low)) p

  on_here : (P : Run → Type 0) (i : ℕ) → i ≡ n.left.count → P n.run → P (run_at (runs s h) i)
  on_here P i e p = subst P (sym (at_here s h n o i e)) p

  on_right : (P : Run → Type 0) (i j : ℕ) → i ≡ n.left.count + 1 + j → P (run_at (runs s n.right) j) → P (run_at (runs s h) i)
  on_right P i j e p = subst P (sym (at_right s h n o i j e)) p

  pub seek_left : (m k : ℕ) → m < n.run.start + n.run.len → SeeksTo m (runs s n.left) k → SeeksTo m (runs s h) k
  seek_left m k ends g = record {
    within = omega (arith, g.within, lh, ll);
    before = λ some. on_left (λ r. r.start + r.len ≤ m) (k - 1) (omega (arith, some, g.within, ll)) (g.before some);
    behind = λ low. go (le_or_lt n.left.count k);
  } where
    go : (n.left.count ≤ k) ⊎ (k < n.left.count) → m < (run_at (runs s h) k).start + (run_at (runs s h) k).len
    go (inl q) = on_here (λ r. m < r.start + r.len) k (omega (arith, q, g.within, ll)) ends
    go (inr q) = on_left (λ r. m < r.start + r.len) k q (g.behind (omega (arith, q, ll)))

  pub seek_right : (m j : ℕ) → n.run.start + n.run.len ≤ m → SeeksTo m (runs s n.right) j → SeeksTo m (runs s h) (n.left.count + 1 + j)
  seek_right m j ends g = record {
    within = omega (arith, g.within, lh, lr);
    before = λ some. go (le_or_lt j 0);
    behind = λ low. on_right (λ r. m < r.start + r.len) (n.left.count + 1 + j) j refl (g.behind (omega (arith, low, lh, lr)));
  } where
    go : (j ≤ 0) ⊎ (0 < j) → (run_at (runs s h) (n.left.count + 1 + j - 1)).start + (run_at (runs s h) (n.left.count + 1 + j - 1)).len ≤ m
    go (inl q) = on_here (λ r. r.start + r.len ≤ m) (n.left.count + 1 + j - 1) (omega (arith, q)) ends
    go (inr q) = on_right (λ r. r.start + r.len ≤ m) (n.left.count + 1 + j - 1) (j - 1) (omega (arith, q)) (g.before q)

  pub find_left : (m : ℕ) (before behind : Run) (f : FoundRun) → m < n.run.start + n.run.len → FindsRuns m before n.run (runs s n.left) f → FindsRuns m before behind (runs s h) f
  find_left m before behind f ends g = record {
    seeks = seek_left m f.index ends g.seeks;
    last = λ some. g.last some ∙ sym (at_left s h n o (f.index - 1) (omega (arith, some, g.seeks.within, ll)));
    first = g.first;
    next = λ low. go (le_or_lt n.left.count f.index);
    end = λ high. absurd (omega (arith, high, g.seeks.within, ll, lh));
  } where
    go : (n.left.count ≤ f.index) ⊎ (f.index < n.left.count) → f.behind ≡ run_at (runs s h) f.index
    go (inl q) = g.end (omega (arith, q, ll)) ∙ sym (at_here s h n o f.index (omega (arith, q, g.seeks.within, ll)))
    go (inr q) = g.next (omega (arith, q, ll)) ∙ sym (at_left s h n o f.index q)

  pub find_right : (m : ℕ) (before behind : Run) (f : FoundRun) → n.run.start + n.run.len ≤ m → FindsRuns m n.run behind (runs s n.right) f
      → FindsRuns m before behind (runs s h) (record { index = n.left.count + 1 + f.index; before = f.before; behind = f.behind })
  find_right m before behind f ends g = record {
    seeks = seek_right m f.index ends g.seeks;
    last = λ some. go (le_or_lt f.index 0);
    first = λ e. absurd (omega (arith, e));
    next = λ low. g.next (omega (arith, low, lh, lr)) ∙ sym (at_right s h n o (n.left.count + 1 + f.index) f.index refl);
    end = λ high. g.end (omega (arith, high, lh, lr));
  } where
    go : (f.index ≤ 0) ⊎ (0 < f.index) → f.before ≡ run_at (runs s h) (n.left.count + 1 + f.index - 1)
    go (inl q) = g.first (omega (arith, q)) ∙ sym (at_here s h n o (n.left.count + 1 + f.index - 1) (omega (arith, q)))
    go (inr q) = g.last q ∙ sym (at_right s h n o (n.left.count + 1 + f.index - 1) (f.index - 1) (omega (arith, q)))

  module _ (room : Run → ℕ) (from len : ℕ) where
    pub rooms_right : (j : ℕ) → n.left.count < from → RoomsTo room (runs s n.right) (from - n.left.count - 1) len j → RoomsTo room (runs s h) from len (n.left.count + 1 + j)
    rooms_right j low g = record {
      low = omega (arith, g.low, low);
      within = omega (arith, g.within, lh, lr);
      none_before = λ i p q. on_right (λ r. room r < len) i (i - n.left.count - 1) (omega (arith, p, low)) (g.none_before (i - n.left.count - 1) (omega (arith, p, low)) (omega (arith, p, q, low)));
      there = λ q. on_right (λ r. len ≤ room r) (n.left.count + 1 + j) j refl (g.there (omega (arith, q, lh, lr)));
    }

    pub rooms_left : (k : ℕ) → RoomsTo room (runs s n.left) from len k → k < n.left.count → RoomsTo room (runs s h) from len k
    rooms_left k g low = record {
      low = g.low;
      within = omega (arith, low, lh);
      none_before = λ i p q. on_left (λ r. room r < len) i (omega (arith, q, low)) (g.none_before i p q);
      there = λ q. on_left (λ r. len ≤ room r) k low (g.there (omega (arith, low, ll)));
    }

    pub rooms_here : (k : ℕ) → from ≤ n.left.count → RoomsTo room (runs s n.left) from len k → n.left.count ≤ k → len ≤ room n.run → RoomsTo room (runs s h) from len n.left.count
    rooms_here k low g high enough = record {
      low = low;
      within = omega (arith, lh);
      none_before = λ i p q. on_left (λ r. room r < len) i q (g.none_before i p (omega (arith, q, high)));
      there = λ q. on_here (λ r. len ≤ room r) n.left.count refl enough;
    }

    pub rooms_over : (k j : ℕ) → from ≤ n.left.count → RoomsTo room (runs s n.left) from len k → n.left.count ≤ k → room n.run < len → RoomsTo room (runs s n.right) 0 len j → RoomsTo room (runs s h) from len (n.left.count + 1 + j)
    rooms_over k j low g high short f = record {
      low = omega (arith, low);
      within = omega (arith, f.within, lh, lr);
      none_before = λ i p q. go i p q (le_or_lt n.left.count i);
      there = λ q. on_right (λ r. len ≤ room r) (n.left.count + 1 + j) j refl (f.there (omega (arith, q, lh, lr)));
    } where
      go : (i : ℕ) → from ≤ i → i < n.left.count + 1 + j → (n.left.count ≤ i) ⊎ (i < n.left.count) → room (run_at (runs s h) i) < len
      go i p q (inr l) = on_left (λ r. room r < len) i l (g.none_before i p (omega (arith, l, high)))
      go i p q (inl l) = at_or_behind (le_or_lt i n.left.count) where
        at_or_behind : (i ≤ n.left.count) ⊎ (n.left.count < i) → room (run_at (runs s h) i) < len
        at_or_behind (inl e) = on_here (λ r. room r < len) i (omega (arith, e, l)) short
        at_or_behind (inr e) = on_right (λ r. room r < len) i (i - n.left.count - 1) (omega (arith, e)) (f.none_before (i - n.left.count - 1) (omega arith) (omega (arith, e, q)))

  module _ (room : Run → ℕ) (from to : ℕ) where
    pub most_left : (m : ℕ) → to ≤ n.left.count → IsMost room (runs s n.left) from to m → IsMost room (runs s h) from to m
    most_left m high g = record {
      greatest = λ i p q. on_left (λ r. room r ≤ m) i (omega (arith, q, high)) (g.greatest i p q);
      reached = λ some. (let w : (i : ℕ) × (from ≤ i) × (i < to) × (room (run_at (runs s n.left) i) ≡ m) = g.reached some in
          (w.0, w.1, w.2, on_left (λ r. room r ≡ m) w.0 (omega (arith, w.2, high)) w.3));
    }

    pub most_right : (m : ℕ) → n.left.count < from → IsMost room (runs s n.right) (from - n.left.count - 1) (to - n.left.count - 1) m → IsMost room (runs s h) from to m
    most_right m low g = record {
      greatest = λ i p q. on_right (λ r. room r ≤ m) i (i - n.left.count - 1) (omega (arith, p, low)) (g.greatest (i - n.left.count - 1) (omega (arith, p, low)) (omega (arith, p, q, low)));
      reached = λ some. (let w : (i : ℕ) × (from - n.left.count - 1 ≤ i) × (i < to - n.left.count - 1) × (room (run_at (runs s n.right) i) ≡ m) = g.reached some in
          (n.left.count + 1 + w.0, omega (arith, w.1, low), omega (arith, w.2), on_right (λ r. room r ≡ m) (n.left.count + 1 + w.0) w.0 refl w.3));
    }

    pub most_both : (a b m : ℕ) → from ≤ n.left.count → n.left.count < to → to ≤ h.count → IsMost room (runs s n.left) from n.left.count a → IsMost room (runs s n.right) 0 (to - n.left.count - 1) b
        → max (max a (room n.run)) b ≡ m → IsMost room (runs s h) from to m
    most_both a b m low high within f g e = record { greatest = λ i p q. go i p q (le_or_lt n.left.count i); reached = λ some. best some (le_or_lt b (max a (room n.run))) (le_or_lt (room n.run) a) } where
      go : (i : ℕ) → from ≤ i → i < to → (n.left.count ≤ i) ⊎ (i < n.left.count) → room (run_at (runs s h) i) ≤ m
      go i p q (inr l) = on_left (λ r. room r ≤ m) i l (omega (arith, e, f.greatest i p l))
      go i p q (inl l) = at_or_behind (le_or_lt i n.left.count) where
        at_or_behind : (i ≤ n.left.count) ⊎ (n.left.count < i) → room (run_at (runs s h) i) ≤ m
        at_or_behind (inl k) = on_here (λ r. room r ≤ m) i (omega (arith, k, l)) (omega (arith, e))
        at_or_behind (inr k) = on_right (λ r. room r ≤ m) i (i - n.left.count - 1) (omega (arith, k)) (omega (arith, e, g.greatest (i - n.left.count - 1) (omega arith) (omega (arith, k, q))))

      best : 0 < m → (b ≤ max a (room n.run)) ⊎ (max a (room n.run) < b) → (room n.run ≤ a) ⊎ (a < room n.run) → (i : ℕ) × (from ≤ i) × (i < to) × (room (run_at (runs s h) i) ≡ m)
      best some (inr p) q =
          let w : (i : ℕ) × (0 ≤ i) × (i < to - n.left.count - 1) × (room (run_at (runs s n.right) i) ≡ b) = g.reached (omega (arith, p)) in
          (n.left.count + 1 + w.0, omega (arith, low), omega (arith, w.2), on_right (λ r. room r ≡ m) (n.left.count + 1 + w.0) w.0 refl (w.3 ∙ omega (arith, e, p)))
      best some (inl p) (inr q) = (n.left.count, low, high, on_here (λ r. room r ≡ m) n.left.count refl (omega (arith, e, p, q)))
      best some (inl p) (inl q) =
          let w : (i : ℕ) × (from ≤ i) × (i < n.left.count) × (room (run_at (runs s n.left) i) ≡ a) = f.reached (omega (arith, some, e, p, q)) in
          (w.0, w.1, omega (arith, w.2, high), on_left (λ r. room r ≡ m) w.0 w.2 (w.3 ∙ omega (arith, e, p, q)))
