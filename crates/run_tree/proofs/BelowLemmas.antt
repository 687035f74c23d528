-- A node whose element said in advance what is below it now.
use Rattle.std.proofs.Common.{◌≡◌, ℕ, suc, ◌+◌, ◌-◌, ◌<◌, ◌≤◌, List, [], ◌∷◌, ◌++◌, length, false, take, drop, set, Some, refl, sym, ap, ◌∙◌, arith, IsSome, subst}
use Rattle.std.specs.Prelude.{slice_get}
use Rattle.std.proofs.lemmas.List.{take-append-drop, set-get_or, set_split}
use Rattle.std.proofs.lemmas.Option.{get_or_from_slice_get, slice_get-get_or}
use Rattle.vsm_elements.specs.Store.{Store, at, among}
use Rattle.run_tree.specs.declared.run.Run.{Run}
use Rattle.run_tree.specs.declared.tree.RunTree.{RunTree}
use Rattle.run_tree.specs.declared.shape.RunNode.{RunNode}
use Rattle.run_tree.specs.declared.shape.Rooms.{Rooms}
use Rattle.run_tree.specs.Searches.{none}
use Rattle.run_tree.specs.Nodes.{AreRooms, Adds, Changes, Announces}
use Rattle.run_tree.specs.Trees.{runs, owned, Puts, CutsOut, Writes}
use Rattle.run_tree.proofs.AnnounceLemmas.{stands, still_live, still_out, puts_from, cuts_from, writes_from}
use Rattle.run_tree.proofs.ItemLemmas.{at_left, at_right}
use Rattle.run_tree.proofs.PutLemmas.{
  out_left,
  out_right,
  right_tree as put_right_tree,
  up_distinct as put_up_distinct,
  up_kept as put_up_kept,
  up_live as put_up_live,
  up_are as put_up_are,
  put_before,
  left_tree as put_left_tree,
  up_distinct' as put_up_distinct',
  up_kept' as put_up_kept',
  up_live' as put_up_live',
  up_are' as put_up_are',
  put_behind,
}
use Rattle.run_tree.proofs.CutOutLemmas.{
  right_tree as cut_right_tree,
  up_distinct as cut_up_distinct,
  up_kept as cut_up_kept,
  up_live as cut_up_live,
  up_are as cut_up_are,
  other_id as cut_other_id,
  cut_before,
  left_tree as cut_left_tree,
  up_distinct' as cut_up_distinct',
  up_kept' as cut_up_kept',
  up_live' as cut_up_live',
  up_are' as cut_up_are',
  other_id' as cut_other_id',
  cut_behind,
}
use Rattle.run_tree.proofs.WriteLemmas.{right_tree, up_distinct, up_kept, up_live, up_are, write_left, left_tree, up_distinct', up_kept', up_live', up_are', write_right}
use Rattle.run_tree.proofs.TreeLemmas.{length-tree}

abbrev less : RunTree → RunTree
less h = record { root = h.root; count = h.count - 1 }

abbrev more : RunTree → RunTree
more h = record { root = h.root; count = h.count + 1 }

head_is : (h r : RunTree) (n : ℕ) → r.root ≡ h.root → r.count ≡ n → r ≡ record { root = h.root; count = n }
head_is h r n root count = ap (λ (i : ℕ). record { root = i; count = r.count }) root ∙ ap (λ (c : ℕ). record { root = h.root; count = c }) count

pub put_head : (s t : Store) (h r : RunTree) (k id : ℕ) (run : Run) → r.root ≡ h.root → Puts s t h k id run r → Puts s t h k id run (record { root = h.root; count = h.count + 1 })
put_head s t h r k id run root g = let P : RunTree → Type 0 = Puts s t h k id run in subst P (head_is h r (h.count + 1) root g.count) g

-- a run is added
module _ (s u : Store) (h : RunTree) (n : RunNode) (count : ℕ) (rooms one : Rooms) (a : Announces s u h n count rooms)
    (id : ℕ) (run : Run) (live : IsSome (at s id)) (out : among id (owned s h) ≡ false) (is : AreRooms n.rooms (runs s h)) (of : AreRooms one (run ∷ [])) (adds : Adds n.rooms one rooms) where
  pub live_then : IsSome (at u id)
  live_then = still_live s u h n count rooms a id live out

  out_then : among id (owned u h) ≡ false
  out_then = still_out s u h n count rooms a id out

  pub apart_left : among id (owned u n.left) ≡ false
  apart_left = out_left u h n a.opens id run live_then out_then

  pub apart_right : among id (owned u n.right) ≡ false
  apart_right = out_right u h n a.opens id run live_then out_then

  put_rooms : (k : ℕ) → AreRooms rooms (take k (runs u h) ++ run ∷ drop k (runs u h))
  put_rooms k =
      let P : List Run → Type 0 = AreRooms n.rooms in
      let Q : List Run → Type 0 = λ x. AreRooms rooms (take k x ++ run ∷ drop k x) in
      subst Q (sym a.are) (adds (take k (runs s h)) (run ∷ []) (drop k (runs s h)) (subst P (sym (take-append-drop k (runs s h))) is) of)

  pub put_left_below : (t : Store) (k : ℕ) → count ≡ n.left.count + 1 → k ≤ n.left.count → Puts u t n.left k id run (more n.left) → Puts s t h k id run (more h)
  put_left_below t k e low g =
      let o = a.opens in
      let P : List Run → Type 0 = AreRooms rooms in
      let says = a.says ∙ ap (λ (c : ℕ). Some (record { next = n.left.root; words = n.right.root ∷ c ∷ n.run.start ∷ n.run.len ∷ rooms.plain ∷ rooms.paged ∷ rooms.total ∷ [] })) e in
      puts_from s u h n count rooms a t k id run (more h) (put_before u h n o id run live_then out_then k low t (more n.left) g t (more h)
      (stands u t (more n.left) n.id n.run n.right (more h) rooms says
      (put_up_kept u h n o id run live_then out_then k low t (more n.left) g)
      (put_up_live u h n o id run live_then out_then k low t (more n.left) g)
      g.tree
      (put_right_tree u h n o id run live_then out_then k low t (more n.left) g)
      (put_up_distinct u h n o id run live_then out_then k low t (more n.left) g)
      (subst P (sym (put_up_are u h n o id run live_then out_then k low t (more n.left) g)) (put_rooms k))
      (sym o.root) (omega (arith, o.count))))

  pub put_right_below : (t : Store) (k k' : ℕ) → count ≡ n.left.count → n.left.count < k → k' ≡ k - n.left.count - 1 → Puts u t n.right k' id run (more n.right) → Puts s t h k id run (more h)
  put_right_below t k k' e high fewer g =
      let o = a.opens in
      let P : List Run → Type 0 = AreRooms rooms in
      let says = a.says ∙ ap (λ (c : ℕ). Some (record { next = n.left.root; words = n.right.root ∷ c ∷ n.run.start ∷ n.run.len ∷ rooms.plain ∷ rooms.paged ∷ rooms.total ∷ [] })) e in
      puts_from s u h n count rooms a t k id run (more h) (put_behind u h n o id run live_then out_then k k' high fewer t (more n.right) g t (more h)
      (stands u t n.left n.id n.run (more n.right) (more h) rooms says
      (put_up_kept' u h n o id run live_then out_then k k' high fewer t (more n.right) g)
      (put_up_live' u h n o id run live_then out_then k k' high fewer t (more n.right) g)
      (put_left_tree u h n o id run live_then out_then k k' high fewer t (more n.right) g)
      g.tree
      (put_up_distinct' u h n o id run live_then out_then k k' high fewer t (more n.right) g)
      (subst P (sym (put_up_are' u h n o id run live_then out_then k k' high fewer t (more n.right) g)) (put_rooms k))
      (sym o.root) (omega (arith, o.count))))

-- a run is replaced or removed

parts_at : (rs : List Run) (k : ℕ) (r : Run) → k < length rs → slice_get rs k ≡ Some r → rs ≡ take k rs ++ r ∷ drop (suc k) rs
parts_at rs k r low e = sym (set-get_or rs k none) ∙ ap (set rs k) (get_or_from_slice_get rs k r none e) ∙ set_split rs k r low

module _ (s u : Store) (h : RunTree) (n : RunNode) (count : ℕ) (rooms was now : Rooms) (a : Announces s u h n count rooms)
    (k : ℕ) (old : Run) (within : k < length (runs s h)) (there : slice_get (runs s h) k ≡ Some old) (is : AreRooms n.rooms (runs s h)) (of : AreRooms was (old ∷ [])) (changes : Changes n.rooms was now rooms) where
  there_then : slice_get (runs u h) k ≡ Some old
  there_then = ap (λ (x : List Run). slice_get x k) a.are ∙ there

  pub was_left : k < n.left.count → slice_get (runs u n.left) k ≡ Some old
  was_left low =
      slice_get-get_or (runs u n.left) k none (omega (arith, low, length-tree u n.left a.opens.left))
      ∙ ap Some (sym (at_left u h n a.opens k low) ∙ get_or_from_slice_get (runs u h) k old none there_then)

  pub was_right : (j : ℕ) → k ≡ n.left.count + 1 + j → j < n.right.count → slice_get (runs u n.right) j ≡ Some old
  was_right j e low =
      slice_get-get_or (runs u n.right) j none (omega (arith, low, length-tree u n.right a.opens.right))
      ∙ ap Some (sym (at_right u h n a.opens k j e) ∙ get_or_from_slice_get (runs u h) k old none there_then)

  changed_rooms : (new : List Run) → AreRooms now new → AreRooms rooms (take k (runs s h) ++ (new ++ drop (suc k) (runs s h)))
  changed_rooms new are = let P : List Run → Type 0 = AreRooms n.rooms in changes (take k (runs s h)) (old ∷ []) new (drop (suc k) (runs s h)) (subst P (parts_at (runs s h) k old within there) is) of are

  -- replaced
  module _ (run : Run) (one : AreRooms now (run ∷ [])) (same : count ≡ n.left.count) where
    abbrev head : RunTree
    head = record { root = n.id; count = n.left.count + n.right.count + 1 }

    set_rooms : AreRooms rooms (set (runs u h) k run)
    set_rooms =
        let P : List Run → Type 0 = AreRooms rooms in
        subst P (sym (ap (λ (x : List Run). set x k run) a.are ∙ set_split (runs s h) k run within)) (changed_rooms (run ∷ []) one)

    set_says : at u n.id ≡ Some (record { next = n.left.root; words = n.right.root ∷ n.left.count ∷ n.run.start ∷ n.run.len ∷ rooms.plain ∷ rooms.paged ∷ rooms.total ∷ [] })
    set_says = a.says ∙ ap (λ (c : ℕ). Some (record { next = n.left.root; words = n.right.root ∷ c ∷ n.run.start ∷ n.run.len ∷ rooms.plain ∷ rooms.paged ∷ rooms.total ∷ [] })) same

    pub write_left_below : (t : Store) → k < n.left.count → Writes u t n.left k run → Writes s t h k run
    write_left_below t low g =
        let o = a.opens in
        let P : List Run → Type 0 = AreRooms rooms in
        writes_from s u h n count rooms a t k run (write_left u h n o k run low t g t
        (stands u t n.left n.id n.run n.right head rooms set_says
        (up_kept u h n o k run low t g)
        (up_live u h n o k run low t g)
        g.tree
        (right_tree u h n o k run low t g)
        (up_distinct u h n o k run low t g)
        (subst P (sym (up_are u h n o k run low t g)) set_rooms)
        refl refl))

    pub write_right_below : (t : Store) (j : ℕ) → n.left.count < k → j ≡ k - n.left.count - 1 → Writes u t n.right j run → Writes s t h k run
    write_right_below t j high fewer g =
        let o = a.opens in
        let P : List Run → Type 0 = AreRooms rooms in
        writes_from s u h n count rooms a t k run (write_right u h n o k run j high fewer t g t
        (stands u t n.left n.id n.run n.right head rooms set_says
        (up_kept' u h n o k run j high fewer t g)
        (up_live' u h n o k run j high fewer t g)
        (left_tree u h n o k run j high fewer t g)
        g.tree
        (up_distinct' u h n o k run j high fewer t g)
        (subst P (sym (up_are' u h n o k run j high fewer t g)) set_rooms)
        refl refl))

  -- removed
  module _ (no : AreRooms now []) where
    gone_rooms : AreRooms rooms (take k (runs u h) ++ drop (k + 1) (runs u h))
    gone_rooms =
        let e : suc k ≡ k + 1 = omega arith in
        let P : List Run → Type 0 = AreRooms rooms in
        subst P (ap (λ (j : ℕ). take k (runs s h) ++ drop j (runs s h)) e ∙ ap (λ (x : List Run). take k x ++ drop (k + 1) x) (sym a.are)) (changed_rooms [] no)

    pub cut_left_below : (t : Store) (id : ℕ) → count ≡ n.left.count - 1 → k < n.left.count → CutsOut u t n.left k (less n.left) id → CutsOut s t h k (less h) id
    cut_left_below t id e low g =
        let o = a.opens in
        let P : List Run → Type 0 = AreRooms rooms in
        let says = a.says ∙ ap (λ (c : ℕ). Some (record { next = n.left.root; words = n.right.root ∷ c ∷ n.run.start ∷ n.run.len ∷ rooms.plain ∷ rooms.paged ∷ rooms.total ∷ [] })) e in
        cuts_from s u h n count rooms a t k id (less h) (cut_other_id u h n o k low t (less n.left) id g) (cut_before u h n o k low t (less n.left) id g t (less h)
        (stands u t (less n.left) n.id n.run n.right (less h) rooms says
        (cut_up_kept u h n o k low t (less n.left) id g)
        (cut_up_live u h n o k low t (less n.left) id g)
        g.tree
        (cut_right_tree u h n o k low t (less n.left) id g)
        (cut_up_distinct u h n o k low t (less n.left) id g)
        (subst P (sym (cut_up_are u h n o k low t (less n.left) id g)) gone_rooms)
        (sym o.root) (omega (arith, o.count, low))))

    pub cut_right_below : (t : Store) (id j : ℕ) → count ≡ n.left.count → n.left.count < k → j ≡ k - n.left.count - 1 → j < n.right.count → CutsOut u t n.right j (less n.right) id → CutsOut s t h k (less h) id
    cut_right_below t id j e high fewer low g =
        let o = a.opens in
        let P : List Run → Type 0 = AreRooms rooms in
        let says = a.says ∙ ap (λ (c : ℕ). Some (record { next = n.left.root; words = n.right.root ∷ c ∷ n.run.start ∷ n.run.len ∷ rooms.plain ∷ rooms.paged ∷ rooms.total ∷ [] })) e in
        cuts_from s u h n count rooms a t k id (less h) (cut_other_id' u h n o k j high fewer t (less n.right) id g) (cut_behind u h n o k j high fewer t (less n.right) id g t (less h)
        (stands u t n.left n.id n.run (less n.right) (less h) rooms says
        (cut_up_kept' u h n o k j high fewer t (less n.right) id g)
        (cut_up_live' u h n o k j high fewer t (less n.right) id g)
        (cut_left_tree u h n o k j high fewer t (less n.right) id g)
        g.tree
        (cut_up_distinct' u h n o k j high fewer t (less n.right) id g)
        (subst P (sym (cut_up_are' u h n o k j high fewer t (less n.right) id g)) gone_rooms)
        (sym o.root) (omega (arith, o.count, low))))
