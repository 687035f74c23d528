use Rattle.std.proofs.Common.{◌≡◌, ◌∙◌, ap, sym, arith, subst, List, ℕ, Option, Some, None, IsSome, true, length, refl, ◌≤◌, take, ◌+◌}
use Rattle.std.specs.Prelude.{IfSome, option_map}
use Rattle.list_table.specs.Entries.{Entry}
use Rattle.list_table.specs.ListTable.{entries, entry_of}
use Rattle.cell_pool.specs.declared.order.Candidate.{Candidate}
use Rattle.cell_pool.specs.Names.{spelled}
use Rattle.cell_pool.specs.Pools.{Pool, first_with, is_named, is_of, id_in}
use Rattle.cell_pool.specs.Items.{pool_of}
use Rattle.cell_pool.specs.Kept.{pools_of}
use Rattle.cell_pool.specs.CellPools.{pool, by_id, IsCellPools}
use Rattle.cell_pool.specs.Order.{is_after, is_between, IsNext}
use Rattle.cell_pool.proofs.PoolLemmas.{none_more, none_all, found_other, one_named, name_refl}
use Rattle.cell_pool.proofs.EntryLemmas.{pool_name}
use Rattle.cell_pool.proofs.OrderLemmas.{lies_between, nearer, none_lies, low_passes, between_low}
use Rattle.cell_pool.proofs.RowLemmas.{stands, has_texts, is_text, has_bytes, own_id}
use Rattle.cell_pool.proofs.pools.CellPools.pool_after.Goals.{then-is_between, else-is_between}
use Rattle.cell_pool.proofs.pools.CellPools.pool_after.Goals as goal

pub count-count-requires : goal.count-count-requires
count-count-requires c = stands c.args.elements.now c.args.self.now c.requires

pub row-row-requires-clause-table : goal.row-row-requires-clause-table
row-row-requires-clause-table c = stands c.args.elements.now c.args.self.now c.requires

pub label-requires-clause-within : goal.label-requires-clause-within
label-requires-clause-within c = has_texts c.args.elements.now c.args.self.now c.requires c.row-row.result _ _ c.row-row.ensures.parts c.row-row.ensures.open

pub name_of-named-requires-clause-text : goal.name_of-named-requires-clause-text
name_of-named-requires-clause-text c = is_text c.args.elements.now c.args.self.now c.requires c.row-row.result _ _ c.row-row.ensures.parts c.row-row.ensures.open c.label.result c.label.ensures

pub name_of-named-requires-clause-bytes : goal.name_of-named-requires-clause-bytes
name_of-named-requires-clause-bytes c = has_bytes c.args.elements.now c.args.self.now c.requires c.row-row.result _ _ c.row-row.ensures.parts c.row-row.ensures.open c.label.result c.label.ensures

abbrev high_name : Option Candidate → Option (List ℕ)
high_name o = option_map (λ c. c.name.bytes) o

abbrev IsFound : List Pool → Option (List ℕ) → Option Candidate → Type 0
IsFound ps low o = IfSome o (λ c. (p : Pool) × (id_in c.id ps ≡ Some p) × (p.name ≡ c.name.bytes) × (is_after low c.name.bytes ≡ true))

pub loop-place-preserved : goal.loop-place-preserved
loop-place-preserved c =
    let es : List Entry = entries c.args.elements.now c.args.self.now.table in
    let e : Entry = entry_of c.args.elements.now c.row-row.result in
    let p : Pool = pool_of e in
    let low : Option (List ℕ) = option_map (λ n. n.now.bytes) c.args.behind in
    let high : Option (List ℕ) = high_name c.loop-place.next in
    let named : c.name_of-named.result.bytes ≡ p.name = c.name_of-named.ensures ∙ ap spelled c.label.ensures ∙ sym (pool_name e) in
    let told : c.is_between.result ≡ is_between low high p.name = c.is_between.ensures ∙ ap (is_between low high) named in
    let F : Option Candidate → Type 0 = IsFound (pools_of es) low in
    let N : Option Candidate → Type 0 = λ o. first_with (lies_between low (high_name o)) (pools_of (take (c.loop-place.place.index + 1) es)) ≡ None in
    elim c.if-is_between.branch [
      | then-is_between w ↦
          (let hit : is_between low high p.name ≡ true = sym told ∙ w.if-is_between.true in
          let own : id_in c.row-row.result.id (pools_of es) ≡ Some p = own_id c.args.elements.now c.args.self.now c.requires e (lies_between low high) c.loop-place.place.index c.row-row.ensures.entry c.loop-place.invariant.earlier hit in
          let M : Option (List ℕ) → Type 0 = λ o. first_with (lies_between low o) (pools_of (take (c.loop-place.place.index + 1) es)) ≡ None in
          record {
            place = c.row-row.ensures.next;
            found = subst F (sym w.next-is) (p, own, sym named, ap (is_after low) named ∙ between_low low high p.name hit);
            earlier = subst N (sym w.next-is) (subst M (ap Some (sym named)) (nearer low high es c.loop-place.place.index e c.row-row.ensures.entry c.loop-place.invariant.earlier hit));
          })
      | else-is_between w ↦ record {
        place = c.row-row.ensures.next;
        found = subst F (sym w.next-is) c.loop-place.invariant.found;
        earlier = subst N (sym w.next-is) (none_more (lies_between low high) es c.loop-place.place.index e c.row-row.ensures.entry c.loop-place.invariant.earlier (sym told ∙ w.if-is_between.false));
      }
    ]

pub returns-in-Some-clause-there : goal.returns-in-Some-clause-there
unfolding by_id
returns-in-Some-clause-there c =
    let F : Option Candidate → Type 0 = IsFound (pools_of (entries c.args.elements.now c.args.self.now.table)) (option_map (λ n. n.now.bytes) c.args.behind) in
    let f = subst F c.in-Some.is c.loop-place.invariant.found in
    let Q : Option Pool → Type 0 = IsSome in
    subst Q (sym f.1) refl

pub returns-in-Some-clause-next : goal.returns-in-Some-clause-next
unfolding by_id pool IsCellPools
returns-in-Some-clause-next c =
    let es : List Entry = entries c.args.elements.now c.args.self.now.table in
    let ps : List Pool = pools_of es in
    let low : Option (List ℕ) = option_map (λ n. n.now.bytes) c.args.behind in
    let past : length es ≤ c.loop-place.place.index = omega (arith, c.count-count.ensures.count, c.loop-place-test.false) in
    let F : Option Candidate → Type 0 = IsFound ps low in
    let f = subst F c.in-Some.is c.loop-place.invariant.found in
    let p : Pool = f.0 in
    let none : first_with (lies_between low (high_name c.loop-place.next)) ps ≡ None = none_all (lies_between low (high_name c.loop-place.next)) es c.loop-place.place.index past c.loop-place.invariant.earlier in
    let N : Option (List ℕ) → Type 0 = λ o. first_with (lies_between low o) ps ≡ None in
    let near : first_with (lies_between low (Some p.name)) ps ≡ None = subst N (ap high_name c.in-Some.is ∙ ap Some (sym f.2)) none in
    let Q : Option Pool → Type 0 = IsSome in
    let G : Option Pool → Type 0 = λ z. IfSome z (λ (p : Pool). IsNext (pool c.args.elements.now c.args.self.now) low p.name) in
    subst G (sym f.1) (record {
      there = subst Q (sym (found_other (is_of c.in-Some.candidate.id) (is_named p.name) ps p f.1 (one_named p.name ps c.requires.single) (name_refl p.name))) refl;
      behind = ap (is_after low) f.2 ∙ f.3;
      first = λ n there behind. sym (low_passes low p.name n behind) ∙ none_lies low (Some p.name) ps near n there;
    })

pub returns-in-None-clause-none : goal.returns-in-None-clause-none
unfolding pool
returns-in-None-clause-none c =
    let es : List Entry = entries c.args.elements.now c.args.self.now.table in
    let low : Option (List ℕ) = option_map (λ n. n.now.bytes) c.args.behind in
    let past : length es ≤ c.loop-place.place.index = omega (arith, c.count-count.ensures.count, c.loop-place-test.false) in
    let N : Option (List ℕ) → Type 0 = λ o. first_with (lies_between low o) (pools_of es) ≡ None in
    let none : first_with (lies_between low None) (pools_of es) ≡ None = subst N (ap high_name c.in-None.is) (none_all (lies_between low (high_name c.loop-place.next)) es c.loop-place.place.index past c.loop-place.invariant.earlier) in
    λ n there. none_lies low None (pools_of es) none n there
