-- A move that is planned is the move that asm_placement speaks of.
use Rattle.std.proofs.Common.{◌≡◌, ◌<◌, ◌-◌, ◌/◌, ◌%◌, ◌^◌, ℕ, Bool, true, false, cond, eqb, List, [], ◌∷◌, map, get_or, Option, Some, None, refl, sym, ap, subst, ◌∙◌, inl, inr}
use Rattle.std.specs.Prelude.{◌&&◌, slice_set}
use Rattle.std.specs.Option.{option_map}
use Rattle.std.specs.BTreeMap.{is_at}
use Rattle.std.proofs.lemmas.Bool.{and_parts, cond_both, eq-eqb, eqb-true, true≢false}
use Rattle.asm_formats.specs.Among.{IsAmong}
use Rattle.asm_formats.specs.Items.{Home, Homes, Item, Key, chunk_item, disk_item, file_item, item_key, key_rank, marks_item, node_item, pending_item, rebalance_item, settings_item, templates_item}
use Rattle.asm_formats.specs.Status.{ascends_from}
use Rattle.catalog.specs.asm_placement.Moves.{moved_item, unmarked_item, with_current, with_home, without_bit}
use Rattle.catalog.proofs.asm_base.Exact.{some_is}
use Rattle.catalog.specs.extent_map.Extents.{chunk_at}
use Rattle.catalog.specs.asm_base.Chunks.{Chunk, chunk_cmp}
use Rattle.catalog.proofs.extent_map.Laws.{chunk_total, same_chunk}
use Rattle.catalog.proofs.extent_map.Lookups.{key_is}
use Rattle.catalog.proofs.extent_map.Numbering.{found_self}
use Rattle.catalog.specs.file_directory.Files.{head_at}
use Rattle.catalog.specs.alias_tree.Nodes.{node_at}
use Rattle.catalog.specs.staleness_directory.Marks.{marks_at}
use Rattle.catalog.specs.disk_directory.Disks.{info_at}
use Rattle.catalog.specs.ExtentPlans.{MayMove, MovesItems, with_move}
use Rattle.catalog.specs.catalog_tables.Faults.{IsCatalog}
use Rattle.catalog.specs.catalog_tables.Items.{AreItemsOf}
use Rattle.catalog.specs.catalog_tables.Tables.{Catalogued, Tables, item_at}
use Rattle.catalog.proofs.EditLaws.{changed}
use Rattle.catalog.proofs.catalog_tables.EntryLaws.{either}
use Rattle.catalog.proofs.MarkPlans.{Stands}
use Rattle.catalog.proofs.MovePlans as move

-- ---- items

among_map : (g : Item → Item) (items : List Item) (j : Item) → IsAmong (map g items) j → (i : Item) × IsAmong items i × (g i ≡ j)
among_map g [] j h = absurd h
among_map g (x ∷ items) j (inl same) = (x, inl refl, sym same)
among_map g (x ∷ items) j (inr later) = let r = among_map g items j later in (r.0, inr r.1, r.2)

map_among : (g : Item → Item) (items : List Item) (i : Item) → IsAmong items i → IsAmong (map g items) (g i)
map_among g [] i h = absurd h
map_among g (x ∷ items) i (inl same) = inl (ap g same)
map_among g (x ∷ items) i (inr later) = inr (map_among g items i later)

ranks_same : (g : Item → Item) → ((i : Item) → item_key (g i) ≡ item_key i) → (items : List Item) → map (λ (i : Item). key_rank (item_key i)) (map g items) ≡ map (λ (i : Item). key_rank (item_key i)) items
ranks_same g same [] = refl
ranks_same g same (x ∷ items) = ap (λ (k : Key). key_rank k ∷ map (λ (i : Item). key_rank (item_key i)) (map g items)) (same x) ∙ ap (λ (rs : List ℕ). key_rank (item_key x) ∷ rs) (ranks_same g same items)

map_twice : (g h : Item → Item) (items : List Item) → map g (map h items) ≡ map (λ (i : Item). g (h i)) items
map_twice g h [] = refl
map_twice g h (x ∷ items) = ap (λ (xs : List Item). g (h x) ∷ xs) (map_twice g h items)

moved_key : (f i copy : ℕ) (h : Home) (j : Item) → item_key (moved_item f i copy h j) ≡ item_key j
moved_key f i copy h (chunk_item g c homes) =
    cond_both (eqb g f && eqb c (i / 256)) (chunk_item g c (slice_set homes (i % 256) (slice_set (get_or homes (i % 256) []) copy (Some h)))) (chunk_item g c homes) (λ (x : Item). item_key x ≡ item_key (chunk_item g c homes)) (λ yes. refl) (λ no. refl)
moved_key f i copy h (file_item g head) = refl
moved_key f i copy h (disk_item d info) = refl
moved_key f i copy h (rebalance_item p) = refl
moved_key f i copy h (pending_item op) = refl
moved_key f i copy h (templates_item ts) = refl
moved_key f i copy h (node_item n node) = refl
moved_key f i copy h (settings_item s) = refl
moved_key f i copy h (marks_item g c marks) = refl

unmarked_key : (f i copy : ℕ) (j : Item) → item_key (unmarked_item f i copy j) ≡ item_key j
unmarked_key f i copy (marks_item g c marks) =
    cond_both (eqb g f && eqb c (i / 256)) (marks_item g c (slice_set marks (i % 256) (without_bit (get_or marks (i % 256) 0) copy))) (marks_item g c marks) (λ (x : Item). item_key x ≡ item_key (marks_item g c marks)) (λ yes. refl) (λ no. refl)
unmarked_key f i copy (chunk_item g c homes) = refl
unmarked_key f i copy (file_item g head) = refl
unmarked_key f i copy (disk_item d info) = refl
unmarked_key f i copy (rebalance_item p) = refl
unmarked_key f i copy (pending_item op) = refl
unmarked_key f i copy (templates_item ts) = refl
unmarked_key f i copy (node_item n node) = refl
unmarked_key f i copy (settings_item s) = refl

-- an item of another kind stays
stays : {A : Type 0} (g : Item → Item) (make : A → Item) → ((x : A) → g (make x) ≡ make x) → (o : Option A) → option_map make o ≡ option_map g (option_map make o)
stays g make same None = refl
stays g make same (Some x) = ap (λ (j : Item). Some j) (sym (same x))

here_test : (f n : ℕ) → (eqb f f && eqb n n) ≡ true
here_test f n = rw (eq-eqb f f refl, eq-eqb n n refl) refl

other_test : (f n g c : ℕ) → is_at (chunk_cmp (g, c)) (f, n) ≡ false → (eqb g f && eqb c n) ≡ false
other_test f n g c miss = elim (either (eqb g f && eqb c n)) [
  | inl hit ↦
      let p = and_parts (eqb g f) (eqb c n) hit in
      let same : (g, c) ≡ (f, n) = ap (λ (x : ℕ). (x, c)) (eqb-true g f p.0) ∙ ap (λ (x : ℕ). (f, x)) (eqb-true c n p.1) in
      absurd (true≢false (sym (ap (λ (q : Chunk). is_at (chunk_cmp q) (f, n)) same ∙ found_self f n) ∙ miss))
  | inr none ↦ none
]

-- ---- what the tables say at a key

module _ (c : Catalogued) (is : IsCatalog c) (f i copy : ℕ) (h : Home) (may : MayMove c f i copy h) (unit : h.unit < 2 ^ 32) (w : List Homes) (m : List ℕ) (s : Stands c.tables (f, i / 256) w m) where
  abbrev g : Item → Item
  g j = unmarked_item f i copy (moved_item f i copy h j)

  abbrev t : Tables
  t = c.tables

  abbrev u : Tables
  u = changed c.tables (move.xs c is f i copy h may unit w m s) (move.ms c is f i copy h may unit w m s)

  chunk_moved : (a n : ℕ) → option_map (chunk_item a n) (chunk_at u.extents (a, n)) ≡ option_map g (option_map (chunk_item a n) (chunk_at t.extents (a, n)))
  chunk_moved a n = elim (either (is_at (chunk_cmp (a, n)) (f, i / 256))) [
    | inl hit ↦
        let same : (a, n) ≡ (f, i / 256) = key_is chunk_cmp same_chunk chunk_total (a, n) (f, i / 256) hit in
        subst (λ (q : Chunk). option_map (chunk_item q.0 q.1) (chunk_at u.extents q) ≡ option_map g (option_map (chunk_item q.0 q.1) (chunk_at t.extents q))) (sym same)
        (ap (λ (o : Option (List Homes)). option_map (chunk_item f (i / 256)) o) (move.here c is f i copy h may unit w m s)
        ∙ ap (λ (b : Bool). Some (unmarked_item f i copy (cond b (chunk_item f (i / 256) (slice_set w (i % 256) (slice_set (get_or w (i % 256) []) copy (Some h)))) (chunk_item f (i / 256) w)))) (sym (here_test f (i / 256)))
        ∙ ap (λ (o : Option (List Homes)). option_map g (option_map (chunk_item f (i / 256)) o)) (sym s.homes))
    | inr miss ↦ ap (λ (o : Option (List Homes)). option_map (chunk_item a n) o) (move.others c is f i copy h may unit w m s (a, n) miss)
        ∙ stays g (chunk_item a n) (λ xs. ap (λ (b : Bool). unmarked_item f i copy (cond b (chunk_item a n (slice_set xs (i % 256) (slice_set (get_or xs (i % 256) []) copy (Some h)))) (chunk_item a n xs))) (other_test f (i / 256) a n miss)) (chunk_at t.extents (a, n))
  ]

  marks_moved : (a n : ℕ) → option_map (marks_item a n) (marks_at u.stale (a, n)) ≡ option_map g (option_map (marks_item a n) (marks_at t.stale (a, n)))
  marks_moved a n = elim (either (is_at (chunk_cmp (a, n)) (f, i / 256))) [
    | inl hit ↦
        let same : (a, n) ≡ (f, i / 256) = key_is chunk_cmp same_chunk chunk_total (a, n) (f, i / 256) hit in
        subst (λ (q : Chunk). option_map (marks_item q.0 q.1) (marks_at u.stale q) ≡ option_map g (option_map (marks_item q.0 q.1) (marks_at t.stale q))) (sym same)
        (ap (λ (o : Option (List ℕ)). option_map (marks_item f (i / 256)) o) (move.marks_here c is f i copy h may unit w m s)
        ∙ ap (λ (b : Bool). Some (cond b (marks_item f (i / 256) (slice_set m (i % 256) (without_bit (get_or m (i % 256) 0) copy))) (marks_item f (i / 256) m))) (sym (here_test f (i / 256)))
        ∙ ap (λ (o : Option (List ℕ)). option_map g (option_map (marks_item f (i / 256)) o)) (sym s.marks))
    | inr miss ↦ ap (λ (o : Option (List ℕ)). option_map (marks_item a n) o) (move.marks_others c is f i copy h may unit w m s (a, n) miss)
        ∙ stays g (marks_item a n) (λ xs. ap (λ (b : Bool). cond b (marks_item a n (slice_set xs (i % 256) (without_bit (get_or xs (i % 256) 0) copy))) (marks_item a n xs)) (other_test f (i / 256) a n miss)) (marks_at t.stale (a, n))
  ]

  said : (k : Key) → item_at u k ≡ option_map g (item_at t k)
  unfolding item_at
  said k = elim (either (eqb k.kind 1)) [
    | inl one ↦ rw one (elim (either (eqb k.b 0)) [
      | inl first ↦ rw first (stays g (file_item k.a) (λ x. refl) (head_at t.files k.a))
      | inr later ↦ rw later (chunk_moved k.a (k.b - 1))
    ])
    | inr no_one ↦ rw no_one (elim (either (eqb k.kind 2)) [
      | inl two ↦ rw two (elim (either (eqb k.b 0)) [
        | inl first ↦ rw first (stays g (disk_item k.a) (λ x. refl) (info_at t.disks k.a))
        | inr later ↦ rw later refl
      ])
      | inr no_two ↦ rw no_two (elim (either (eqb k.kind 4)) [
        | inl four ↦ rw four (elim (either (eqb k.b 0)) [
          | inl first ↦ rw first (elim (either (eqb k.a 0)) [
            | inl power ↦ rw power (stays g rebalance_item (λ x. refl) t.operations.rebalance)
            | inr other ↦ rw other (elim (either (eqb k.a 1)) [
              | inl pending ↦ rw pending (stays g pending_item (λ x. refl) t.operations.pending)
              | inr none ↦ rw none refl
            ])
          ])
          | inr later ↦ rw later refl
        ])
        | inr no_four ↦ rw no_four (elim (either (eqb k.kind 5)) [
          | inl five ↦ rw five (elim (either (eqb k.a 0 && eqb k.b 0)) [ inl at ↦ rw at refl | inr none ↦ rw none refl ])
          | inr no_five ↦ rw no_five (elim (either (eqb k.kind 6)) [
            | inl six ↦ rw six (elim (either (eqb k.b 0)) [
              | inl first ↦ rw first (stays g (node_item k.a) (λ x. refl) (node_at t.nodes k.a))
              | inr later ↦ rw later refl
            ])
            | inr no_six ↦ rw no_six (elim (either (eqb k.kind 9)) [
              | inl nine ↦ rw nine (elim (either (eqb k.a 0 && eqb k.b 0)) [ inl at ↦ rw at refl | inr none ↦ rw none refl ])
              | inr no_nine ↦ rw no_nine (elim (either (eqb k.kind 12)) [
                | inl twelve ↦ rw twelve (marks_moved k.a k.b)
                | inr none ↦ rw none refl
              ])
            ])
          ])
        ])
      ])
    ])
  ]

  key_same : (j : Item) → item_key (g j) ≡ item_key j
  key_same j = unmarked_key f i copy (moved_item f i copy h j) ∙ moved_key f i copy h j

  some_map : (o : Option Item) (j : Item) → option_map g o ≡ Some j → (x : Item) × (o ≡ Some x) × (g x ≡ j)
  some_map None j e = absurd cc
  some_map (Some x) j e = (x, refl, some_is (g x) j e)

  items_moved : (items : List Item) → AreItemsOf t items → AreItemsOf u (map g items)
  items_moved items are = record {
    in_order = ap (ascends_from 0) (ranks_same g key_same items) ∙ are.in_order;
    from_table = λ k j e.
        let x = some_map (item_at t k) j (sym (said k) ∙ e) in
        subst (λ (y : Item). IsAmong (map g items) y) x.2 (map_among g items x.0 (are.from_table k x.0 x.1));
    to_table = λ j among.
        let x = among_map g items j among in
        let at : item_key j ≡ item_key x.0 = ap item_key (sym x.2) ∙ key_same x.0 in
        ap (item_at u) at ∙ said (item_key x.0) ∙ ap (option_map g) (are.to_table x.0 x.1) ∙ ap (λ (y : Item). Some y) x.2;
  }

with_home_is : (f i copy : ℕ) (h : Home) (items : List Item) → with_home f i copy h items ≡ map (λ (j : Item). unmarked_item f i copy (moved_item f i copy h j)) items
unfolding with_home with_current
with_home_is f i copy h items = map_twice (unmarked_item f i copy) (moved_item f i copy h) items

pub moves_items : MovesItems
moves_items c f i copy h items is may unit are =
    let s = move.it_stands c is f i copy h may unit in
    subst (λ (x : List Item). AreItemsOf (with_move c.tables f i copy h) x) (sym (with_home_is f i copy h items))
    (subst (λ (u : Tables). AreItemsOf u (map (λ (j : Item). unmarked_item f i copy (moved_item f i copy h j)) items)) (move.same_tables c is f i copy h may unit s.0 s.1 s.2) (items_moved c is f i copy h may unit s.0 s.1 s.2 items are))
