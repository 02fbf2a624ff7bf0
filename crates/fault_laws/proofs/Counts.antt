-- Each record of the tables is an item, so where the items have room the records have.
use Rattle.std.proofs.Common.{◌≡◌, ℕ, suc, ◌+◌, ◌<◌, ◌≤◌, true, List, [], ◌∷◌, ◌++◌, length, map, filter, Option, Some, None, Ordering, refl, sym, ap, subst, ◌∙◌, arith, inl, inr}
use Rattle.std.specs.Prelude.{not}
use Rattle.std.specs.Ordering.{nat_cmp, is_lt}
use Rattle.std.specs.Cmp.{IsTotalOrder}
use Rattle.std.specs.declared.cmp.Ordering.TheVariants.{Less, Greater}
use Rattle.std.specs.Ordering.{ordering_reverse}
use Rattle.std.proofs.lemmas.Cmp.{nat_cmp_total}
use Rattle.std.proofs.lemmas.List.{length-append, length-map}
use Rattle.asm_group.specs.Group.{Group}
use Rattle.asm_formats.specs.Among.{IsAmong}
use Rattle.asm_formats.specs.Items.{Item, item_key, file_item, chunk_item, disk_item, rebalance_item, pending_item, templates_item, node_item, settings_item, marks_item}
use Rattle.asm_formats.specs.Status.{Status}
use Rattle.asm_formats.proofs.Among.{filter_among}
use Rattle.asm_images.specs.Describing.{DescribesGroup, is_operation_item}
use Rattle.asm_base.specs.Chunks.{Chunk, chunk_cmp}
use Rattle.asm_base.specs.Records.{Ascend}
use Rattle.asm_base.proofs.Exact.{some_is}
use Rattle.file_directory.specs.Files as files
use Rattle.extent_map.specs.Extents as extents
use Rattle.extent_map.proofs.Laws.{chunk_total}
use Rattle.alias_tree.specs.Nodes as nodes
use Rattle.staleness_directory.specs.Marks as stale
use Rattle.disk_directory.specs.Disks as disks
use Rattle.catalog_tables.specs.Tables.{AreTables, Tables}
use Rattle.catalog_tables.specs.Rules.{blocks_used}
use Rattle.catalog_tables.specs.Items.{AreItemsOf}
use Rattle.catalog_tables.proofs.TableItems.{AreExact, IsOf, a_chunk, a_disk, a_file, a_node, append_among, below, chunks_exact, map_among, marks, numbers_exact, says, tail_up, the_settings, the_templates}
use Rattle.group_of.proofs.Counts.{AllApart, no_longer}

-- ---- lists without repetitions

joined : {A : Type 0} (xs ys : List A) → AllApart xs → AllApart ys → ((x : A) → IsAmong xs x → IsAmong ys x → ⊥) → AllApart (xs ++ ys)
unfolding AllApart
joined [] ys a b none = b
joined (x ∷ xs) ys a b none = (
  λ m. elim (append_among xs ys x m) [ inl l ↦ a.0 l | inr k ↦ none x (inl refl) k ],
  joined xs ys a.1 b (λ y h g. none y (inr h) g),
)

-- the number of an item's table
abbrev table_of : Item → ℕ
table_of (file_item f head) = 0
table_of (chunk_item f c homes) = 1
table_of (node_item n node) = 2
table_of (marks_item f c ms) = 3
table_of (disk_item d info) = 4
table_of (templates_item ts) = 5
table_of (settings_item s) = 6
table_of (rebalance_item power) = 7
table_of (pending_item op) = 7

-- items of later tables
abbrev AreLater : ℕ → List Item → Type 0
AreLater n is = (i : Item) → IsAmong is i → n < table_of i

module _ {K T : Type 0} (R : K → K → Ordering) (total : IsTotalOrder R) (item_of : K × T → Item) (key_of : Item → Option K) (of : (x : K × T) → key_of (item_of x) ≡ Some x.0) where
  not_itself : (x : K) → R x x ≡ Less → ⊥
  not_itself x e = by (sym e ∙ total.antisymm x x ∙ ap ordering_reverse e) where
    by : Less ≡ Greater → ⊥
    by f = absurd cc

  apart : AreExact R → (es : List (K × T)) → Ascend (λ a b. is_lt (R a b)) es → AllApart (map item_of es)
  unfolding AllApart
  apart exact [] up = tt
  apart exact (x ∷ es) up = (
    λ m.
        let y = map_among item_of es (item_of x) m in
        let same : Some x.0 ≡ Some y.0.0 = sym (of x) ∙ ap key_of y.2 ∙ of y.0 in
        let less : R x.0 y.0.0 ≡ Less = below R total exact x es y.0 up y.1 in
        not_itself x.0 (subst (λ (k : K). R x.0 k ≡ Less) (sym (some_is x.0 y.0.0 same)) less),
    apart exact es (tail_up R total exact x es up),
  )

-- the keys in each table
abbrev file_of : Item → Option ℕ
file_of (file_item f head) = Some f
file_of _ = None

abbrev chunk_of : Item → Option Chunk
chunk_of (chunk_item f c homes) = Some (f, c)
chunk_of _ = None

abbrev node_of : Item → Option ℕ
node_of (node_item n node) = Some n
node_of _ = None

abbrev marks_of : Item → Option Chunk
marks_of (marks_item f c ms) = Some (f, c)
marks_of _ = None

abbrev disk_of : Item → Option ℕ
disk_of (disk_item d info) = Some d
disk_of _ = None

-- ---- the records but for those of operations

module _ (t : Tables) where
  abbrev two : List Item
  two = templates_item t.templates.templates ∷ settings_item t.templates.settings ∷ []

  abbrev from_disks : List Item
  from_disks = map disks.item_of_disk t.disks ++ two

  abbrev from_marks : List Item
  from_marks = map stale.item_of_marks t.stale ++ from_disks

  abbrev from_nodes : List Item
  from_nodes = map nodes.item_of_node t.nodes ++ from_marks

  abbrev from_chunks : List Item
  from_chunks = map extents.item_of_chunk t.extents ++ from_nodes

  abbrev from_files : List Item
  from_files = map files.item_of_file_head t.files ++ from_chunks

  -- items of one table, and of those behind it
  later : {X : Type 0} (n : ℕ) (item_of : X → Item) (xs : List X) (rest : List Item) → ((x : X) → table_of (item_of x) ≡ suc n) → AreLater (suc n) rest → AreLater n (map item_of xs ++ rest)
  later n item_of xs rest at behind i h = elim (append_among (map item_of xs) rest i h) [
    | inl l ↦ let m = map_among item_of xs i l in omega (arith, ap table_of m.2, at m.0)
    | inr k ↦ omega (arith, behind i k)
  ]

  two_later : AreLater 4 two
  two_later i (inl e) = omega (arith, ap table_of e)
  two_later i (inr (inl e)) = omega (arith, ap table_of e)
  two_later i (inr (inr h)) = absurd h

  none_twice : {X : Type 0} (n : ℕ) (item_of : X → Item) (xs : List X) (rest : List Item) → ((x : X) → table_of (item_of x) ≡ n)
      → AreLater n rest → (i : Item) → IsAmong (map item_of xs) i → IsAmong rest i → ⊥
  none_twice n item_of xs rest at behind i h k = let m = map_among item_of xs i h in absurd (omega (arith, ap table_of m.2, at m.0, behind i k))

  disks_later : AreLater 3 from_disks
  disks_later = later 3 disks.item_of_disk t.disks two (λ x. refl) two_later

  marks_later : AreLater 2 from_marks
  marks_later = later 2 stale.item_of_marks t.stale from_disks (λ x. refl) disks_later

  nodes_later : AreLater 1 from_nodes
  nodes_later = later 1 nodes.item_of_node t.nodes from_marks (λ x. refl) marks_later

  chunks_later : AreLater 0 from_chunks
  chunks_later = later 0 extents.item_of_chunk t.extents from_nodes (λ x. refl) nodes_later

  two_apart : AllApart two
  unfolding AllApart
  two_apart = (λ m. elim m [ inl e ↦ absurd (omega (arith, ap table_of e)) | inr h ↦ absurd h ], (λ h. absurd h, tt))

  module _ (a : AreTables t) where
    all_apart : AllApart from_files
    all_apart =
        let disks_apart = joined (map disks.item_of_disk t.disks) two (apart nat_cmp nat_cmp_total disks.item_of_disk disk_of (λ x. refl) numbers_exact t.disks a.disks.0)
        two_apart (none_twice 4 disks.item_of_disk t.disks two (λ x. refl) two_later) in
        let marks_apart = joined (map stale.item_of_marks t.stale) from_disks (apart chunk_cmp chunk_total stale.item_of_marks marks_of (λ x. refl) chunks_exact t.stale a.stale.0)
        disks_apart (none_twice 3 stale.item_of_marks t.stale from_disks (λ x. refl) disks_later) in
        let nodes_apart = joined (map nodes.item_of_node t.nodes) from_marks (apart nat_cmp nat_cmp_total nodes.item_of_node node_of (λ x. refl) numbers_exact t.nodes a.nodes.items.0)
        marks_apart (none_twice 2 nodes.item_of_node t.nodes from_marks (λ x. refl) marks_later) in
        let chunks_apart = joined (map extents.item_of_chunk t.extents) from_nodes (apart chunk_cmp chunk_total extents.item_of_chunk chunk_of (λ x. refl) chunks_exact t.extents a.extents.0.0)
        nodes_apart (none_twice 1 extents.item_of_chunk t.extents from_nodes (λ x. refl) nodes_later) in
        joined (map files.item_of_file_head t.files) from_chunks (apart nat_cmp nat_cmp_total files.item_of_file_head file_of (λ x. refl) numbers_exact t.files a.files.0)
        chunks_apart (none_twice 0 files.item_of_file_head t.files from_chunks (λ x. refl) chunks_later)

    size : length from_files ≡ blocks_used t
    size = omega (
      arith,
      length-append (map files.item_of_file_head t.files) from_chunks,
      length-append (map extents.item_of_chunk t.extents) from_nodes,
      length-append (map nodes.item_of_node t.nodes) from_marks,
      length-append (map stale.item_of_marks t.stale) from_disks,
      length-append (map disks.item_of_disk t.disks) two,
      length-map t.files files.item_of_file_head,
      length-map t.extents extents.item_of_chunk,
      length-map t.nodes nodes.item_of_node,
      length-map t.stale stale.item_of_marks,
      length-map t.disks disks.item_of_disk,
    )

    -- each is an item of the tables, and of no operation
    record IsKept (i : Item) : Type 0 where
      of : IsOf t i
      kept : not (is_operation_item i) ≡ true

    mapped : {X : Type 0} (item_of : X → Item) (xs : List X) (i : Item) → ((x : X) → IsAmong xs x → i ≡ item_of x → IsOf t i)
        → ((x : X) → not (is_operation_item (item_of x)) ≡ true) → IsAmong (map item_of xs) i → IsKept i
    mapped item_of xs i of kept h = let m = map_among item_of xs i h in record { of = of m.0 m.1 m.2; kept = ap (λ (j : Item). not (is_operation_item j)) m.2 ∙ kept m.0 }

    kept_two : (i : Item) → IsAmong two i → IsKept i
    kept_two i (inl e) = record { of = the_templates e; kept = ap (λ (j : Item). not (is_operation_item j)) e }
    kept_two i (inr (inl e)) = record { of = the_settings e; kept = ap (λ (j : Item). not (is_operation_item j)) e }
    kept_two i (inr (inr h)) = absurd h

    all_kept : (i : Item) → IsAmong from_files i → IsKept i
    all_kept i h = elim (append_among (map files.item_of_file_head t.files) from_chunks i h) [
      | inl l ↦ mapped files.item_of_file_head t.files i (λ x m e. a_file x m e) (λ x. refl) l
      | inr h1 ↦ elim (append_among (map extents.item_of_chunk t.extents) from_nodes i h1) [
        | inl l ↦ mapped extents.item_of_chunk t.extents i (λ x m e. a_chunk x m e) (λ x. refl) l
        | inr h2 ↦ elim (append_among (map nodes.item_of_node t.nodes) from_marks i h2) [
          | inl l ↦ mapped nodes.item_of_node t.nodes i (λ x m e. a_node x m e) (λ x. refl) l
          | inr h3 ↦ elim (append_among (map stale.item_of_marks t.stale) from_disks i h3) [
            | inl l ↦ mapped stale.item_of_marks t.stale i (λ x m e. marks x m e) (λ x. refl) l
            | inr h4 ↦ elim (append_among (map disks.item_of_disk t.disks) two i h4) [
              | inl l ↦ mapped disks.item_of_disk t.disks i (λ x m e. a_disk x m e) (λ x. refl) l
              | inr h5 ↦ kept_two i h5
            ]
          ]
        ]
      ]
    ]

    -- so there are no more of them than items
    pub no_more : (items : List Item) → AreItemsOf t items → blocks_used t ≤ length (filter (λ i. not (is_operation_item i)) items)
    no_more items is = subst (λ (n : ℕ). n ≤ length (filter (λ i. not (is_operation_item i)) items)) size
        (no_longer from_files (filter (λ i. not (is_operation_item i)) items) all_apart
        (λ i h. let k = all_kept i h in filter_among (λ j. not (is_operation_item j)) items i k.kept (is.from_table (item_key i) i (says t i a k.of))))

pub room : (r : Status) (items : List Item) (t : Tables) (g : Group) → AreTables t → AreItemsOf t items → DescribesGroup r items g → blocks_used t + 2 ≤ g.shape.dir_blocks
room r items t g a is d = omega (arith, no_more t a items is, d.room)
