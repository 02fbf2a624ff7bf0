-- The nodes of records that describe a group keep the rule of the tree.
use Rattle.std.proofs.Common.{◌≡◌, ℕ, zero, suc, Bool, eqb, List, length, map, Option, Some, None, refl, sym, ap, subst, ◌∙◌}
use Rattle.std.specs.Prelude.{◌||◌}
use Rattle.std.specs.List.Sorted.{IsStrictlySortedBy}
use Rattle.std.specs.Ordering.{nat_cmp}
use Rattle.std.proofs.lemmas.Bool.{eq-eqb}
use Rattle.std.proofs.lemmas.Cmp.{nat_cmp_total}
use Rattle.asm_group.specs.declared.NodeKind.{NodeKind}
use Rattle.asm_group.specs.declared.NodeKind.TheVariants.{Directory, System, Alias}
use Rattle.asm_group.specs.Group.{Group}
use Rattle.asm_formats.specs.Among.{IsAmong}
use Rattle.asm_formats.specs.Items.{Item, Node, node_item}
use Rattle.asm_formats.specs.Status.{Status}
use Rattle.asm_placement.specs.Naming.{is_kind_directory}
use Rattle.asm_images.specs.Describing.{DescribesGroup}
use Rattle.asm_images.specs.Tables.{node_of}
use Rattle.asm_images.specs.Tree as images
use Rattle.asm_base.specs.Records.{DirectoryRecord, key_cmp, keys_of, of_kinds}
use Rattle.asm_base.specs.Tables.{IsItemTable}
use Rattle.asm_base.proofs.Exact.{some_is}
use Rattle.alias_tree.specs.Nodes as nodes
use Rattle.alias_tree.specs.Nodes.{Numbered, node_at}
use Rattle.alias_tree.proofs.Keeping.{short_way}
use Rattle.catalog_tables.specs.Items.{AreItemsIn}
use Rattle.catalog_tables.proofs.TableItems.{among_found, found_is, numbers_exact}
use Rattle.group_of.proofs.Says.{node_said, node_told, tells_node}
use Rattle.fault_laws.proofs.Records.{back, into, said_by}

same_directory : (k : NodeKind) → nodes.kind_is_directory k ≡ is_kind_directory k
same_directory Directory = refl
same_directory System = refl
same_directory Alias = refl

module _ (content : List DirectoryRecord) (items : List Item) (sorted : IsStrictlySortedBy key_cmp (keys_of content)) (are : AreItemsIn content items) (r : Status) (g : Group) (d : DescribesGroup r items g)
    (table : List Numbered) (fits : IsItemTable nodes.is_before nodes.item_of_node table) (same : of_kinds nodes.is_key_of_node content ≡ map nodes.record_of_node table) where
  nodes_are : (n : ℕ) → node_of items n ≡ node_at table n
  nodes_are n = node_said items n ∙ said_by (tells_node n) items (node_at table n) there only where
    there : (y : Node) → node_at table n ≡ Some y → (i : Item) × IsAmong items i × (tells_node n i ≡ Some y)
    there y e =
        let among = found_is nat_cmp nat_cmp_total numbers_exact n table y e in
        (node_item n y, into content items sorted are nodes.item_of_node nodes.is_key_of_node table same fits.1 (n, y) among, rw (eq-eqb n n refl) refl)

    only : (j : Item) (z : Node) → IsAmong items j → tells_node n j ≡ Some z → node_at table n ≡ Some z
    only j z h e =
        let b = back content items sorted are nodes.item_of_node nodes.is_key_of_node table same fits.1 (node_item n z) (subst (λ (i : Item). IsAmong items i) (node_told n j z e) h) refl in
        let one : (n, z) ≡ b.0 = some_is (n, z) b.0 (ap nodes.node_of_item b.2) in
        among_found nat_cmp nat_cmp_total numbers_exact table (n, z) fits.0 (subst (λ (x : Numbered). IsAmong table x) (sym one) b.1)

  abbrev IsSame : ℕ → Type 0
  IsSame steps = (n : ℕ) → nodes.reaches_root table steps n ≡ images.reaches_root_in_items items steps n

  same_reaches : (steps : ℕ) → IsSame steps
  unfolding nodes.reaches_root
  same_reaches zero n = refl
  same_reaches (suc steps) n = by (node_at table n) refl (same_reaches steps) where
    by : (o : Option Node) → node_at table n ≡ o → IsSame steps → nodes.reaches_root table (suc steps) n ≡ images.reaches_root_in_items items (suc steps) n
    by None e rest = rw (nodes_are n, e) refl
    by (Some node) e rest = rw (nodes_are n, e) (ap (λ (b : Bool). eqb n 0 || b) (rest node.parent))

  pub rule : nodes.KeepsRule table
  rule = record {
    parents = λ n node parent e h. same_directory parent.kind ∙ d.tree_rules.parents n node parent (nodes_are n ∙ e) (nodes_are node.parent ∙ h);
    rooted = λ n node e. short_way table (length items) n fits (same_reaches (length items) n ∙ d.tree_rules.rooted n node (nodes_are n ∙ e));
    distinct = λ m n x y e h. d.tree_rules.distinct m n x y (nodes_are m ∙ e) (nodes_are n ∙ h);
  }
