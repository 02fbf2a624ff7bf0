-- Nodes, files and disk records of tables whose items describe a group keep the rules.
use Rattle.std.proofs.Common.{◌≡◌, ℕ, Bool, true, eqb, List, [], ◌∷◌, Option, Some, None, refl, sym, ap, ◌∙◌}
use Rattle.std.specs.Prelude.{◌||◌, not, find}
use Rattle.std.specs.List.{list_all}
use Rattle.std.specs.Option.{option_map}
use Rattle.std.specs.Ordering.{nat_cmp}
use Rattle.std.proofs.lemmas.Bool.{and_from, and_parts}
use Rattle.std.proofs.lemmas.Cmp.{nat_cmp_total}
use Rattle.asm_group.specs.declared.NodeKind.{NodeKind}
use Rattle.asm_group.specs.declared.NodeKind.TheVariants.{System, Alias}
use Rattle.asm_group.specs.Group.{Group}
use Rattle.asm_formats.specs.Among.{IsAmong}
use Rattle.asm_formats.specs.Items.{FileHead, Item, Node}
use Rattle.asm_formats.specs.Status as status
use Rattle.asm_formats.specs.Status.{Status}
use Rattle.asm_placement.specs.Naming.{is_birth, is_kind_directory, is_named_as, names_back}
use Rattle.asm_images.specs.Describing.{DescribesGroup}
use Rattle.asm_images.specs.Describing as images
use Rattle.asm_images.specs.Tables.{node_of}
use Rattle.file_directory.specs.Files.{NumberedFile, head_at}
use Rattle.alias_tree.specs.Nodes.{Numbered, node_at}
use Rattle.catalog_tables.specs.Tables.{AreTables, Tables}
use Rattle.catalog_tables.specs.Rules.{first_unknown, first_wrong, has_info, has_names, is_named_back, names_file_in_tables}
use Rattle.catalog_tables.specs.Items.{AreItemsOf}
use Rattle.catalog_tables.proofs.TableItems.{among_found, numbers_exact}
use Rattle.catalog_laws.proofs.ItemLaws.{heads_are}
use Rattle.group_of.proofs.Says.{infos_are, nodes_are}
use Rattle.fault_laws.proofs.Lists.{none_wrong}

-- where all pass none is found that fails
none_unknown : (p : status.Entry → Bool) (es : List status.Entry) → list_all p es ≡ true → option_map (λ (e : status.Entry). e.number) (find (λ e. not (p e)) es) ≡ None
none_unknown p [] all = refl
none_unknown p (e ∷ es) all =
    let x = and_parts (p e) (list_all p es) all in
    rw x.0 (none_unknown p es x.1)

same_all : (p q : status.Entry → Bool) (es : List status.Entry) → ((e : status.Entry) → p e ≡ q e) → list_all p es ≡ list_all q es
same_all p q [] same = refl
same_all p q (e ∷ es) same = rw (same e, same_all p q es same) refl

module _ (r : Status) (items : List Item) (t : Tables) (g : Group) (a : AreTables t) (is : AreItemsOf t items) (d : DescribesGroup r items g) where
  node_found : (x : Numbered) → IsAmong t.nodes x → node_at t.nodes x.0 ≡ Some x.1
  node_found x h = among_found nat_cmp nat_cmp_total numbers_exact t.nodes x a.nodes.items.0 h

  pub file_found : (x : NumberedFile) → IsAmong t.files x → head_at t.files x.0 ≡ Some x.1
  file_found x h = among_found nat_cmp nat_cmp_total numbers_exact t.files x a.files.0 h

  pub nodes : first_wrong (is_named_back t) t.nodes ≡ None
  nodes = none_wrong (is_named_back t) t.nodes (λ x h.
      ap (λ (o : Option FileHead). is_kind_directory x.1.kind || names_back x.1.kind x.0 o) (sym (heads_are t items a is x.1.file))
      ∙ d.tree_rules.nodes x.0 x.1 (nodes_are t items is x.0 ∙ node_found x h))

  named : (f : ℕ) (kind : NodeKind) (n : ℕ) → names_file_in_tables t f kind n ≡ (eqb n 0 || is_named_as kind f (node_of items n))
  named f kind n = ap (λ (o : Option Node). eqb n 0 || is_named_as kind f o) (sym (nodes_are t items is n))

  pub names : first_wrong (has_names t) t.files ≡ None
  names = none_wrong (has_names t) t.files (λ x h.
      let there = heads_are t items a is x.0 ∙ file_found x h in
      and_from (names_file_in_tables t x.0 System x.1.system) (names_file_in_tables t x.0 Alias x.1.alias)
      (named x.0 System x.1.system ∙ d.tree_rules.system x.0 x.1 there)
      (named x.0 Alias x.1.alias ∙ d.tree_rules.alias x.0 x.1 there))

  pub infos : first_unknown t r.entries ≡ None
  infos = none_unknown (has_info t) r.entries
      (same_all (has_info t) (images.has_info_in_items items) r.entries (λ e. ap (is_birth e.birth) (sym (infos_are t items is e.number))) ∙ d.disks)
