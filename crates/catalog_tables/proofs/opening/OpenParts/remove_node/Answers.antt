use Rattle.std.proofs.Common.{◌≡◌, ℕ, cond, None, subst}
use Rattle.std.specs.Ordering.{nat_cmp}
use Rattle.std.specs.BTreeMap.{is_at}
use Rattle.asm_formats.specs.Items.{Key}
use Rattle.alias_tree.specs.Opening.{node_value_at}
use Rattle.catalog_tables.proofs.SetLaws.{nodes_set, place_of_node}
use Rattle.catalog_tables.specs.Changing.{tables_of}
use Rattle.catalog_tables.proofs.opening.OpenParts.remove_node.Goals as goal

pub returns-clause-gone : goal.returns-clause-gone
returns-clause-gone c = nodes_set (tables_of c.args.self.now) c.remove_record.new.self c.args.key None c.requires.kind (place_of_node c.args.key c.requires.kind c.requires.place) (subst (λ (k : Key). (n : ℕ) → node_value_at c.remove_record.new.self n ≡ cond (is_at (nat_cmp k.a) n) None (node_value_at c.args.self.now.tree n)) c.key.view_is c.remove_record.ensures)
