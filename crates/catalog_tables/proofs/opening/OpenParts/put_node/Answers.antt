use Rattle.std.proofs.Common.{◌≡◌, ℕ, cond, None, Some, ap, sym, subst, ◌∙◌}
use Rattle.std.specs.Ordering.{nat_cmp}
use Rattle.std.specs.BTreeMap.{is_at}
use Rattle.asm_formats.specs.Items.{Key}
use Rattle.alias_tree.specs.Opening.{node_value_at}
use Rattle.catalog_tables.proofs.SetLaws.{node_taken}
use Rattle.catalog_tables.specs.Changing.{tables_of}
use Rattle.catalog_tables.proofs.opening.OpenParts.put_node.Goals as goal

pub returns-clause-put : goal.returns-clause-put
returns-clause-put c = node_taken c.taken.result c.in_ok-put_record.field-0 (tables_of c.args.self.now) c.remove_record.new.self c.put_record.new.self c.args.key (Some c.args.value.now) c.requires.kind (ap (λ (k : Key). k.b) (sym c.key.view_is) ∙ c.if-key-ne0.false) c.taken.ensures (subst (λ (k : Key). (n : ℕ) → node_value_at c.remove_record.new.self n ≡ cond (is_at (nat_cmp k.a) n) None (node_value_at c.args.self.now.tree n)) c.key.view_is c.remove_record.ensures) c.in_ok-put_record.ensures.put
