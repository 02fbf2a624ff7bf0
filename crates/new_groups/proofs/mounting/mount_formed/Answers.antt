use Rattle.new_groups.proofs.mounting.mount_formed.Goals as goal

pub returns-in-Ok-clause-made : goal.returns-in-Ok-clause-made
returns-in-Ok-clause-made g c = record {
  catalog = c.in-Ok.catalog;
  is_catalog = c.in-Ok.ensures.catalog;
  shape = c.in-Ok.ensures.shape;
  is = c.mounted_of.ensures.made;
}
