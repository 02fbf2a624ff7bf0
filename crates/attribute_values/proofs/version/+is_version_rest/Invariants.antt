use Rattle.attribute_values.proofs.version.+is_version_rest.Given as goal

abbrev pub decreases-is_version_rest : goal.decreases-is_version_rest
decreases-is_version_rest l = l.parts
