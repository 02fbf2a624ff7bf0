-- What the redundancy of a template says.
use Rattle.asm_base.specs.declared.kinds.Redundancy.{Redundancy}
use Rattle.asm_base.specs.declared.kinds.Redundancy.TheVariants as redundancy
use Rattle.asm_world.specs.Statement as s

abbrev pub redundancy_said : Redundancy → s.Redundancy
redundancy_said redundancy.Unprotected = s.Unprotected
redundancy_said redundancy.Mirror = s.Mirror
redundancy_said redundancy.High = s.High
