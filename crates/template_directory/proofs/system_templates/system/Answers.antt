use Rattle.std.proofs.Common.{refl}
use Rattle.asm_group.specs.Names.{is_part}
use Rattle.template_directory.proofs.system_templates.system.Goals as goal

pub add-requires : goal.add-requires
unfolding is_part
add-requires c = refl

pub add-requires-2 : goal.add-requires-2
unfolding is_part
add-requires-2 c = refl

pub add-requires-3 : goal.add-requires-3
unfolding is_part
add-requires-3 c = refl

pub add-requires-4 : goal.add-requires-4
unfolding is_part
add-requires-4 c = refl

pub add-requires-5 : goal.add-requires-5
unfolding is_part
add-requires-5 c = refl

pub add-requires-6 : goal.add-requires-6
unfolding is_part
add-requires-6 c = refl

pub add-requires-7 : goal.add-requires-7
unfolding is_part
add-requires-7 c = refl

pub add-requires-8 : goal.add-requires-8
unfolding is_part
add-requires-8 c = refl

pub add-requires-9 : goal.add-requires-9
unfolding is_part
add-requires-9 c = refl

pub add-requires-10 : goal.add-requires-10
unfolding is_part
add-requires-10 c = refl

pub add-requires-11 : goal.add-requires-11
unfolding is_part
add-requires-11 c = refl

pub add-requires-12 : goal.add-requires-12
unfolding is_part
add-requires-12 c = refl

pub add-requires-13 : goal.add-requires-13
unfolding is_part
add-requires-13 c = refl
