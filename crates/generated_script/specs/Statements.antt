-- The statements that create the disks and the group, each with its line feed.
use Rattle.std.specs.Prelude.{List, [], ◌∷◌, ◌++◌}
use Rattle.asm_group.specs.Names.{Bytes}
use Rattle.asm_world.specs.Generator.{create_group, create_image}

unfoldable pub image_line : Bytes → Bytes
image_line path = create_image path ++ 10 ∷ []

unfoldable pub create_group_line : List Bytes → Bytes
create_group_line paths = create_group paths ++ 10 ∷ []
