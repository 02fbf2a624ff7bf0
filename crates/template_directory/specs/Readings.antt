-- What is tested of templates besides their number.
use Rattle.std.specs.Prelude.{Bool, ◌&&◌, List}
use Rattle.std.specs.List.{list_all}
use Rattle.asm_group.specs.Group.{Template}
use Rattle.asm_formats.specs.Items.{is_template, names_ascend}

unfoldable pub are_right : List Template → Bool
are_right ts = list_all is_template ts && names_ascend ts
