-- The homes of an extent's three copies, as fields and as a list.
use Rattle.std.specs.Prelude.{[], ◌∷◌, Option, None}
use Rattle.asm_formats.specs.Items.{Home, Homes}

-- the home of the first, second and third copy
abbrev pub first_home : Homes → Option Home
first_home [] = None
first_home (a ∷ homes) = a

abbrev pub second_home : Homes → Option Home
second_home [] = None
second_home (a ∷ homes) = first_home homes

abbrev pub third_home : Homes → Option Home
third_home [] = None
third_home (a ∷ homes) = second_home homes
