-- The script of --generate.
use Rattle.std.specs.Prelude.{ℕ, zero, suc, ◌+◌, ◌*◌, ◌/◌, ◌%◌, ◌^◌, List, [], ◌∷◌, ◌++◌, map, codes}
use Rattle.std.specs.Fmt.{decimal}
use Rattle.asm_group.specs.Names.{Bytes}
use Rattle.asm_world.specs.Text.{hex, ended}

-- the next of the numbers by which bytes and places are chosen
abbrev pub next_choice : ℕ → ℕ
next_choice x = (x * 6364136223846793005 + 1442695040888963407) % 2 ^ 64

abbrev pub after_choices : ℕ → ℕ → ℕ
after_choices zero x = x
after_choices (suc n) x = after_choices n (next_choice x)

abbrev pub quoted : Bytes → Bytes
quoted path = 39 ∷ path ++ 39 ∷ []

abbrev pub create_image : Bytes → Bytes
create_image path = codes "CREATE DISK " ++ quoted path ++ codes " SIZE 64M;"

abbrev pub with_commas : List Bytes → Bytes
with_commas [] = []
with_commas (text ∷ []) = text
with_commas (text ∷ next ∷ texts) = text ++ codes ", " ++ with_commas (next ∷ texts)

abbrev pub create_group : List Bytes → Bytes
create_group paths = codes "CREATE DISKGROUP DATA DISK " ++ with_commas (map quoted paths) ++ codes ";"

-- the megabytes of file k
abbrev pub megabytes : ℕ → ℕ
megabytes k = 1 + k % 4

abbrev pub create_file : ℕ → Bytes
create_file k = codes "dbcreate +DATA/gen/DATAFILE/f" ++ decimal k ++ codes " " ++ decimal (megabytes k) ++ codes "M"

-- the numbers below n
abbrev pub from_zero : ℕ → List ℕ
from_zero zero = []
from_zero (suc n) = from_zero n ++ n ∷ []

-- one sector of one file is filled with one byte
abbrev pub fill_command : ℕ → Bytes
fill_command x =
    let k : ℕ = x / 2 ^ 33 % 16 in
    let sector : ℕ = x / 2 ^ 13 % (megabytes k * 2048) in
    codes "dbfill +DATA/gen/DATAFILE/f" ++ decimal k ++ codes "." ++ decimal (256 + k) ++ codes "." ++ decimal (k + 1)
    ++ codes " " ++ decimal (sector * 512) ++ codes " 512 " ++ hex (x / 2 ^ 50 % 256)

-- so many fills, by this number and those after it
abbrev pub fills : ℕ → ℕ → List Bytes
fills zero x = []
fills (suc n) x = fill_command x ∷ fills n (next_choice x)

-- the commands for a number and four images
abbrev pub generated : ℕ → List Bytes → List Bytes
generated number paths =
    map create_image paths
    ++ create_group paths
    ∷ map create_file (from_zero 16)
    ++ fills 500 (next_choice number)
    ++ codes "ALTER DISKGROUP DATA DROP DISK DATA_0003 REBALANCE POWER 4;"
    ∷ fills 500 (after_choices 501 number)
    ++ codes "lsdg" ∷ []

-- a command a line
abbrev pub generated_script : ℕ → List Bytes → Bytes
generated_script number paths = ended (generated number paths)
