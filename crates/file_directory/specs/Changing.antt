-- What a change of records does to the table of files.
use Rattle.std.specs.Prelude.{ℕ, List, Option}
use Rattle.std.specs.Ordering.{nat_cmp}
use Rattle.item_table.specs.Tables.{bytes_at}
use Rattle.file_directory.specs.Files.{NumberedFile, item_of_file_head}

-- the value of the record of a file
abbrev pub file_value_at : List NumberedFile → ℕ → Option (List ℕ)
file_value_at files f = bytes_at nat_cmp item_of_file_head files f
