-- What the rules of a record look at.
use Rattle.std.specs.Prelude.{ℕ, Bool, ◌&&◌, List, map, Option, Some, None, if◌then◌else◌}
use Rattle.std.specs.List.{list_all}
use Rattle.std.specs.Option.{option_and_then}
use Rattle.asm_formats.specs.Status.{Entry, Status, is_entry, ascends_from, have_entries, is_status}

abbrev pub number_of_entry : Entry → ℕ
number_of_entry e = e.number

-- the record that is read, where it is of the format
abbrev pub right_status : Option Status → Option Status
right_status read = option_and_then (λ r. if is_status r then Some r else None) read

-- the tests of a record's entries, holders, next holders and directory copies
abbrev pub passes : List Entry → ℕ → ℕ → ℕ → Bool
passes es holders next_holders directories =
    list_all is_entry es && (ascends_from 0 (map number_of_entry es) && (have_entries es holders && (have_entries es next_holders && have_entries es directories)))
