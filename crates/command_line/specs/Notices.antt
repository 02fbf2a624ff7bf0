-- Which words ask for help or for the version.
use Rattle.std.specs.Prelude.{◌||◌, Option, Some, None, List, [], ◌∷◌, if◌then◌else◌, codes}
use Rattle.std.specs.Str.{bytes_eq}
use Rattle.command_line.specs.Paths.{WordBytes}
use Rattle.command_line.specs.declared.help.Notice.{Notice}
use Rattle.command_line.specs.declared.help.Notice.TheVariants.{Help, Version}

abbrev pub notice_of : WordBytes → Option Notice
notice_of word = if bytes_eq word (codes "--help") || bytes_eq word (codes "-h") then Some Help
    else if bytes_eq word (codes "--version") || bytes_eq word (codes "-V") then Some Version
    else None

-- the only word asks
abbrev pub notice_for : List WordBytes → Option Notice
notice_for (word ∷ []) = notice_of word
notice_for _ = None
