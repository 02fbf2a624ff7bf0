-- The grammar of verbs: one row for each verb. Words are parted by spaces or tabs, and a verb ends with its line.
use Rattle.std.specs.Prelude.{◌≡◌, ℕ, true, List, [], ◌∷◌, codes}
use Rattle.asm_grammar.specs.Argument.{Kind, Exact, Text, PlainName, PlainNumber, Sized, GroupPath, NotLong, PartPattern, HostPath, HexBytes, HexByte}
use Rattle.asm_grammar.specs.Word.{Argument, End}
use Rattle.asm_grammar.specs.Syntax.{SyntaxRule, One, Maybe}
use Rattle.asm_grammar.specs.Reading.{decides}
use Rattle.asm_grammar.specs.Writing.{all_can_spell}
use Rattle.asm_world.specs.Grammar.{◌▸◌, ◌∣◌}

abbrev pub argument : Kind → SyntaxRule
argument k = One (Argument k)

-- the word as it stands, in lower case
abbrev pub verb_word : List ℕ → SyntaxRule
verb_word bytes = argument (Exact bytes)

abbrev pub path : SyntaxRule
path = argument (Text GroupPath)

abbrev pub outside : SyntaxRule
outside = argument (Text HostPath)

abbrev pub name : SyntaxRule
name = argument (Text PlainName)

abbrev pub size : SyntaxRule
size = argument Sized

abbrev pub number : SyntaxRule
number = argument PlainNumber

-- dbcreate P size [N]
abbrev pub db_create : SyntaxRule
db_create = verb_word (codes "dbcreate") ▸ path ▸ size ▸ Maybe name

-- dbwrite P at hex
abbrev pub db_write : SyntaxRule
db_write = verb_word (codes "dbwrite") ▸ path ▸ size ▸ argument HexBytes

-- dbfill P at size hh
abbrev pub db_fill : SyntaxRule
db_fill = verb_word (codes "dbfill") ▸ path ▸ size ▸ size ▸ argument HexByte

-- dbread P at size
abbrev pub db_read : SyntaxRule
db_read = verb_word (codes "dbread") ▸ path ▸ size ▸ size

-- dbresize P size
abbrev pub db_resize : SyntaxRule
db_resize = verb_word (codes "dbresize") ▸ path ▸ size

abbrev pub files : SyntaxRule
files = db_create ∣ db_write ∣ db_fill ∣ db_read ∣ db_resize

-- ls [-l] [P], where P isn't -l
abbrev pub ls : SyntaxRule
ls = verb_word (codes "ls") ▸ Maybe (verb_word (codes "-l")) ▸ Maybe (argument (Text NotLong))

-- cp P Q, of which one at most is outside
abbrev pub cp : SyntaxRule
cp = verb_word (codes "cp") ▸ (path ▸ (path ∣ outside) ∣ outside ▸ path)

-- du [P]
abbrev pub du : SyntaxRule
du = verb_word (codes "du") ▸ Maybe path

-- find P pattern
abbrev pub find : SyntaxRule
find = verb_word (codes "find") ▸ path ▸ argument (Text PartPattern)

-- ls, cd P, pwd, mkdir P, rm P, cp, du, find, mkalias P Q, rmalias P
abbrev pub names : SyntaxRule
names = ls
    ∣ verb_word (codes "cd") ▸ path
    ∣ verb_word (codes "pwd")
    ∣ verb_word (codes "mkdir") ▸ path
    ∣ verb_word (codes "rm") ▸ path
    ∣ cp
    ∣ du
    ∣ find
    ∣ verb_word (codes "mkalias") ▸ path ▸ path
    ∣ verb_word (codes "rmalias") ▸ path

-- lsdg [N], lsdsk N, lstmpl N, lsattr N
abbrev pub reports : SyntaxRule
reports = verb_word (codes "lsdg") ▸ Maybe name
    ∣ verb_word (codes "lsdsk") ▸ name
    ∣ verb_word (codes "lstmpl") ▸ name
    ∣ verb_word (codes "lsattr") ▸ name

-- offline N N, online N N, rebal N power
abbrev pub disks : SyntaxRule
disks = verb_word (codes "offline") ▸ name ▸ name
    ∣ verb_word (codes "online") ▸ name ▸ name
    ∣ verb_word (codes "rebal") ▸ name ▸ number

abbrev pub verb : SyntaxRule
verb = files ∣ names ∣ reports ∣ disks

-- The next word decides at each place of a verb.
abbrev pub VerbsAreDecided : Type 0
VerbsAreDecided = decides verb (End ∷ []) ≡ true

-- Each word of the grammar has a spelling.
abbrev pub VerbsSpell : Type 0
VerbsSpell = all_can_spell verb ≡ true
