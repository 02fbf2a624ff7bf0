-- The grammar of statements: one row for each form. Where forms begin with the same words, these stand once, before a choice.
use Rattle.std.specs.Prelude.{◌≡◌, ℕ, true, List, [], ◌∷◌, codes}
use Rattle.asm_grammar.specs.Word.{Word, Keyword, Mark, Name, Number, Size, Minutes, Quoted}
use Rattle.asm_grammar.specs.Syntax.{SyntaxRule, One, Then, Either, Maybe, Many}
use Rattle.asm_grammar.specs.Reading.{decides}
use Rattle.asm_grammar.specs.Writing.{all_can_spell}

infixr 20 ◌▸◌
abbrev pub ◌▸◌ : SyntaxRule → SyntaxRule → SyntaxRule
a ▸ b = Then a b

infixr 15 ◌∣◌
abbrev pub ◌∣◌ : SyntaxRule → SyntaxRule → SyntaxRule
a ∣ b = Either a b

abbrev pub key : List ℕ → SyntaxRule
key bytes = One (Keyword bytes)

abbrev pub comma : SyntaxRule
comma = One (Mark 44)

abbrev pub opening : SyntaxRule
opening = One (Mark 40)

abbrev pub closing : SyntaxRule
closing = One (Mark 41)

abbrev pub equals : SyntaxRule
equals = One (Mark 61)

abbrev pub name : SyntaxRule
name = One Name

abbrev pub number : SyntaxRule
number = One Number

abbrev pub size : SyntaxRule
size = One Size

abbrev pub minutes : SyntaxRule
minutes = One Minutes

abbrev pub path : SyntaxRule
path = One Quoted

-- one, and others behind commas
abbrev pub listed : SyntaxRule → SyntaxRule
listed one = one ▸ Many (comma ▸ one)

-- [FORCE | NOFORCE]
abbrev pub forced : SyntaxRule
forced = Maybe (key (codes "FORCE") ∣ key (codes "NOFORCE"))

-- [WAIT | NOWAIT]
abbrev pub waiting : SyntaxRule
waiting = Maybe (key (codes "WAIT") ∣ key (codes "NOWAIT"))

-- QUORUM | REGULAR
abbrev pub group_word : SyntaxRule
group_word = key (codes "QUORUM") ∣ key (codes "REGULAR")

-- path [NAME name] [SIZE size] [FORCE | NOFORCE]
abbrev pub disk : SyntaxRule
disk = path ▸ Maybe (key (codes "NAME") ▸ name) ▸ Maybe (key (codes "SIZE") ▸ size) ▸ forced

-- [QUORUM | REGULAR] [FAILGROUP name] DISK disk {, disk}
abbrev pub failgroup : SyntaxRule
failgroup = Maybe group_word ▸ Maybe (key (codes "FAILGROUP") ▸ name) ▸ key (codes "DISK") ▸ listed disk

-- fg {fg}
abbrev pub failgroups : SyntaxRule
failgroups = failgroup ▸ Many failgroup

-- 'text' = 'text'
abbrev pub attribute : SyntaxRule
attribute = path ▸ equals ▸ path

-- REBALANCE [POWER number] [WAIT | NOWAIT]
abbrev pub rebalance : SyntaxRule
rebalance = key (codes "REBALANCE") ▸ Maybe (key (codes "POWER") ▸ number) ▸ waiting

-- IN [QUORUM | REGULAR] FAILGROUP name
abbrev pub in_failgroup : SyntaxRule
in_failgroup = key (codes "IN") ▸ Maybe group_word ▸ key (codes "FAILGROUP") ▸ name

abbrev pub redundancy : SyntaxRule
redundancy = key (codes "UNPROTECTED") ∣ key (codes "MIRROR") ∣ key (codes "HIGH")

abbrev pub stripe : SyntaxRule
stripe = key (codes "COARSE") ∣ key (codes "FINE")

-- one word of one kind and at most one of the other, in either order
abbrev pub template_words : SyntaxRule
template_words = redundancy ▸ Maybe stripe ∣ stripe ▸ Maybe redundancy

-- TEMPLATE name ATTRIBUTES ( word [word] )
abbrev pub template : SyntaxRule
template = key (codes "TEMPLATE") ▸ name ▸ key (codes "ATTRIBUTES") ▸ opening ▸ template_words ▸ closing

abbrev pub added : SyntaxRule
added = (failgroups ▸ Maybe rebalance
    ∣ template
    ∣ key (codes "DIRECTORY") ▸ path
    ∣ key (codes "ALIAS") ▸ path ▸ key (codes "FOR") ▸ path)

abbrev pub add : SyntaxRule
add = key (codes "ADD") ▸ added

abbrev pub dropped : SyntaxRule
dropped = (key (codes "DISK") ▸ listed (name ▸ forced) ▸ Maybe rebalance
    ∣ key (codes "DISKS") ▸ in_failgroup ▸ forced ▸ Maybe rebalance
    ∣ key (codes "TEMPLATE") ▸ name
    ∣ key (codes "DIRECTORY") ▸ path
    ∣ key (codes "ALIAS") ▸ path
    ∣ key (codes "FILE") ▸ path)

abbrev pub drop : SyntaxRule
drop = key (codes "DROP") ▸ dropped

abbrev pub undrop : SyntaxRule
undrop = key (codes "UNDROP") ▸ key (codes "DISKS")

abbrev pub resize : SyntaxRule
resize = key (codes "RESIZE") ▸ (key (codes "ALL") ∣ key (codes "DISK") ▸ name) ▸ Maybe (key (codes "SIZE") ▸ size) ▸ Maybe rebalance

abbrev pub check : SyntaxRule
check = key (codes "CHECK") ▸ Maybe (key (codes "REPAIR") ∣ key (codes "NOREPAIR"))

abbrev pub mount : SyntaxRule
mount = key (codes "MOUNT") ▸ forced

abbrev pub dismount : SyntaxRule
dismount = key (codes "DISMOUNT") ▸ forced

-- DISK name {, name} | DISKS IN [QUORUM | REGULAR] FAILGROUP name
abbrev pub some_disks : SyntaxRule
some_disks = key (codes "DISK") ▸ listed name ∣ key (codes "DISKS") ▸ in_failgroup

abbrev pub online : SyntaxRule
online = key (codes "ONLINE") ▸ (key (codes "ALL") ∣ some_disks) ▸ waiting

abbrev pub offline : SyntaxRule
offline = key (codes "OFFLINE") ▸ some_disks ▸ Maybe (key (codes "DROP") ▸ key (codes "AFTER") ▸ minutes)

abbrev pub modify : SyntaxRule
modify = (key (codes "MODIFY") ∣ key (codes "ALTER")) ▸ template

abbrev pub rename : SyntaxRule
rename = key (codes "RENAME") ▸ (key (codes "DIRECTORY") ∣ key (codes "ALIAS")) ▸ path ▸ key (codes "TO") ▸ path

abbrev pub set_attribute : SyntaxRule
set_attribute = key (codes "SET") ▸ key (codes "ATTRIBUTE") ▸ attribute

abbrev pub clause : SyntaxRule
clause = add ∣ drop ∣ undrop ∣ resize ∣ rebalance ∣ check ∣ mount ∣ dismount ∣ online ∣ offline ∣ modify ∣ rename ∣ set_attribute

-- DISK path SIZE size
abbrev pub create_disk : SyntaxRule
create_disk = key (codes "DISK") ▸ path ▸ key (codes "SIZE") ▸ size

abbrev pub kind : SyntaxRule
kind = key (codes "EXTERNAL") ∣ key (codes "NORMAL") ∣ key (codes "HIGH")

-- DISKGROUP name [(EXTERNAL | NORMAL | HIGH) REDUNDANCY] groups [ATTRIBUTE attr {, attr}]
abbrev pub create_group : SyntaxRule
create_group = key (codes "DISKGROUP") ▸ name
    ▸ Maybe (kind ▸ key (codes "REDUNDANCY"))
    ▸ failgroups ▸ Maybe (key (codes "ATTRIBUTE") ▸ listed attribute)

-- DISKGROUP name [(INCLUDING | EXCLUDING) CONTENTS]
abbrev pub drop_group : SyntaxRule
drop_group = key (codes "DISKGROUP") ▸ name ▸ Maybe ((key (codes "INCLUDING") ∣ key (codes "EXCLUDING")) ▸ key (codes "CONTENTS"))

-- A statement without the semicolon that ends it.
abbrev pub statement : SyntaxRule
statement = key (codes "CREATE") ▸ (create_disk ∣ create_group)
    ∣ key (codes "DROP") ▸ drop_group
    ∣ key (codes "ALTER") ▸ key (codes "DISKGROUP") ▸ name ▸ clause

abbrev pub semicolon : Word
semicolon = Mark 59

-- The next word decides at each place of a statement.
abbrev pub StatementsAreDecided : Type 0
StatementsAreDecided = decides statement (semicolon ∷ []) ≡ true

-- Each word of the grammar has a spelling.
abbrev pub StatementsSpell : Type 0
StatementsSpell = all_can_spell statement ≡ true
