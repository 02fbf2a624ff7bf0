-- How the generator's text is cut into commands.
use Rattle.std.proofs.Common.{◌≡◌, ◌==◌, ◌||◌, ℕ, zero, suc, ◌+◌, ◌*◌, ◌/◌, ◌%◌, ◌<◌, Bool, true, false, List, [], ◌∷◌, ◌++◌, map, refl, sym, ◌∙◌, ap, subst, append_assoc, arith, codes}
use Rattle.std.proofs.lemmas.Bool.{eqb-true}
use Rattle.std.proofs.lemmas.List.Folds.{list_any-append}
use Rattle.std.specs.Fmt.{decimal, digits, digit_glyph, digits_onto}
use Rattle.std.specs.List.{list_any}
use Rattle.std.specs.Prelude.{⊤, nat_lt}
use Rattle.asm_group.specs.Names.{Bytes}
use Rattle.asm_world.specs.Generator.{after_choices, create_file, create_group, create_image, fill_command, fills, from_zero, generated, generated_script, megabytes, next_choice, quoted, with_commas}
use Rattle.asm_world.specs.Text.{ended, hex, hex_digit}
use Rattle.script.specs.Script as script
use Rattle.serving.specs.asm_grammar.FirstWord.{opens_statement}
use Rattle.script.specs.Script.{ScriptPlace, between, line, in_statement, place_of_first_byte, onto, onto_at, cut, commands_of}
use Rattle.script.specs.Scanning.{onto_all}
use Rattle.script.proofs.Cutting.{on_test, quote-begins, quote-goes_on, statement-goes_on}

-- ---- bytes that a text hasn't

abbrev Lacks : ℕ → List ℕ → Type 0
Lacks x text = list_any (λ b. b == x) text ≡ false

or-left : (a b : Bool) → (a || b) ≡ false → a ≡ false
or-left false b is = refl
or-left true b is = is

or-right : (a b : Bool) → (a || b) ≡ false → b ≡ false
or-right false b is = is
or-right true false is = refl
or-right true true is = is

or-both : (a b : Bool) → a ≡ false → b ≡ false → (a || b) ≡ false
or-both false b p q = q
or-both true b p q = p

lacks-append : (x : ℕ) (s t : List ℕ) → Lacks x s → Lacks x t → Lacks x (s ++ t)
lacks-append x s t p q = list_any-append (λ b. b == x) s t ∙ or-both (list_any (λ b. b == x) s) (list_any (λ b. b == x) t) p q

not-feed : (n : ℕ) → 10 < n → (n == 10) ≡ false
not-feed n big = on_test (n == 10) (λ t. absurd (omega (arith, eqb-true n 10 t, big))) (λ f. f)

glyph-not_feed : (d : ℕ) → (digit_glyph false d == 10) ≡ false
glyph-not_feed d = on_test (nat_lt d 10) (λ t. rw t (not-feed (48 + d) (omega arith))) (λ f. rw f (not-feed (87 + d) (omega arith)))

hex-not_feed : (d : ℕ) → (hex_digit d == 10) ≡ false
hex-not_feed d = on_test (nat_lt d 10) (λ t. rw t (not-feed (d + 48) (omega arith))) (λ f. rw f (not-feed (d + 87) (omega arith)))

digits-lack : (k n : ℕ) (text : List ℕ) → Lacks 10 text → Lacks 10 (digits_onto k 10 false n text)
digits-lack zero n text lacks = lacks
digits-lack (suc k) n text lacks =
    let more : Lacks 10 (digit_glyph false (n % 10) ∷ text) = or-both _ _ (glyph-not_feed (n % 10)) lacks in
    on_test (n / 10 == 0) (λ t. rw t more) (λ f. rw f (digits-lack k (n / 10) (digit_glyph false (n % 10) ∷ text) more))

decimal-lacks : (n : ℕ) → Lacks 10 (decimal n)
unfolding digits
decimal-lacks n = digits-lack 64 n [] refl

hex-lacks : (n : ℕ) → Lacks 10 (hex n)
hex-lacks n = or-both _ _ (hex-not_feed (n / 16)) (or-both _ _ (hex-not_feed (n % 16)) refl)

-- ---- one command, and its line feed

-- between commands it is the first, whatever follows its line feed
abbrev IsCut : Bytes → Type 0
IsCut text = (rest : List ℕ) → cut true between (text ++ 10 ∷ rest) ≡ text ∷ cut true between rest

begins : (b : ℕ) (bs : List ℕ) (place : ScriptPlace) → place_of_first_byte (b ∷ bs) ≡ place → cut true between (b ∷ bs) ≡ onto_at place b (cut true place bs)
unfolding cut
begins b bs place is = ap (λ p. onto_at p b (cut true p bs)) is

line-cut : (text rest : List ℕ) → Lacks 10 text → cut true line (text ++ 10 ∷ rest) ≡ text ∷ cut true between rest
unfolding cut
line-cut [] rest lacks = refl
line-cut (b ∷ bs) rest lacks = rw (or-left (b == 10) _ lacks) (ap (onto b) (line-cut bs rest (or-right (b == 10) _ lacks)))

verb-cut : (text : Bytes) → ((rest : List ℕ) → place_of_first_byte (text ++ 10 ∷ rest) ≡ line) → Lacks 10 text → IsCut text
verb-cut [] at lacks rest = absurd (let e : between ≡ line = at rest in cc)
verb-cut (b ∷ bs) at lacks rest = begins b (bs ++ 10 ∷ rest) line (at rest) ∙ ap (onto b) (line-cut bs rest (or-right (b == 10) _ lacks))

-- ---- statements

-- it stands in a statement, and ends outside of quotes
abbrev IsFront : List ℕ → Type 0
IsFront text = (rest : List ℕ) → cut true in_statement (text ++ rest) ≡ onto_all text (cut true in_statement rest)

onto-append : (s t : List ℕ) (commands : List Bytes) → onto_all (s ++ t) commands ≡ onto_all s (onto_all t commands)
unfolding onto_all
onto-append [] t commands = refl
onto-append (b ∷ s) t commands = ap (onto b) (onto-append s t commands)

onto-first : (text command : List ℕ) (commands : List Bytes) → onto_all text (command ∷ commands) ≡ (text ++ command) ∷ commands
unfolding onto_all
onto-first [] command commands = refl
onto-first (b ∷ text) command commands = ap (onto b) (onto-first text command commands)

front-none : IsFront []
unfolding onto_all
front-none rest = refl

front-append : (s t : List ℕ) → IsFront s → IsFront t → IsFront (s ++ t)
front-append s t p q rest = ap (cut true in_statement) (append_assoc s t rest) ∙ p (t ++ rest) ∙ ap (onto_all s) (q rest) ∙ sym (onto-append s t (cut true in_statement rest))

front-plain : (text : List ℕ) → Lacks 39 text → Lacks 59 text → IsFront text
unfolding onto_all
front-plain [] quote mark rest = refl
front-plain (b ∷ bs) quote mark rest =
    statement-goes_on b bs (or-left (b == 39) _ quote) (or-left (b == 59) _ mark) true rest ∙ ap (onto b) (front-plain bs (or-right (b == 39) _ quote) (or-right (b == 59) _ mark) rest)

inside : (text rest : List ℕ) → Lacks 39 text → cut true script.in_quotes (text ++ 39 ∷ rest) ≡ onto_all text (onto 39 (cut true in_statement rest))
unfolding cut onto_all
inside [] rest lacks = refl
inside (b ∷ bs) rest lacks = quote-goes_on b bs (or-left (b == 39) _ lacks) true (39 ∷ rest) ∙ ap (onto b) (inside bs rest (or-right (b == 39) _ lacks))

front-quoted : (path : Bytes) → Lacks 39 path → IsFront (quoted path)
unfolding onto_all
front-quoted path lacks rest =
    quote-begins (path ++ 39 ∷ []) true rest
    ∙ ap (onto 39) (ap (cut true script.in_quotes) (append_assoc path (39 ∷ []) rest) ∙ inside path rest lacks ∙ sym (onto-append path (39 ∷ []) (cut true in_statement rest)))

ends : (text rest : List ℕ) → IsFront text → cut true in_statement (text ++ 59 ∷ rest) ≡ (text ++ 59 ∷ []) ∷ cut true between rest
unfolding cut
ends text rest front = front (59 ∷ rest) ∙ onto-first text (59 ∷ []) (cut true between rest)

feed-skips : (rest : List ℕ) → cut true between (10 ∷ rest) ≡ cut true between rest
unfolding cut
feed-skips rest = refl

statement-cut : (b : ℕ) (bs : List ℕ) → IsFront bs → ((rest : List ℕ) → place_of_first_byte (b ∷ (bs ++ 59 ∷ []) ++ rest) ≡ in_statement) → IsCut (b ∷ (bs ++ 59 ∷ []))
statement-cut b bs front at rest =
    begins b ((bs ++ 59 ∷ []) ++ 10 ∷ rest) in_statement (at (10 ∷ rest))
    ∙ ap (onto b) (ap (cut true in_statement) (append_assoc bs (59 ∷ []) (10 ∷ rest)) ∙ ends bs (10 ∷ rest) front ∙ ap (λ commands. (bs ++ 59 ∷ []) ∷ commands) (feed-skips rest))

-- ---- the commands

image-cut : (path : Bytes) → Lacks 39 path → IsCut (create_image path)
unfolding opens_statement
image-cut path lacks =
    let front = front-append (codes "REATE DISK " ++ quoted path) (codes " SIZE 64M") (front-append (codes "REATE DISK ") (quoted path) (front-plain (codes "REATE DISK ") refl refl) (front-quoted path lacks))
    (front-plain (codes " SIZE 64M") refl refl) in
    subst IsCut (append_assoc (codes "CREATE DISK " ++ quoted path) (codes " SIZE 64M") (59 ∷ [])) (statement-cut 67 (codes "REATE DISK " ++ quoted path ++ codes " SIZE 64M") front (λ rest. refl))

front-commas : (paths : List Bytes) → list_any (λ path. list_any (λ byte. byte == 39) path) paths ≡ false → IsFront (with_commas (map quoted paths))
front-commas [] none = front-none
front-commas (path ∷ []) none = front-quoted path (or-left _ _ none)
front-commas (path ∷ next ∷ paths) none =
    front-append (quoted path ++ codes ", ") (with_commas (map quoted (next ∷ paths)))
    (front-append (quoted path) (codes ", ") (front-quoted path (or-left (list_any (λ byte. byte == 39) path) _ none)) (front-plain (codes ", ") refl refl))
    (front-commas (next ∷ paths) (or-right (list_any (λ byte. byte == 39) path) _ none))

group-cut : (paths : List Bytes) → list_any (λ path. list_any (λ byte. byte == 39) path) paths ≡ false → IsCut (create_group paths)
unfolding opens_statement
group-cut paths none =
    statement-cut 67 (codes "REATE DISKGROUP DATA DISK " ++ with_commas (map quoted paths))
    (front-append (codes "REATE DISKGROUP DATA DISK ") (with_commas (map quoted paths)) (front-plain (codes "REATE DISKGROUP DATA DISK ") refl refl) (front-commas paths none)) (λ rest. refl)

file-cut : (k : ℕ) → IsCut (create_file k)
unfolding opens_statement
file-cut k = verb-cut (create_file k) (λ rest. refl)
    (lacks-append 10 (codes "dbcreate +DATA/gen/DATAFILE/f" ++ decimal k ++ codes " " ++ decimal (megabytes k)) (codes "M")
    (lacks-append 10 (codes "dbcreate +DATA/gen/DATAFILE/f" ++ decimal k ++ codes " ") (decimal (megabytes k))
    (lacks-append 10 (codes "dbcreate +DATA/gen/DATAFILE/f" ++ decimal k) (codes " ")
    (lacks-append 10 (codes "dbcreate +DATA/gen/DATAFILE/f") (decimal k) refl (decimal-lacks k)) refl) (decimal-lacks (megabytes k))) refl)

-- the text of a fill
filling : (k at byte : ℕ) → Bytes
filling k at byte = codes "dbfill +DATA/gen/DATAFILE/f" ++ decimal k ++ codes "." ++ decimal (256 + k) ++ codes "." ++ decimal (k + 1) ++ codes " " ++ decimal at ++ codes " 512 " ++ hex byte

filling-cut : (k at byte : ℕ) → IsCut (filling k at byte)
unfolding opens_statement filling
filling-cut k at byte = verb-cut (filling k at byte) (λ rest. refl)
    (lacks-append 10 (codes "dbfill +DATA/gen/DATAFILE/f" ++ decimal k ++ codes "." ++ decimal (256 + k) ++ codes "." ++ decimal (k + 1) ++ codes " " ++ decimal at ++ codes " 512 ") (hex byte)
    (lacks-append 10 (codes "dbfill +DATA/gen/DATAFILE/f" ++ decimal k ++ codes "." ++ decimal (256 + k) ++ codes "." ++ decimal (k + 1) ++ codes " " ++ decimal at) (codes " 512 ")
    (lacks-append 10 (codes "dbfill +DATA/gen/DATAFILE/f" ++ decimal k ++ codes "." ++ decimal (256 + k) ++ codes "." ++ decimal (k + 1) ++ codes " ") (decimal at)
    (lacks-append 10 (codes "dbfill +DATA/gen/DATAFILE/f" ++ decimal k ++ codes "." ++ decimal (256 + k) ++ codes "." ++ decimal (k + 1)) (codes " ")
    (lacks-append 10 (codes "dbfill +DATA/gen/DATAFILE/f" ++ decimal k ++ codes "." ++ decimal (256 + k) ++ codes ".") (decimal (k + 1))
    (lacks-append 10 (codes "dbfill +DATA/gen/DATAFILE/f" ++ decimal k ++ codes "." ++ decimal (256 + k)) (codes ".")
    (lacks-append 10 (codes "dbfill +DATA/gen/DATAFILE/f" ++ decimal k ++ codes ".") (decimal (256 + k))
    (lacks-append 10 (codes "dbfill +DATA/gen/DATAFILE/f" ++ decimal k) (codes ".")
    (lacks-append 10 (codes "dbfill +DATA/gen/DATAFILE/f") (decimal k) refl (decimal-lacks k)) refl) (decimal-lacks (256 + k))) refl) (decimal-lacks (k + 1))) refl) (decimal-lacks at)) refl) (hex-lacks byte))

fill-cut : (x : ℕ) → IsCut (fill_command x)
unfolding filling
fill-cut x = filling-cut (x / 8589934592 % 16) (x / 8192 % (megabytes (x / 8589934592 % 16) * 2048) * 512) (x / 1125899906842624 % 256)

drop-cut : IsCut (codes "ALTER DISKGROUP DATA DROP DISK DATA_0003 REBALANCE POWER 4;")
unfolding opens_statement
drop-cut = statement-cut 65 (codes "LTER DISKGROUP DATA DROP DISK DATA_0003 REBALANCE POWER 4")
    (front-plain (codes "LTER DISKGROUP DATA DROP DISK DATA_0003 REBALANCE POWER 4") refl refl) (λ rest. refl)

list-cut : IsCut (codes "lsdg")
unfolding opens_statement
list-cut = verb-cut (codes "lsdg") (λ rest. refl) refl

-- ---- all of them

AllCut : List Bytes → Type 0
AllCut [] = ⊤
AllCut (text ∷ texts) = IsCut text × AllCut texts

all-cut : (texts : List Bytes) → AllCut texts → cut true between (ended texts) ≡ texts
unfolding AllCut cut
all-cut [] all = refl
all-cut (text ∷ texts) all =
    ap (cut true between) (append_assoc text (10 ∷ []) (ended texts)) ∙ all.0 (ended texts) ∙ ap (λ others. text ∷ others) (all-cut texts all.1)

cut-none : AllCut []
unfolding AllCut
cut-none = tt

cut-first : (text : Bytes) (texts : List Bytes) → IsCut text → AllCut texts → AllCut (text ∷ texts)
unfolding AllCut
cut-first text texts p q = (p, q)

cut-both : (xs ys : List Bytes) → AllCut xs → AllCut ys → AllCut (xs ++ ys)
unfolding AllCut
cut-both [] ys p q = q
cut-both (x ∷ xs) ys p q = (p.0, cut-both xs ys p.1 q)

images-cut : (paths : List Bytes) → list_any (λ path. list_any (λ byte. byte == 39) path) paths ≡ false → AllCut (map create_image paths)
images-cut [] none = cut-none
images-cut (path ∷ paths) none =
    let other = list_any (λ byte. byte == 39) path in
    cut-first (create_image path) (map create_image paths) (image-cut path (or-left other _ none)) (images-cut paths (or-right other _ none))

files-cut : (ks : List ℕ) → AllCut (map create_file ks)
files-cut [] = cut-none
files-cut (k ∷ ks) = cut-first (create_file k) (map create_file ks) (file-cut k) (files-cut ks)

fills-cut : (n x : ℕ) → AllCut (fills n x)
fills-cut zero x = cut-none
fills-cut (suc n) x = cut-first (fill_command x) (fills n (next_choice x)) (fill-cut x) (fills-cut n (next_choice x))

parts-cut : (images files early late : List Bytes) (group drop list : Bytes) → AllCut images → AllCut files → AllCut early → AllCut late → IsCut group → IsCut drop → IsCut list
    → AllCut (images ++ group ∷ files ++ early ++ drop ∷ late ++ list ∷ [])
parts-cut images files early late group drop list a b c d e f g =
    cut-both (images ++ group ∷ files ++ early ++ drop ∷ late) (list ∷ [])
    (cut-both (images ++ group ∷ files ++ early) (drop ∷ late)
    (cut-both (images ++ group ∷ files) early (cut-both images (group ∷ files) a (cut-first group files e b)) c) (cut-first drop late f d)) (cut-first list [] g cut-none)

-- The commands of the generator's text are those of the generator, where no path has a single quote.
pub commands-are : (number : ℕ) (paths : List Bytes) → list_any (λ path. list_any (λ byte. byte == 39) path) paths ≡ false → commands_of (generated_script number paths) ≡ generated number paths
commands-are number paths none = all-cut (generated number paths)
    (parts-cut (map create_image paths) (map create_file (from_zero 16)) (fills 500 (next_choice number)) (fills 500 (after_choices 501 number)) (create_group paths)
    (codes "ALTER DISKGROUP DATA DROP DISK DATA_0003 REBALANCE POWER 4;") (codes "lsdg")
    (images-cut paths none) (files-cut (from_zero 16)) (fills-cut 500 (next_choice number)) (fills-cut 500 (after_choices 501 number)) (group-cut paths none) drop-cut list-cut)
