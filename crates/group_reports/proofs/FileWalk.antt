-- The files of a group, one after the other.
use Rattle.std.proofs.Common.{◌≡◌, ℕ, suc, ◌+◌, ◌^◌, ◌<◌, ◌≤◌, Bool, true, false, cond, List, [], ◌∷◌, ◌++◌, inl, inr, refl, sym, ap, ◌∙◌, Ordering, Option, Some, None, arith, append_assoc}
use Rattle.std.specs.Prelude.{IsTrue, filter, flat_map, is_some, nat_le, nat_lt}
use Rattle.std.specs.List.{AllByRecursion}
use Rattle.std.specs.Cmp.{nat_cmp_is}
use Rattle.std.specs.Ordering.{nat_cmp, is_eq, is_lt}
use Rattle.std.specs.declared.cmp.Ordering.TheVariants.{Less, Equal, Greater}
use Rattle.std.proofs.lemmas.Bool.{and_parts, cases_Bool, le-leb, leb-false, leb-true, lt-leb, ltb-true}
use Rattle.std.proofs.lemmas.Cmp.{ranked}
use Rattle.std.proofs.lemmas.List.{append-nil}
use Rattle.asm_group.specs.Names.{Bytes, Path}
use Rattle.asm_formats.specs.Items.{FileHead, is_item}
use Rattle.asm_base.specs.Records.{Ascend}
use Rattle.asm_base.specs.declared.path.Path as code
use Rattle.file_directory.specs.Files.{NumberedFile, IsLeastFrom, IsFileTable, head_at, is_lower_file, is_file_number, item_of_file_head}
use Rattle.catalog_laws.specs.catalog_tables.Faults.{IsCatalog}
use Rattle.catalog_laws.specs.catalog_tables.Tables.{Catalogued, Tables}
use Rattle.group_reports.specs.Files.{files_from, matching_node_path, found_of_file, found_of_files}

-- ---- files above a number

abbrev pub AreAbove : ℕ → List NumberedFile → Type 0
AreAbove n files = AllByRecursion (λ (f : NumberedFile). n < f.0) files

-- no file is below an earlier one
abbrev pub Rise : List NumberedFile → Type 0
Rise [] = Unit {0}
Rise (f ∷ files) = AreAbove f.0 files × Rise files

before : (m n : ℕ) → is_lower_file m n ≡ true → m < n
before m n e = by (nat_cmp m n) refl e
  where
    by : (o : Ordering) → nat_cmp m n ≡ o → is_lt o ≡ true → m < n
    by Less is e = ranked m n Less (sym is)
    by Equal is e = absurd cc
    by Greater is e = absurd cc

raised : (m n : ℕ) (files : List NumberedFile) → m ≤ n → AreAbove n files → AreAbove m files
raised m n [] le above = tt
raised m n (f ∷ files) le above = (omega (arith, le, above.0), raised m n files le above.1)

pub rises : (files : List NumberedFile) → Ascend is_lower_file files → Rise files
rises [] up = tt
rises (f ∷ []) up = (tt, tt)
rises (f ∷ g ∷ files) up =
    let later = rises (g ∷ files) up.1 in
    let less : f.0 < g.0 = before f.0 g.0 up.0 in
    ((less, raised f.0 g.0 files (omega (arith, less)) later.0), later)

le_true : (m n : ℕ) → m ≤ n → nat_le m n ≡ true
le_true m n h = le-leb m n h

le_false : (m n : ℕ) → n < m → nat_le m n ≡ false
le_false m n h = lt-leb m n h

le_from : (m n : ℕ) → nat_le m n ≡ true → m ≤ n
le_from m n h = leb-true m n h

lt_from : (m n : ℕ) → nat_le m n ≡ false → n < m
lt_from m n h = leb-false m n h

-- all of them are kept
all_kept : (least n : ℕ) (files : List NumberedFile) → least ≤ n + 1 → AreAbove n files → files_from files least ≡ files
all_kept least n [] le above = refl
all_kept least n (f ∷ files) le above =
    rw (le_true least f.0 (omega (arith, le, above.0))) (ap (λ (fs : List NumberedFile). f ∷ fs) (all_kept least n files le above.1))

-- ---- the head of a file

one_more : (f : NumberedFile) (files : List NumberedFile) (n : ℕ) (o : Ordering) → nat_cmp n f.0 ≡ o → (n ≡ f.0 → ⊥) → head_at (f ∷ files) n ≡ head_at files n
one_more f files n Less is other = ap (λ (o : Ordering). cond (is_eq o) (Some f.1) (head_at files n)) is
one_more f files n Equal is other = absurd (other (ranked n f.0 Equal (sym is)))
one_more f files n Greater is other = ap (λ (o : Ordering). cond (is_eq o) (Some f.1) (head_at files n)) is

here : (f : NumberedFile) (files : List NumberedFile) → head_at (f ∷ files) f.0 ≡ Some f.1
here f files = ap (λ (o : Ordering). cond (is_eq o) (Some f.1) (head_at files f.0)) (sym (nat_cmp_is f.0 f.0 Equal refl))

none_below : (n m : ℕ) (files : List NumberedFile) → n ≤ m → AreAbove m files → head_at files n ≡ None
none_below n m [] le above = refl
none_below n m (f ∷ files) le above =
    one_more f files n (nat_cmp n f.0) refl (λ same. omega (arith, le, above.0, same)) ∙ none_below n m files le above.1

-- ---- the next file

pub next_in : (files : List NumberedFile) (least n : ℕ) (head : FileHead) → Rise files → least ≤ n → ((k : ℕ) → least ≤ k → k < n → is_file_number files k ≡ false) → head_at files n ≡ Some head
    → files_from files least ≡ (n, head) ∷ files_from files (n + 1)
next_in [] least n head rise le no_other at = absurd cc
next_in (f ∷ files) least n head rise le no_other at = by (nat_cmp n f.0) refl (λ free there. next_in files least n head rise.1 le free there)
  where
    by : (o : Ordering) → nat_cmp n f.0 ≡ o
        → (((k : ℕ) → least ≤ k → k < n → is_file_number files k ≡ false) → head_at files n ≡ Some head → files_from files least ≡ (n, head) ∷ files_from files (n + 1))
        → files_from (f ∷ files) least ≡ (n, head) ∷ files_from (f ∷ files) (n + 1)
    by Less is later =
        -- every later file is above n
        let less : n < f.0 = ranked n f.0 Less (sym is) in
        let none : head_at (f ∷ files) n ≡ None = one_more f files n Less is (λ same. omega (arith, less, same)) ∙ none_below n f.0 files (omega (arith, less)) rise.0 in
        absurd cc
    by Equal is later =
        let same : n ≡ f.0 = ranked n f.0 Equal (sym is) in
        let head_is : f.1 ≡ head = let e : Some f.1 ≡ Some head = sym (here f files) ∙ (ap (λ (k : ℕ). head_at (f ∷ files) k) (sym same) ∙ at) in cc in
        let kept : files_from (f ∷ files) least ≡ f ∷ files = rw (le_true least f.0 (omega (arith, le, same))) (ap (λ (fs : List NumberedFile). f ∷ fs) (all_kept least f.0 files (omega (arith, le, same)) rise.0)) in
        let behind : files_from (f ∷ files) (n + 1) ≡ files = rw (le_false (n + 1) f.0 (omega (arith, same))) (all_kept (n + 1) f.0 files (omega (arith, same)) rise.0) in
        let one : f ≡ (n, head) = ap (λ (h : FileHead). (f.0, h)) head_is ∙ ap (λ (k : ℕ). (k, head)) (sym same) in
        kept ∙ (ap (λ (g : NumberedFile). g ∷ files) one ∙ ap (λ (fs : List NumberedFile). (n, head) ∷ fs) (sym behind))
    by Greater is later =
        let less : f.0 < n = ranked n f.0 Greater (sym is) in
        elim (cases_Bool (nat_le least f.0)) [
          | inl above ↦
              let taken : is_file_number (f ∷ files) f.0 ≡ true = ap (λ (o : Option FileHead). is_some o) (here f files) in
              let not : is_file_number (f ∷ files) f.0 ≡ false = no_other f.0 (le_from least f.0 above) less in
              absurd cc
          | inr short ↦
              let below : f.0 < least = lt_from least f.0 short in
              let free : (k : ℕ) → least ≤ k → k < n → is_file_number files k ≡ false =
              λ k from to. sym (ap (λ (o : Option FileHead). is_some o) (one_more f files k (nat_cmp k f.0) refl (λ same. omega (arith, below, from, same)))) ∙ no_other k from to in
              let there : head_at files n ≡ Some head = sym (one_more f files n Greater is (λ same. omega (arith, less, same))) ∙ at in
              rw (short, le_false (n + 1) f.0 (omega (arith, less))) (later free there)
        ]

pub none_in : (files : List NumberedFile) (least : ℕ) → ((k : ℕ) → least ≤ k → is_file_number files k ≡ false) → files_from files least ≡ []
none_in [] least none = refl
none_in (f ∷ files) least none = elim (cases_Bool (nat_le least f.0)) [
  | inl above ↦
      let taken : is_file_number (f ∷ files) f.0 ≡ true = ap (λ (o : Option FileHead). is_some o) (here f files) in
      let not : is_file_number (f ∷ files) f.0 ≡ false = none f.0 (le_from least f.0 above) in
      absurd cc
  | inr short ↦
      let below : f.0 < least = lt_from least f.0 short in
      rw short (none_in files least (λ k from. sym (ap (λ (o : Option FileHead). is_some o) (one_more f files k (nat_cmp k f.0) refl (λ same. omega (arith, below, from, same)))) ∙ none k from))
]

-- file numbers have 32 bits
small : (f : NumberedFile) → IsTrue (is_item (item_of_file_head f)) → f.0 < 2 ^ 32
unfolding is_item
small f item = ltb-true f.0 (2 ^ 32) (and_parts (nat_lt f.0 (2 ^ 32)) _ item).0

pub none_past : (files : List NumberedFile) (least : ℕ) → AllByRecursion (λ (f : NumberedFile). IsTrue (is_item (item_of_file_head f))) files → 2 ^ 32 ≤ least → files_from files least ≡ []
none_past [] least items past = refl
none_past (f ∷ files) least items past =
    let less : f.0 < least = omega (arith, small f items.0, past) in
    rw (le_false least f.0 less) (none_past files least items.1 past)

-- ---- for the walk over files

pub next_file : (c : Catalogued) (least n : ℕ) (head : FileHead) → IsCatalog c → IsLeastFrom c.tables.files least n → Some head ≡ head_at c.tables.files n
    → files_from c.tables.files least ≡ (n, head) ∷ files_from c.tables.files (n + 1)
next_file c least n head is found at = next_in c.tables.files least n head (rises c.tables.files is.rules.tables.files.0) found.at_least found.no_other (sym at)

pub no_head : (c : Catalogued) (least n : ℕ) → IsLeastFrom c.tables.files least n → None ≡ head_at c.tables.files n → ⊥
no_head c least n found at = let there : IsTrue (is_file_number c.tables.files n) = found.there in let e : is_file_number c.tables.files n ≡ false = ap (λ (o : Option FileHead). is_some o) (sym at) in cc

pub past_all : (c : Catalogued) (least : ℕ) → IsCatalog c → 2 ^ 32 ≤ least → files_from c.tables.files least ≡ []
past_all c least is past = none_past c.tables.files least is.rules.tables.files.1 past

-- from 0 on these are all
pub all_from : (files : List NumberedFile) → files_from files 0 ≡ files
all_from [] = refl
all_from (f ∷ files) = rw (le_true 0 f.0 (omega arith)) (ap (λ (fs : List NumberedFile). f ∷ fs) (all_from files))

-- ---- what find has found

pub found_start : (t : Tables) (group : Bytes) (dir : Path) (pattern : Bytes) → found_of_files t group dir pattern (files_from t.files 0) ≡ found_of_files t group dir pattern t.files
found_start t group dir pattern = ap (λ (fs : List NumberedFile). found_of_files t group dir pattern fs) (all_from t.files)

pub found_more : (t : Tables) (group : Bytes) (dir : Path) (pattern : Bytes) (least : ℕ) (f : NumberedFile) (rest : List NumberedFile) (found more all : List code.Path)
    → found ++ found_of_files t group dir pattern (files_from t.files least) ≡ all → files_from t.files least ≡ f ∷ rest → more ≡ found ++ found_of_file t group dir pattern f
    → more ++ found_of_files t group dir pattern rest ≡ all
found_more t group dir pattern least f rest found more all so_far next put =
    ap (λ (ps : List code.Path). ps ++ found_of_files t group dir pattern rest) put
    ∙ (append_assoc found (found_of_file t group dir pattern f) (found_of_files t group dir pattern rest)
    ∙ (ap (λ (fs : List NumberedFile). found ++ found_of_files t group dir pattern fs) (sym next) ∙ so_far))

pub found_end : (t : Tables) (group : Bytes) (dir : Path) (pattern : Bytes) (least : ℕ) (found all : List code.Path)
    → found ++ found_of_files t group dir pattern (files_from t.files least) ≡ all → files_from t.files least ≡ [] → found ≡ all
found_end t group dir pattern least found all so_far none =
    sym (append-nil found) ∙ (ap (λ (fs : List NumberedFile). found ++ found_of_files t group dir pattern fs) (sym none) ∙ so_far)
