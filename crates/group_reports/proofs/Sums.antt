-- What files take below a directory, file by file.
use Rattle.std.proofs.Common.{◌≡◌, ◌≤◌, ◌<◌, ℕ, ◌+◌, ◌*◌, ◌^◌, List, [], ◌∷◌, refl, sym, ap, ◌∙◌, arith}
use Rattle.std.specs.Prelude.{sum_by}
use Rattle.std.proofs.lemmas.List.Sums.{sum_by-cons}
use Rattle.asm_formats.specs.Items.{FileHead}
use Rattle.asm_group.specs.Names.{Bytes, Path}
use Rattle.file_directory.specs.Files.{NumberedFile}
use Rattle.catalog_laws.specs.catalog_tables.Tables.{Catalogued, Tables}
use Rattle.group_reports.specs.declared.taking.Taken.{Taken}
use Rattle.group_reports.specs.Files.{bytes_below, files_from, if_file_below, mirrored_of, file_size, directory_usage}
use Rattle.group_reports.proofs.FileWalk.{all_from}

-- those of some files, with numbers from one on, are the bytes so far and those of the files that are left
pub record AreTaken (c : Catalogued) (group : Bytes) (dir : Path) (least : ℕ) (u : Taken) : Type 0 where
  pub used : u.used + bytes_below c.tables group dir file_size (files_from c.tables.files least) ≡ bytes_below c.tables group dir file_size c.tables.files
  pub mirrored : u.mirrored + bytes_below c.tables group dir (mirrored_of c) (files_from c.tables.files least) ≡ bytes_below c.tables group dir (mirrored_of c) c.tables.files
  pub small : u.used ≤ least * 2 ^ 64
  pub few : u.mirrored ≤ least * 2 ^ 78

from_none : (left all : ℕ) → left ≡ all → 0 + left ≡ all
from_none left all e = omega (arith, e)

pub taken_start : (c : Catalogued) (group : Bytes) (dir : Path) (u : Taken) → u ≡ record { used = 0; mirrored = 0 } → AreTaken c group dir 0 u
taken_start c group dir u is =
    rw is (record {
      used = from_none (bytes_below c.tables group dir file_size (files_from c.tables.files 0)) _ (ap (λ (fs : List NumberedFile). bytes_below c.tables group dir file_size fs) (all_from c.tables.files));
      mirrored = from_none (bytes_below c.tables group dir (mirrored_of c) (files_from c.tables.files 0)) _ (ap (λ (fs : List NumberedFile). bytes_below c.tables group dir (mirrored_of c) fs) (all_from c.tables.files));
      small = omega arith;
      few = omega arith;
    })

more : (a b left now all : ℕ) → a + now ≡ all → now ≡ b + left → (a + b) + left ≡ all
more a b left now all so_far split = omega (arith, so_far, split)

less_used : (a b least number : ℕ) → a ≤ least * 2 ^ 64 → b ≤ 2 ^ 64 → least ≤ number → a + b ≤ (number + 1) * 2 ^ 64
less_used a b least number so_far one le = omega (arith, so_far, one, le)

less_mirrored : (a b least number : ℕ) → a ≤ least * 2 ^ 78 → b ≤ 2 ^ 78 → least ≤ number → a + b ≤ (number + 1) * 2 ^ 78
less_mirrored a b least number so_far one le = omega (arith, so_far, one, le)

pub taken_more : (c : Catalogued) (group : Bytes) (dir : Path) (least n : ℕ) (head : FileHead) (u one next : Taken) → files_from c.tables.files least ≡ (n, head) ∷ files_from c.tables.files (n + 1) → least ≤ n
    → one.used ≡ if_file_below c.tables group dir file_size (n, head) → one.mirrored ≡ if_file_below c.tables group dir (mirrored_of c) (n, head) → one.used ≤ 2 ^ 64 → one.mirrored ≤ 2 ^ 78
    → next ≡ record { used = u.used + one.used; mirrored = u.mirrored + one.mirrored } → AreTaken c group dir least u → AreTaken c group dir (n + 1) next
taken_more c group dir least n head u one next split le used mirrored small few sum so_far =
    let rest : List NumberedFile = files_from c.tables.files (n + 1) in
    let first : bytes_below c.tables group dir file_size (files_from c.tables.files least) ≡ one.used + bytes_below c.tables group dir file_size rest =
    ap (λ (fs : List NumberedFile). bytes_below c.tables group dir file_size fs) split ∙ (sum_by-cons (if_file_below c.tables group dir file_size) (n, head) rest ∙ ap (λ (m : ℕ). m + bytes_below c.tables group dir file_size rest) (sym used)) in
    let second : bytes_below c.tables group dir (mirrored_of c) (files_from c.tables.files least) ≡ one.mirrored + bytes_below c.tables group dir (mirrored_of c) rest =
    ap (λ (fs : List NumberedFile). bytes_below c.tables group dir (mirrored_of c) fs) split ∙ (sum_by-cons (if_file_below c.tables group dir (mirrored_of c)) (n, head) rest ∙ ap (λ (m : ℕ). m + bytes_below c.tables group dir (mirrored_of c) rest) (sym mirrored)) in
    rw sum (record {
      used = more u.used one.used (bytes_below c.tables group dir file_size rest) _ (bytes_below c.tables group dir file_size c.tables.files) so_far.used first;
      mirrored = more u.mirrored one.mirrored (bytes_below c.tables group dir (mirrored_of c) rest) _ (bytes_below c.tables group dir (mirrored_of c) c.tables.files) so_far.mirrored second;
      small = less_used u.used one.used least n so_far.small small le;
      few = less_mirrored u.mirrored one.mirrored least n so_far.few few le;
    })

pub taken_end : (c : Catalogued) (group : Bytes) (dir : Path) (least : ℕ) (u : Taken) → files_from c.tables.files least ≡ [] → AreTaken c group dir least u → u ≡ directory_usage c group dir c.tables.files
taken_end c group dir least u none so_far =
    let first : bytes_below c.tables group dir file_size (files_from c.tables.files least) ≡ 0 = ap (λ (fs : List NumberedFile). bytes_below c.tables group dir file_size fs) none in
    let second : bytes_below c.tables group dir (mirrored_of c) (files_from c.tables.files least) ≡ 0 = ap (λ (fs : List NumberedFile). bytes_below c.tables group dir (mirrored_of c) fs) none in
    let used : u.used ≡ bytes_below c.tables group dir file_size c.tables.files = omega (arith, first, so_far.used) in
    let mirrored : u.mirrored ≡ bytes_below c.tables group dir (mirrored_of c) c.tables.files = omega (arith, second, so_far.mirrored) in
    ap (λ (n : ℕ). record { used = n; mirrored = u.mirrored }) used ∙ ap (λ (n : ℕ). record { used = bytes_below c.tables group dir file_size c.tables.files; mirrored = n }) mirrored
