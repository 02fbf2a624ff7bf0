-- A head is read from its one spelling alone.
use Rattle.std.proofs.Common.{◌≡◌, ℕ, zero, suc, ◌+◌, ◌-◌, ◌*◌, ◌^◌, ◌<◌, ◌≤◌, Bool, true, false, cond, ltb, List, [], ◌∷◌, ◌++◌, length, take, drop, Option, Some, None, refl, sym, ap, ◌∙◌, append_assoc, arith}
use Rattle.std.specs.Prelude.{◌&&◌}
use Rattle.std.specs.Int.{w32}
use Rattle.std.specs.Option.{option_map}
use Rattle.std.specs.Str.{bytes_eq}
use Rattle.std.proofs.lemmas.Bool.{le-leb, lt-ltb, lt-leb}
use Rattle.std.proofs.lemmas.List.{append-nil, drop-drop, length-drop, take_all}
use Rattle.asm_group.specs.Names.{Bytes}
use Rattle.asm_formats.specs.Bytes.{number_at, values_at, spelled_by}
use Rattle.asm_formats.specs.Logs.{LogHead, decoded_log_head, is_log_head, log_head_at, log_head_spelling}
use Rattle.change_directory.specs.Loads.{are_numbers}
use Rattle.change_directory.specs.Slots.{head_with, is_head_of}

-- ---- numbers, one behind the other

abbrev numbers : ℕ → Bytes → List ℕ
numbers n bytes = (values_at (number_at w32) n bytes).0

numbers_len : (n : ℕ) (bytes : Bytes) → length (numbers n bytes) ≡ n
numbers_len zero bytes = refl
numbers_len (suc n) bytes = ap suc (numbers_len n (number_at w32 bytes).1)

behind : (bytes : Bytes) → (number_at w32 bytes).1 ≡ drop 4 bytes
unfolding number_at
behind bytes = refl

-- one number more was read
pub numbers_more : (front : List ℕ) (count i x : ℕ) (bytes : Bytes) (total : List ℕ) → i < count → x ≡ (number_at w32 (drop (4 * i) bytes)).0
    → front ++ numbers (count - i) (drop (4 * i) bytes) ≡ total → (front ++ x ∷ []) ++ numbers (count - (i + 1)) (drop (4 * (i + 1)) bytes) ≡ total
numbers_more front count i x bytes total lt read so_far =
    let k : count - i ≡ suc (count - (i + 1)) = omega arith in
    let at : drop 4 (drop (4 * i) bytes) ≡ drop (4 * (i + 1)) bytes = drop-drop 4 (4 * i) bytes ∙ ap (λ (n : ℕ). drop n bytes) (omega arith) in
    let rest : (number_at w32 (drop (4 * i) bytes)).1 ≡ drop (4 * (i + 1)) bytes = behind (drop (4 * i) bytes) ∙ at in
    let step : numbers (count - i) (drop (4 * i) bytes) ≡ (number_at w32 (drop (4 * i) bytes)).0 ∷ numbers (count - (i + 1)) (number_at w32 (drop (4 * i) bytes)).1 =
    ap (λ (n : ℕ). numbers n (drop (4 * i) bytes)) k in
    append_assoc front (x ∷ []) (numbers (count - (i + 1)) (drop (4 * (i + 1)) bytes))
    ∙ ap (λ (n : ℕ). front ++ n ∷ numbers (count - (i + 1)) (drop (4 * (i + 1)) bytes)) read
    ∙ ap (λ (b : Bytes). front ++ (number_at w32 (drop (4 * i) bytes)).0 ∷ numbers (count - (i + 1)) b) (sym rest)
    ∙ ap (λ (l : List ℕ). front ++ l) (sym step) ∙ so_far

pub numbers_done : (front : List ℕ) (count i : ℕ) (bytes : Bytes) (total : List ℕ) → count ≤ i → front ++ numbers (count - i) (drop (4 * i) bytes) ≡ total → front ≡ total
numbers_done front count i bytes total le so_far =
    let k : count - i ≡ 0 = omega arith in
    sym (append-nil front) ∙ ap (λ (n : ℕ). front ++ numbers n (drop (4 * i) bytes)) (sym k) ∙ so_far

-- ---- the head

-- its parts, by their places
parts : (bytes : Bytes) → log_head_at bytes ≡ head_with (log_head_at bytes).commit (numbers (number_at w32 (drop 12 bytes)).0 (drop 16 bytes))
unfolding log_head_at number_at
parts bytes =
    let one : drop 8 (drop 4 bytes) ≡ drop 12 bytes = drop-drop 8 4 bytes in
    let two : drop 4 (drop 8 (drop 4 bytes)) ≡ drop 16 bytes = drop-drop 4 8 (drop 4 bytes) ∙ drop-drop 12 4 bytes in
    λ i. head_with (log_head_at bytes).commit (numbers (number_at w32 (one i)).0 (two i))

abbrev pub pages_of : Option LogHead → Option (List ℕ)
pages_of o = option_map (λ (h : LogHead). h.pages) o

spelled : (is_allowed : LogHead → Bool) (bytes : Bytes) (h : LogHead) → pages_of (spelled_by is_allowed log_head_spelling bytes h) ≡ cond (is_allowed h && bytes_eq bytes (log_head_spelling h)) (Some h.pages) None
unfolding spelled_by
spelled is_allowed bytes h = go (is_allowed h && bytes_eq bytes (log_head_spelling h)) where
  go : (b : Bool) → pages_of (cond b (Some h) None) ≡ cond b (Some h.pages) None
  go true = refl
  go false = refl

few_allowed : (dir_blocks commit : ℕ) (pages : List ℕ) → commit < 2 ^ 64 → length pages ≤ 64 → is_log_head dir_blocks (head_with commit pages) ≡ are_numbers dir_blocks pages
unfolding is_log_head
few_allowed dir_blocks commit pages fits few = rw (lt-ltb commit (2 ^ 64) fits, le-leb (length pages) 64 few) refl

many_refused : (dir_blocks commit : ℕ) (pages : List ℕ) → 64 < length pages → is_log_head dir_blocks (head_with commit pages) ≡ false
unfolding is_log_head
many_refused dir_blocks commit pages many = rw (lt-leb (length pages) 64 many) (never (ltb commit (2 ^ 64))) where
  never : (b : Bool) → (b && false) ≡ false
  never true = refl
  never false = refl

-- a head that counts too many pages
pub too_many : (dir_blocks : ℕ) (bytes : Bytes) → 64 < (number_at w32 (drop 12 bytes)).0 → None ≡ pages_of (decoded_log_head dir_blocks bytes)
unfolding decoded_log_head
too_many dir_blocks bytes many =
    let ps : List ℕ = numbers (number_at w32 (drop 12 bytes)).0 (drop 16 bytes) in
    let h : LogHead = head_with (log_head_at bytes).commit ps in
    let long : 64 < length ps = omega (arith, many, numbers_len (number_at w32 (drop 12 bytes)).0 (drop 16 bytes)) in
    let is : pages_of (spelled_by (is_log_head dir_blocks) log_head_spelling bytes (log_head_at bytes)) ≡ cond (is_log_head dir_blocks h && bytes_eq bytes (log_head_spelling h)) (Some ps) None =
    ap (λ (x : LogHead). pages_of (spelled_by (is_log_head dir_blocks) log_head_spelling bytes x)) (parts bytes) ∙ spelled (is_log_head dir_blocks) bytes h in
    sym (is ∙ ap (λ (b : Bool). cond (b && bytes_eq bytes (log_head_spelling h)) (Some ps) None) (many_refused dir_blocks (log_head_at bytes).commit ps long))

-- a head whose pages are tested and spelt again
head_is_read : (dir_blocks : ℕ) (bytes : Bytes) (commit count : ℕ) (pages : List ℕ) → commit ≡ (log_head_at bytes).commit → commit < 2 ^ 64 → count ≡ (number_at w32 (drop 12 bytes)).0 → count ≤ 64
    → pages ≡ numbers count (drop 16 bytes)
    → cond (are_numbers dir_blocks pages && bytes_eq bytes (log_head_spelling (head_with commit pages))) (Some pages) None ≡ pages_of (decoded_log_head dir_blocks bytes)
unfolding decoded_log_head
head_is_read dir_blocks bytes commit count pages commit_is fits count_is few pages_are =
    let long : length pages ≤ 64 = omega (arith, few, ap length pages_are, numbers_len count (drop 16 bytes)) in
    let h : LogHead = head_with commit pages in
    let same : h ≡ log_head_at bytes =
    (λ i. head_with (commit_is i) (pages_are i)) ∙ ap (λ (n : ℕ). head_with (log_head_at bytes).commit (numbers n (drop 16 bytes))) count_is ∙ sym (parts bytes) in
    ap (λ (b : Bool). cond (b && bytes_eq bytes (log_head_spelling h)) (Some pages) None) (sym (few_allowed dir_blocks commit pages fits long))
    ∙ sym (spelled (is_log_head dir_blocks) bytes h)
    ∙ ap (λ (x : LogHead). pages_of (spelled_by (is_log_head dir_blocks) log_head_spelling bytes x)) same

tail_is : (n : ℕ) (xs : Bytes) → take (length xs - n) (drop n xs) ≡ drop n xs
tail_is n xs = take_all (length xs - n) (drop n xs) (omega (arith, length-drop n xs))

pub head_decides : (dir_blocks : ℕ) (bytes : Bytes) (count : ℕ) (pages : List ℕ) (b : Bool) → (log_head_at bytes).commit < 2 ^ 64 → count ≡ (number_at w32 (drop 12 bytes)).0 → count ≤ 64 → pages ≡ numbers count (take (length bytes - 16) (drop 16 bytes))
    → b ≡ is_head_of dir_blocks bytes pages → cond b (Some pages) None ≡ pages_of (decoded_log_head dir_blocks bytes)
head_decides dir_blocks bytes count pages b fits count_is few are test =
    ap (λ (b : Bool). cond b (Some pages) None) test ∙ head_is_read dir_blocks bytes (log_head_at bytes).commit count pages refl fits count_is few (are ∙ ap (numbers count) (tail_is 16 bytes))
