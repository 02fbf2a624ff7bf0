-- Blocks that stand one behind the other.
use Rattle.std.proofs.Common.{◌≡◌, ℕ, zero, suc, ◌+◌, ◌*◌, ◌<◌, ◌≤◌, List, [], ◌∷◌, ◌++◌, length, take, drop, get_or, refl, sym, ap, ◌∙◌, arith}
use Rattle.std.specs.Prelude.{zip}
use Rattle.std.proofs.lemmas.List.{take_at, drop_at, drop-drop, take_more}
use Rattle.bay.specs.Image.{Image, window}
use Rattle.bay.proofs.Images.{length-window, window-same}
use Rattle.asm_group.specs.Names.{Bytes}
use Rattle.asm_formats.specs.Bytes.{block}
use Rattle.asm_formats.specs.Logs.{blocks_from}
use Rattle.asm_images.specs.Bridge.{disk_bytes}
use Rattle.asm_images.proofs.Bridges.{bytes_are_listed}
use Rattle.change_directory.specs.Slots.{blocks_of, blocks_at}
use Rattle.change_directory.proofs.Windows.{window-append}

-- the blocks of a window
pub cut_window : (byte : ℕ → ℕ) (k n : ℕ) → blocks_of n (window byte (k * 4096) (n * 4096)) ≡ blocks_at byte k n
unfolding blocks_of blocks_at
cut_window byte k zero = refl
cut_window byte k (suc n) =
    let a : Bytes = window byte (k * 4096) 4096 in
    let b : Bytes = window byte ((k + 1) * 4096) (n * 4096) in
    let more : suc n * 4096 ≡ 4096 + n * 4096 = omega arith in
    let next : k * 4096 + 4096 ≡ (k + 1) * 4096 = omega arith in
    let split : window byte (k * 4096) (suc n * 4096) ≡ a ++ b =
    ap (window byte (k * 4096)) more ∙ window-append byte (k * 4096) 4096 (n * 4096) ∙ ap (λ (at : ℕ). a ++ window byte at (n * 4096)) next in
    let front : take 4096 (a ++ b) ≡ a = take_at a b 4096 (length-window byte (k * 4096) 4096) in
    let rest : drop 4096 (a ++ b) ≡ b = drop_at a b 4096 (length-window byte (k * 4096) 4096) in
    ap (blocks_of (suc n)) split ∙ (λ i. front i ∷ blocks_of n (rest i)) ∙ ap (λ (l : List Bytes). a ∷ l) (cut_window byte (k + 1) n)

-- one block more
pub cut_more : (n : ℕ) (bytes : Bytes) → blocks_of (n + 1) bytes ≡ blocks_of n bytes ++ take 4096 (drop (n * 4096) bytes) ∷ []
unfolding blocks_of
cut_more zero bytes = refl
cut_more (suc n) bytes =
    let more : suc n + 1 ≡ suc (n + 1) = omega arith in
    let far : 4096 + n * 4096 ≡ suc n * 4096 = omega arith in
    let at : drop (n * 4096) (drop 4096 bytes) ≡ drop (suc n * 4096) bytes = drop-drop (n * 4096) 4096 bytes ∙ ap (λ (m : ℕ). drop m bytes) far in
    ap (λ (m : ℕ). blocks_of m bytes) more ∙ ap (λ (l : List Bytes). take 4096 bytes ∷ l) (cut_more n (drop 4096 bytes))
    ∙ ap (λ (b : Bytes). take 4096 bytes ∷ (blocks_of n (drop 4096 bytes) ++ take 4096 b ∷ [])) at

-- some blocks, and then others
pub cut_add : (i m : ℕ) (bytes : Bytes) → blocks_of (i + m) bytes ≡ blocks_of i bytes ++ blocks_of m (drop (i * 4096) bytes)
unfolding blocks_of
cut_add zero m bytes = let none : zero + m ≡ m = omega arith in ap (λ (n : ℕ). blocks_of n bytes) none
cut_add (suc i) m bytes =
    let more : suc i + m ≡ suc (i + m) = omega arith in
    let far : 4096 + i * 4096 ≡ suc i * 4096 = omega arith in
    let at : drop (i * 4096) (drop 4096 bytes) ≡ drop (suc i * 4096) bytes = drop-drop (i * 4096) 4096 bytes ∙ ap (λ (n : ℕ). drop n bytes) far in
    ap (λ (n : ℕ). blocks_of n bytes) more ∙ ap (λ (l : List Bytes). take 4096 bytes ∷ l) (cut_add i m (drop 4096 bytes))
    ∙ ap (λ (b : Bytes). take 4096 bytes ∷ (blocks_of i (drop 4096 bytes) ++ blocks_of m b)) at

pub cut_len : (n : ℕ) (bytes : Bytes) → length (blocks_of n bytes) ≡ n
unfolding blocks_of
cut_len zero bytes = refl
cut_len (suc n) bytes = ap suc (cut_len n (drop 4096 bytes))

pub blocks_len : (byte : ℕ → ℕ) (k n : ℕ) → length (blocks_at byte k n) ≡ n
unfolding blocks_at
blocks_len byte k zero = refl
blocks_len byte k (suc n) = ap suc (blocks_len byte (k + 1) n)

pub blocks_more : (byte : ℕ → ℕ) (k a b : ℕ) → blocks_at byte k (a + b) ≡ blocks_at byte k a ++ blocks_at byte (k + a) b
unfolding blocks_at
blocks_more byte k zero b =
    let none : zero + b ≡ b = omega arith in
    let here : k ≡ k + zero = omega arith in
    ap (blocks_at byte k) none ∙ ap (λ (m : ℕ). blocks_at byte m b) here
blocks_more byte k (suc a) b =
    let more : suc a + b ≡ suc (a + b) = omega arith in
    let far : k + 1 + a ≡ k + suc a = omega arith in
    ap (blocks_at byte k) more ∙ ap (λ (l : List Bytes). window byte (k * 4096) 4096 ∷ l) (blocks_more byte (k + 1) a b ∙ ap (λ (m : ℕ). blocks_at byte (k + 1) a ++ blocks_at byte m b) far)

-- the blocks of a disk
pub blocks_listed : (image : Image) (slot k n : ℕ) → (k + n) * 4096 ≤ image.size slot → blocks_at (image.byte slot) k n ≡ blocks_from (disk_bytes image slot) k n
unfolding blocks_at
blocks_listed image slot k zero inside = refl
blocks_listed image slot k (suc n) inside =
    let here : block (disk_bytes image slot) k ≡ window (image.byte slot) (k * 4096) 4096 = (bytes_are_listed image slot).2 (k * 4096) 4096 (omega (arith, inside)) in
    let others = blocks_listed image slot (k + 1) n (omega (arith, inside)) in
    λ i. sym here i ∷ others i

pub blocks_same : (old new : ℕ → ℕ) → ((k : ℕ) → new k ≡ old k) → (k n : ℕ) → blocks_at new k n ≡ blocks_at old k n
unfolding blocks_at
blocks_same old new same k zero = refl
blocks_same old new same k (suc n) =
    let here = window-same old new (k * 4096) 4096 (λ j low high. same j) in
    let others = blocks_same old new same (k + 1) n in
    λ i. here i ∷ others i

-- ---- images with their pages

zip_push : (xs : List ℕ) (ys : List Bytes) (x : ℕ) (y : Bytes) → length xs ≡ length ys → zip (xs ++ x ∷ []) (ys ++ y ∷ []) ≡ zip xs ys ++ (x, y) ∷ []
zip_push [] [] x y e = refl
zip_push [] (b ∷ ys) x y e = absurd (omega (arith, e))
zip_push (a ∷ xs) [] x y e = absurd (omega (arith, e))
zip_push (a ∷ xs) (b ∷ ys) x y e = ap (λ (l : List (ℕ × Bytes)). (a, b) ∷ l) (zip_push xs ys x y (omega (arith, e)))

pub zip_more : (pages : List ℕ) (i d : ℕ) (bytes : Bytes) → i < length pages → length (take i pages) ≡ i
    → zip (take (i + 1) pages) (blocks_of (i + 1) bytes) ≡ zip (take i pages) (blocks_of i bytes) ++ (get_or pages i d, take 4096 (drop (i * 4096) bytes)) ∷ []
zip_more pages i d bytes lt long =
    (λ j. zip (take_more pages i d lt j) (cut_more i bytes j)) ∙ zip_push (take i pages) (blocks_of i bytes) (get_or pages i d) (take 4096 (drop (i * 4096) bytes)) (long ∙ sym (cut_len i bytes))
