-- Zeros over pages, piece by piece.
use Rattle.std.proofs.Common.{◌≡◌, ⊎_elim, ℕ, ◌+◌, ◌-◌, ◌*◌, ◌<◌, ◌≤◌, List, length, take, get_or, refl, sym, ◌∙◌, ap, subst, arith}
use Rattle.std.specs.Prelude.{Result, min}
use Rattle.std.proofs.lemmas.Bool.{cases_lt}
use Rattle.std.proofs.lemmas.List.{get_or-take, length-take-le}
use Rattle.bay.specs.Image.{Image, Range, ChangesOnly, Puts}
use Rattle.bay.specs.State.{BayState}
use Rattle.bay.specs.Calls.{Call, Held, cost}
use Rattle.bay.proofs.Calls.{both_held}
use Rattle.bay.proofs.Images.{get_or-window, changes-within, changes-trans}
use Rattle.bay.proofs.OneCall.{on_region, wider}
use Rattle.change_directory.specs.declared.copy.DirCopy.{DirCopy}
use Rattle.change_directory.specs.Places.{HomesAt}
use Rattle.change_directory.specs.Formatting.{Zeroes}
use Rattle.change_directory.specs.Works.{WentHeld}

module _ (copy : DirCopy) where
  pub in_pages : (at n : ℕ) → 40960 ≤ at → at + n ≤ 40960 + copy.dir_blocks * 4096 → (x y : Image) → ChangesOnly (Range copy.slot at n) x y → ChangesOnly (HomesAt copy) x y
  in_pages at n low high x y step = changes-within (HomesAt copy) (Range copy.slot at n) x y (λ s k inside. (inside.0, omega (arith, inside.1), omega (arith, inside.2))) step

  -- zeros at a place are zeros there
  pub put_zeros : (at : ℕ) (bytes : List ℕ) → ((k : ℕ) → k < length bytes → get_or bytes k 0 ≡ 0) → (x y : Image) → Puts copy.slot at bytes x y
      → (k : ℕ) → at ≤ k → k < at + length bytes → y.byte copy.slot k ≡ 0
  put_zeros at bytes zeros x y step k low high =
      let here : k ≡ at + (k - at) = omega arith in
      let under : k - at < length bytes = omega arith in
      ap (y.byte copy.slot) here ∙ sym (get_or-window (y.byte copy.slot) at (length bytes) (k - at) under) ∙ ap (λ (l : List ℕ). get_or l (k - at) 0) step.here ∙ zeros (k - at) under

  pub zeroes_more : (done : ℕ) (bytes : List ℕ) → ((k : ℕ) → k < length bytes → get_or bytes k 0 ≡ 0) → done + length bytes ≤ copy.dir_blocks * 4096
      → (x y z : Image) → Zeroes copy done x y → Puts copy.slot (40960 + done) bytes y z → Zeroes copy (done + length bytes) x z
  zeroes_more done bytes zeros high x y z so_far step = record {
    zeros = λ k low under. ⊎_elim
        (λ (before : k < 40960 + done). step.elsewhere.byte copy.slot k (λ inside. absurd (omega (arith, inside.1))) ∙ so_far.zeros k low before)
        (λ (behind : 40960 + done ≤ k). put_zeros (40960 + done) bytes zeros y z step k behind (omega arith))
        (cases_lt k (40960 + done));
    elsewhere = changes-trans (HomesAt copy) x y z so_far.elsewhere (in_pages (40960 + done) (length bytes) (omega arith) (omega arith) y z step.elsewhere);
  }

  -- no byte yet
  pub zeroes_none : (x : Image) → Zeroes copy 0 x x
  zeroes_none x = record { zeros = λ k low under. absurd (omega arith); elsewhere = record { size = λ s. refl; byte = λ s k outside. refl } }

  pub zeroes_as_held : (n : ℕ) (x y h held : Image) → ChangesOnly (HomesAt copy) x y → Zeroes copy n h held → ((k : ℕ) → y.byte copy.slot k ≡ held.byte copy.slot k) → Zeroes copy n x y
  zeroes_as_held n x y h held change did same = record { zeros = λ k low high. same k ∙ did.zeros k low high; elsewhere = change }

  -- pieces were written, and then the next one
  pub next_piece : {E : Type 0} {result : Result (Unit {0}) E} (i count : ℕ) (zeros : List ℕ) → length zeros ≡ 262144 → ((k : ℕ) → k < length zeros → get_or zeros k 0 ≡ 0)
      → count ≡ min 262144 (copy.dir_blocks * 4096 - i * 262144) → i * 262144 < copy.dir_blocks * 4096 → {a b c : BayState}
      → WentHeld copy.slot (ChangesOnly (HomesAt copy)) (Zeroes copy (min (i * 262144) (copy.dir_blocks * 4096))) (cost i (min (i * 262144) (copy.dir_blocks * 4096))) a b
      → Call result copy.slot (ChangesOnly (Range copy.slot (40960 + i * 262144) (length (take count zeros)))) (Held (Puts copy.slot (40960 + i * 262144) (take count zeros))) (cost 1 (length (take count zeros))) b c
      → Call result copy.slot (ChangesOnly (HomesAt copy)) (Held (Zeroes copy (min ((i + 1) * 262144) (copy.dir_blocks * 4096)))) (cost (i + 1) (min ((i + 1) * 262144) (copy.dir_blocks * 4096))) a c
  next_piece {result = result} i count zeros piece are_zeros is begins {a} {b} {c} went call =
      let long : length (take count zeros) ≡ count = length-take-le count zeros (omega arith) in
      let so_far : min (i * 262144) (copy.dir_blocks * 4096) ≡ i * 262144 = omega arith in
      let more : i * 262144 + length (take count zeros) ≡ min ((i + 1) * 262144) (copy.dir_blocks * 4096) = omega arith in
      let inside : i * 262144 + length (take count zeros) ≤ copy.dir_blocks * 4096 = omega arith in
      let blank : (k : ℕ) → k < length (take count zeros) → get_or (take count zeros) k 0 ≡ 0 =
      λ k below. let under : k < count = omega arith in get_or-take count zeros k 0 under ∙ are_zeros k (omega arith) in
      let before = subst (λ (n : ℕ). WentHeld copy.slot (ChangesOnly (HomesAt copy)) (Zeroes copy n) (cost i n) a b) so_far went in
      subst (λ (n : ℕ). Call result copy.slot (ChangesOnly (HomesAt copy)) (Held (Zeroes copy n)) (cost (i + 1) n) a c) more
      (on_region {last = Held (Puts copy.slot (40960 + i * 262144) (take count zeros))} {does = Held (Zeroes copy (i * 262144 + length (take count zeros)))} before.calls
      (λ value put. both_held (zeroes_more (i * 262144) (take count zeros) blank inside) before.done put)
      (record { calls = wider (in_pages (40960 + i * 262144) (length (take count zeros)) (omega arith) (omega arith)) call.calls; done = call.done; cause = call.cause }))
