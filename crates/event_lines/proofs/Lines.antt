-- The words of an event, one after another.
use Rattle.std.proofs.Common.{◌≡◌, ◌≤◌, true, ◌∷◌, ◌++◌, [], length, refl, sym, ap, ◌∙◌, append_assoc}
use Rattle.asm_group.specs.Names.{Bytes, is_part}
use Rattle.asm_group.specs.Refusal.{spaced}
use Rattle.asm_base.proofs.NameLaws.{part_of}
use Rattle.asm_world.specs.Reply as w
use Rattle.asm_world.specs.Text.{rebalanced_words, resynced_words}

pub short_part : (part : Bytes) → is_part 255 part ≡ true → length part ≤ 255
short_part part e = (part_of 255 part e).few

two : (first group rest : Bytes) → first ++ 32 ∷ (group ++ 32 ∷ rest) ≡ (first ++ 32 ∷ group) ++ 32 ∷ rest
two first group rest = sym (append_assoc first (32 ∷ group) (32 ∷ rest))

three : (first group disk rest : Bytes) → first ++ 32 ∷ (group ++ 32 ∷ (disk ++ 32 ∷ rest)) ≡ ((first ++ 32 ∷ group) ++ 32 ∷ disk) ++ 32 ∷ rest
three first group disk rest = two first group (disk ++ 32 ∷ rest) ∙ sym (append_assoc (first ++ 32 ∷ group) (32 ∷ disk) (32 ∷ rest))

-- four words that were put one after another
pub four_put : (first group second disk : Bytes) {b₀ b₁ b₂ b₃ b₄ : Bytes} → b₀ ≡ [] → b₁ ≡ b₀ ++ first → b₂ ≡ b₁ ++ 32 ∷ group → b₃ ≡ b₂ ++ 32 ∷ second → b₄ ≡ b₃ ++ 32 ∷ disk → b₄ ≡ spaced (first ∷ group ∷ second ∷ disk ∷ [])
four_put first group second disk {b₀} {b₁} {b₂} {b₃} {b₄} e₀ e₁ e₂ e₃ e₄ = (cc (ap (λ (b : Bytes). b ++ first) e₀)) ∙ sym (three first group second disk)

pub moved_line : (first group : Bytes) (how : w.Rebalanced) → spaced (first ∷ group ∷ rebalanced_words how) ≡ (first ++ 32 ∷ group) ++ 32 ∷ spaced (rebalanced_words how)
moved_line first group how = words how ∙ two first group (spaced (rebalanced_words how)) where
  words : (how : w.Rebalanced) → spaced (first ∷ group ∷ rebalanced_words how) ≡ first ++ 32 ∷ (group ++ 32 ∷ spaced (rebalanced_words how))
  words (w.MovesLeft steps) = refl
  words (w.Finished steps) = refl
  words (w.OutOfSpace steps file index) = refl
  words (w.LostExtent steps file index) = refl
  words (w.MoveFault steps disk) = refl
  words (w.MoveEnds disk) = refl

pub synced_line : (first group disk : Bytes) (how : w.Resynced) → spaced (first ∷ group ∷ disk ∷ resynced_words how) ≡ ((first ++ 32 ∷ group) ++ 32 ∷ disk) ++ 32 ∷ spaced (resynced_words how)
synced_line first group disk how = words how ∙ three first group disk (spaced (resynced_words how)) where
  words : (how : w.Resynced) → spaced (first ∷ group ∷ disk ∷ resynced_words how) ≡ first ++ 32 ∷ (group ++ 32 ∷ (disk ++ 32 ∷ spaced (resynced_words how)))
  words (w.MarksLeft steps) = refl
  words (w.Back steps) = refl
  words (w.LeftMarked file index) = refl
  words (w.SyncFault steps failed) = refl
  words (w.SyncEnds failed) = refl
