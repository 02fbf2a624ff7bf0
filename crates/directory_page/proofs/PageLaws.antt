-- A block is a page where it is zeros, or the frame of a value that passes.
use Rattle.std.proofs.Common.{◌≡◌, Bool, true, false, cond, [], ◌∷◌, length, Option, Some, None, refl, ap, ◌∙◌}
use Rattle.std.specs.Prelude.{◌&&◌, nat_le, ◌==◌, drop, take}
use Rattle.std.specs.Option.{is_some, option_and_then, option_map}
use Rattle.std.specs.List.{list_all}
use Rattle.asm_base.specs.asm_group.Names.{Bytes}
use Rattle.asm_base.specs.asm_formats.Items.{Item}
use Rattle.asm_base.specs.asm_formats.Values.{decoded_item}
use Rattle.asm_base.specs.asm_formats.Records.{Frame, decoded_record}
use Rattle.asm_base.specs.asm_formats.Content.{is_empty_page, is_page, page_items}
use Rattle.asm_base.specs.Records.{DirectoryRecord}
use Rattle.asm_base.specs.Frames.{Head, entry_frame, framed_entry, record_in_frame, head_reading}
use Rattle.asm_base.proofs.Exact.{IsBytes}
use Rattle.asm_base.proofs.FrameLaws.{frame_is_read}
use Rattle.directory_page.specs.Frames.{is_framed, is_value_of}

-- the value of an entry is decoded
abbrev says : Option DirectoryRecord → Bool
says None = false
says (Some e) = is_some (decoded_item e.0 e.1)

framed_says : (read : Option (Head × Bytes)) → is_framed read ≡ says (option_and_then (λ h. record_in_frame h.0 h.1) read)
framed_says None = refl
framed_says (Some ((k, len), rest)) = go (nat_le len 4064 && (nat_le len (length rest) && list_all (λ b. b == 0) (drop len rest))) where
  go : (b : Bool) → is_value_of k (cond b (Some (take len rest)) None) ≡ says (cond b (Some (k, take len rest)) None)
  go true = refl
  go false = refl

entry_says : (e : Option DirectoryRecord) → says e ≡ is_some (option_and_then (λ (f : Frame). decoded_item f.key f.value) (option_map entry_frame e))
entry_says None = refl
entry_says (Some (k, v)) = refl

pub record_is_framed : (bytes : Bytes) → length bytes ≡ 4096 → IsBytes bytes → is_framed (head_reading bytes) ≡ is_some (decoded_record bytes)
unfolding decoded_record
record_is_framed bytes len are =
    framed_says (head_reading bytes) ∙ entry_says (framed_entry bytes)
    ∙ ap (λ (o : Option Frame). is_some (option_and_then (λ (f : Frame). decoded_item f.key f.value) o)) (frame_is_read bytes len are)

-- a page that isn't zeros is one where a record is decoded
pub filled_page : (bytes : Bytes) → is_empty_page bytes ≡ false → is_page bytes ≡ is_some (decoded_record bytes)
unfolding page_items
filled_page bytes e = rw e (go (decoded_record bytes)) where
  go : (o : Option Item) → is_some (option_map (λ (i : Item). i ∷ []) o) ≡ is_some o
  go None = refl
  go (Some i) = refl

pub empty_page : (bytes : Bytes) → is_empty_page bytes ≡ true → is_page bytes ≡ true
unfolding page_items
empty_page bytes e = rw e refl
