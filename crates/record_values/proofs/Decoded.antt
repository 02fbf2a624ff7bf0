-- What a value is decoded to, where its kind's reading is exact.
use Rattle.std.proofs.Common.{◌≡◌, Bool, true, Option, Some, None, refl, sym, ap, ◌∙◌}
use Rattle.std.specs.Prelude.{◌&&◌}
use Rattle.std.specs.Str.{bytes_eq}
use Rattle.std.specs.Option.{option_map}
use Rattle.std.proofs.lemmas.Option.{none-some}
use Rattle.asm_base.specs.asm_group.Names.{Bytes}
use Rattle.asm_base.specs.asm_formats.Bytes.{spelled_by}
use Rattle.asm_base.specs.asm_formats.Items.{Item, Key, item_key, is_same_key, is_item}
use Rattle.asm_base.specs.asm_formats.Values.{value, decoded_item, item_by}
use Rattle.asm_base.proofs.asm_formats.Bodies.{item_codec}
use Rattle.asm_base.specs.Readings.{Reading}
use Rattle.asm_base.specs.Records.{all_of}
use Rattle.asm_base.proofs.Exact.{IsExact, test_some}
use Rattle.asm_base.proofs.Tables.{all_takes, all_again}

spelled_is : (allowed : Item → Bool) (spelling : Item → Bytes) (bytes : Bytes) (x i : Item) → spelled_by allowed spelling bytes x ≡ Some i → x ≡ i
unfolding spelled_by
spelled_is allowed spelling bytes x i e = (test_some (allowed x && bytes_eq bytes (spelling x)) x i e).1

-- the item that is decoded is the one that is read from the front
pub by_kind : (k : Key) (bytes : Bytes) (i : Item) → decoded_item k bytes ≡ Some i → item_by k bytes ≡ i
unfolding decoded_item
by_kind k bytes i e = spelled_is (λ j. is_item j && is_same_key (item_key j) k) value bytes (item_by k bytes) i e

-- What an exact reading makes of all the bytes is the item that is decoded, where that would be of the reading's kind.
pub value_decoded : {A : Type 0} {r : Reading A} {s : A → Bytes} {F : A → Type 0} → IsExact s F r → (k : Key) (make : A → Item) (at : A) → (bytes : Bytes) → item_by k bytes ≡ make at
    → ((x : A) → value (make x) ≡ s x)
    → ((x : A) → F x → (is_item (make x) ≡ true) × (item_key (make x) ≡ k))
    → ((x : A) → is_item (make x) ≡ true → F x)
    → option_map make (all_of r bytes) ≡ decoded_item k bytes
value_decoded {A} {r} {s} {F} law k make at bytes form spelt allowed fits = go (all_of r bytes) refl (decoded_item k bytes) refl where
  go : (o : Option A) → all_of r bytes ≡ o → (d : Option Item) → decoded_item k bytes ≡ d → option_map make o ≡ d
  go None n None e = refl
  go (Some x) n d e =
      let t = all_takes law bytes x n in
      let ok = allowed x t.1 in
      let again : decoded_item k bytes ≡ Some (make x) =
      ap (λ (b : Bytes). decoded_item k b) (t.0 ∙ sym (spelt x)) ∙ ap (λ (j : Key). decoded_item j (value (make x))) (sym ok.1) ∙ item_codec.again (make x) ok.0 in
      sym again ∙ e
  go None n (Some i) e =
      let d = item_codec.decoded k bytes i e in
      let same : make at ≡ i = sym form ∙ by_kind k bytes i e in
      let ok : is_item (make at) ≡ true = ap is_item same ∙ d.0 in
      let spelling : bytes ≡ s at = d.2 ∙ ap value (sym same) ∙ spelt at in
      absurd (none-some at (sym n ∙ ap (all_of r) spelling ∙ all_again law at (fits at ok)))

-- Nothing is decoded where the item that it would be isn't one of the key.
pub nothing_decoded : (k : Key) (bytes : Bytes) (would : Item) → item_by k bytes ≡ would → (is_item would ≡ true → item_key would ≡ k → ⊥) → decoded_item k bytes ≡ None
nothing_decoded k bytes would form never = go (decoded_item k bytes) refl where
  go : (o : Option Item) → decoded_item k bytes ≡ o → o ≡ None
  go None e = refl
  go (Some i) e =
      let d = item_codec.decoded k bytes i e in
      let same : would ≡ i = sym form ∙ by_kind k bytes i e in
      absurd (never (ap is_item same ∙ d.0) (ap item_key same ∙ d.1))
