-- What the laws of a table's entries come to, item by item.
use Rattle.std.proofs.Common.{◌≡◌, Bool, false, Option, Some, None, sym, ap, ◌∙◌, inl, inr, ◌⊎◌}
use Rattle.std.proofs.lemmas.Bool.{true≢false}
use Rattle.std.proofs.lemmas.Option.{none-some}
use Rattle.asm_base.specs.asm_formats.Items.{Item, Key, item_key}
use Rattle.asm_base.proofs.Exact.{some_is}
use Rattle.asm_base.proofs.ItemTables.{AreEntries, IsEntry}

-- the item is that of an entry, or has a key of another kind and is no entry
abbrev pub IsKnown : {X : Type 0} → (Key → Bool) → (X → Item) → (Item → Option X) → Item → Type 0
IsKnown {X} is_mine item_of entry_of i = ((x : X) × (i ≡ item_of x)) ⊎ ((is_mine (item_key i) ≡ false) × (entry_of i ≡ None))

-- an item is the entry whose item it is, and each item of such a key is that of an entry
pub entry_laws : {X : Type 0} (is_mine : Key → Bool) (item_of : X → Item) (entry_of : Item → Option X) → ((i : Item) → IsKnown is_mine item_of entry_of i)
    → ((x : X) → entry_of (item_of x) ≡ Some x) → IsEntry item_of entry_of × AreEntries is_mine item_of
entry_laws {X} is_mine item_of entry_of each back = (record { there = there; back = back }, are) where
  there : (i : Item) (x : X) → entry_of i ≡ Some x → item_of x ≡ i
  there i x e = elim (each i) [
    | inl y ↦ ap item_of (some_is x y.0 (sym e ∙ (ap entry_of y.1 ∙ back y.0))) ∙ sym y.1
    | inr n ↦ absurd (none-some x (sym n.1 ∙ e))
  ]

  are : AreEntries is_mine item_of
  are i mine = elim (each i) [
    | inl y ↦ y
    | inr n ↦ absurd (true≢false (sym mine ∙ n.0))
  ]
