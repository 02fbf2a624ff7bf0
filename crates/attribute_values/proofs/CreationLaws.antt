-- A creation with another value.
use Rattle.std.proofs.Common.{◌≡◌, ℕ, Bool, true, false, Option, Some, None, refl, sym, ap, ◌∙◌}
use Rattle.std.specs.Prelude.{◌||◌, ◌==◌, codes}
use Rattle.std.specs.Option.{option_map}
use Rattle.asm_group.specs.Names.{Bytes, is_same_name}
use Rattle.asm_group.specs.Shape.{Shape, is_dir_blocks, is_step, is_unit_size}
use Rattle.asm_group.specs.Group.{Attributes}
use Rattle.asm_group.specs.NewGroup.{usual_attributes}
use Rattle.template_directory.specs.asm_formats.Items.{Settings, is_item, settings_item}
use Rattle.asm_grammar.specs.Word.{number_of_text, size_of_text}
use Rattle.asm_world.specs.Settings as world
use Rattle.asm_grammar.specs.Word.{when}
use Rattle.asm_world.specs.Settings.{with_attribute, with_creation_attribute, with_shape}
use Rattle.attribute_values.specs.Creations.{AreNew, IsNewCreation, creation_meant, shape_if}
use Rattle.attribute_values.specs.Edits.{settings_with}
use Rattle.attribute_values.specs.declared.creation.Creation.{Creation}

shaped : (c : world.Creation) (test : ℕ → Bool) (make : ℕ → Shape) (o : Option ℕ) → option_map (λ (s : Shape). record c { shape = s }) (shape_if test make o) ≡ with_shape c test make o
shaped c test make None = refl
shaped c test make (Some n) = by (test n)
  where
    by : (b : Bool) → option_map (λ (s : Shape). record c { shape = s }) (when b (make n)) ≡ when b (record c { shape = make n })
    by true = refl
    by false = refl

module _ (c : world.Creation) (name value : Bytes) where
  abbrev given : Option world.Creation
  given = with_creation_attribute c (record { name = name; value = value })

  pub is_unit : is_same_name name (codes "au_size") ≡ true
      → option_map (λ (s : Shape). record c { shape = s }) (shape_if is_unit_size (λ n. record c.shape { au = n }) (size_of_text value)) ≡ with_creation_attribute c (record { name = name; value = value })
  is_unit unit = rw unit (shaped c is_unit_size (λ n. record c.shape { au = n }) (size_of_text value))

  pub is_sector : is_same_name name (codes "au_size") ≡ false → is_same_name name (codes "sector_size") ≡ true
      → option_map (λ (s : Shape). record c { shape = s }) (shape_if (λ n. n == 512 || n == 4096) (λ n. record c.shape { sector = n }) (size_of_text value)) ≡ with_creation_attribute c (record { name = name; value = value })
  is_sector unit sector = rw (unit, sector) (shaped c (λ n. n == 512 || n == 4096) (λ n. record c.shape { sector = n }) (size_of_text value))

  pub is_step_of : is_same_name name (codes "au_size") ≡ false → is_same_name name (codes "sector_size") ≡ false → is_same_name name (codes "extent_step") ≡ true
      → option_map (λ (s : Shape). record c { shape = s }) (shape_if is_step (λ n. record c.shape { step = n }) (number_of_text value)) ≡ with_creation_attribute c (record { name = name; value = value })
  is_step_of unit sector step = rw (unit, sector, step) (shaped c is_step (λ n. record c.shape { step = n }) (number_of_text value))

  pub is_blocks : is_same_name name (codes "au_size") ≡ false → is_same_name name (codes "sector_size") ≡ false → is_same_name name (codes "extent_step") ≡ false → is_same_name name (codes "dir_blocks") ≡ true
      → option_map (λ (s : Shape). record c { shape = s }) (shape_if is_dir_blocks (λ n. record c.shape { dir_blocks = n }) (number_of_text value)) ≡ with_creation_attribute c (record { name = name; value = value })
  is_blocks unit sector step blocks = rw (unit, sector, step, blocks) (shaped c is_dir_blocks (λ n. record c.shape { dir_blocks = n }) (number_of_text value))

  pub is_other : is_same_name name (codes "au_size") ≡ false → is_same_name name (codes "sector_size") ≡ false → is_same_name name (codes "extent_step") ≡ false → is_same_name name (codes "dir_blocks") ≡ false
      → option_map (λ (a : Attributes). record c { attributes = a }) (with_attribute c.attributes (record { name = name; value = value })) ≡ with_creation_attribute c (record { name = name; value = value })
  is_other unit sector step blocks = rw (unit, sector, step, blocks) refl

-- ---- values that may be set at any time

-- the attributes of these settings
same_attributes : (s : Settings) (o : Option Attributes) → option_map (λ (t : Settings). t.attributes) (option_map (λ (a : Attributes). record s { attributes = a }) o) ≡ o
same_attributes s None = refl
same_attributes s (Some a) = refl

attributes_set : (s : Settings) (name value : Bytes) (o : Option Settings) → o ≡ settings_with s name value
    → option_map (λ (t : Settings). t.attributes) o ≡ with_attribute s.attributes (record { name = name; value = value })
attributes_set s name value o is = ap (option_map (λ (t : Settings). t.attributes)) is ∙ same_attributes s (with_attribute s.attributes (record { name = name; value = value }))

pub no_setting : (c : world.Creation) (s : Settings) (name value : Bytes) → None ≡ settings_with s name value
    → None ≡ option_map (λ (a : Attributes). record c { attributes = a }) (with_attribute s.attributes (record { name = name; value = value }))
no_setting c s name value none = ap (option_map (λ (a : Attributes). record c { attributes = a })) (attributes_set s name value None none)

pub setting_is : (c : world.Creation) (s t : Settings) (name value : Bytes) → Some t ≡ settings_with s name value
    → Some (record c { attributes = t.attributes }) ≡ option_map (λ (a : Attributes). record c { attributes = a }) (with_attribute s.attributes (record { name = name; value = value }))
setting_is c s t name value some = ap (option_map (λ (a : Attributes). record c { attributes = a })) (attributes_set s name value (Some t) some)

-- the incarnation stays
pub still_first : (s t : Settings) (name value : Bytes) → Some t ≡ settings_with s name value → t.incarnation ≡ s.incarnation
still_first s t name value some = by (with_attribute s.attributes (record { name = name; value = value })) some
  where
    by : (o : Option Attributes) → Some t ≡ option_map (λ (a : Attributes). record s { attributes = a }) o → t.incarnation ≡ s.incarnation
    by None is = absurd (let same : Some t ≡ None = is in cc)
    by (Some a) is = let same : t ≡ record s { attributes = a } = cc in ap (λ (u : Settings). u.incarnation) same

pub usual_allowed : (s : Settings) → s ≡ record { incarnation = 1; attributes = usual_attributes } → is_item (settings_item s) ≡ true
unfolding is_item
usual_allowed s e = rw e refl
