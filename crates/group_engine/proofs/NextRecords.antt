-- A record with the same disks may come next.
use Rattle.std.proofs.Common.{◌≡◌, ℕ, List, map, refl, sym, ap, subst, ◌∙◌, Option, Some, None}
use Rattle.std.specs.List.{range_with_len}
use Rattle.std.specs.Option.{option_map}
use Rattle.std.proofs.lemmas.Option.{same_Some}
use Rattle.rebalance.specs.allocator.UnitMaps.{UnitMap, unused}
use Rattle.asm_formats.specs.Following.{sets_of, sets}
use Rattle.asm_formats.specs.Regions.{reserved_units}
use Rattle.asm_formats.specs.Sets.{elements, most_disks}
use Rattle.asm_formats.specs.Status.{Entry, entry_of}
use Rattle.asm_formats.proofs.Orders.{same_sets_follow}
use Rattle.asm_group.specs.Shape.{Shape}
use Rattle.asm_formats.specs.Among.{IsAmong}
use Rattle.asm_images.specs.RecordLaws.{bare}
use Rattle.asm_images.proofs.Bare.{Bare, same_entry, same_sets}
use Rattle.rebalance.specs.catalog_tables.Placing.{after_chunks, disk_units, entry_units, unused_maps}
use Rattle.status_register.specs.Holders.{is_of}
use Rattle.status_register.specs.Registered.{is_same_birth}
use Rattle.status_register.specs.declared.member.Member.{Member}
use Rattle.status_register.proofs.Reaching.{same_sets_reach}
use Rattle.group_engine.specs.NextRecords.{SameDisksAreNext}

-- ---- births and units

same_birth : (o p : Option Entry) → option_map bare o ≡ option_map bare p → option_map (λ (e : Entry). e.birth) o ≡ option_map (λ (e : Entry). e.birth) p
same_birth None None e = refl
same_birth None (Some y) e = absurd cc
same_birth (Some x) None e = absurd cc
same_birth (Some x) (Some y) e = ap (λ (b : Bare). Some b.1) (same_Some (bare x) (bare y) e)

same_is_of : (xs ys : List Entry) (m : Member) → map bare xs ≡ map bare ys → is_of xs m ≡ is_of ys m
same_is_of xs ys m e = ap (λ (o : Option ℕ). is_same_birth o m.birth) (same_birth (entry_of xs m.number) (entry_of ys m.number) (same_entry xs ys m.number e))

same_units : (o p : Option Entry) → option_map bare o ≡ option_map bare p → entry_units o ≡ entry_units p
same_units None None e = refl
same_units None (Some y) e = absurd cc
same_units (Some x) None e = absurd cc
same_units (Some x) (Some y) e = ap (λ (b : Bare). b.2) (same_Some (bare x) (bare y) e)

units_of : (xs ys : List Entry) (d : ℕ) → map bare xs ≡ map bare ys → disk_units xs d ≡ disk_units ys d
unfolding entry_of
units_of xs ys d e = same_units (entry_of xs d) (entry_of ys d) (same_entry xs ys d e)

same_maps : (s : Shape) (xs ys : List Entry) → map bare xs ≡ map bare ys → unused_maps s xs ≡ unused_maps s ys
same_maps s xs ys e = λ i. map (λ (d : ℕ). unused (reserved_units s) (units_of xs ys d e i)) (range_with_len 0 most_disks)

-- an entry that is the same but for what may differ
from_some : {A B : Type 0} (f : A → B) (o : Option A) (y : B) → option_map f o ≡ Some y → (x : A) × (o ≡ Some x) × (f x ≡ y)
from_some f None y is = absurd cc
from_some f (Some x) y is = (x, refl, same_Some (f x) y is)

-- ---- the record

pub same_disks_are_next : SameDisksAreNext
same_disks_are_next = λ m next whole allowed keeps.
    let r = m.register.value in
    let all : sets next ≡ sets r = (λ i. sets_of next.entries (keeps.holders i) (keeps.next_holders i)) ∙ same_sets next.entries r.entries r.holders r.next_holders keeps.entries in
    record {
      status = allowed;
      group = keeps.id;
      alive = keeps.gone ∙ whole.alive;
      follows = same_sets_follow r next all;
      reached = same_sets_reach m.register.members r next all whole.reached;
      births = λ d x e is entry.
          let was = from_some bare (entry_of r.entries d) (bare e) (sym (same_entry next.entries r.entries d keeps.entries) ∙ ap (option_map bare) entry) in
          whole.births d x was.0 is was.1 ∙ ap (λ (b : Bare). b.1) was.2;
      copies = record {
        each = λ c among named. let is = whole.copies.each c among in record {
          named = named;
          member = is.member;
          attached = is.attached;
          slot = is.slot;
          entry = same_is_of next.entries r.entries is.member keeps.entries ∙ is.entry;
          pages = is.pages;
          sector = is.sector;
        };
        all = λ d named. whole.copies.all d (subst (λ (set : ℕ). IsAmong (elements set) d) keeps.directories named);
      };
      units = (m.catalog.units, subst (λ (maps : List UnitMap). after_chunks m.catalog.shape.step maps m.catalog.tables.extents ≡ Some m.catalog.units) (sym (same_maps m.catalog.shape next.entries r.entries keeps.entries)) whole.units);
    }
