-- Where a mounted group may get a record, it may get the one with fewer directory copies.
use Rattle.std.proofs.Common.{ℕ, not, List, [], ◌∷◌, refl, sym, ap, subst, ◌∙◌, Some, arith, IsTrue}
use Rattle.bay.specs.Image as bay
use Rattle.bay.specs.State.{BayState}
use Rattle.asm_group.specs.Group.{Group}
use Rattle.asm_formats.specs.Among.{IsAmong}
use Rattle.asm_formats.specs.Header.{Header}
use Rattle.asm_formats.specs.Status.{Entry, Status, entry_of}
use Rattle.asm_placement.specs.Modes.{is_forced}
use Rattle.asm_images.specs.Bridge.{disks_in}
use Rattle.asm_images.specs.Copies.{is_disk_in, is_kept}
use Rattle.asm_images.specs.Directories.{IsNamed}
use Rattle.asm_images.specs.Kept.{Kept}
use Rattle.asm_images.specs.Members.{all_members}
use Rattle.status_register.specs.Holders.{with_next_number}
use Rattle.group_engine.specs.Mounts.{MountedGroup}
use Rattle.group_engine.specs.Recorded.{MayBeWritten, MayGet}
use Rattle.group_engine.specs.Statuses.{IsNextOf}
use Rattle.group_engine.proofs.Calls.{items}
use Rattle.group_engine.proofs.Mounting.{entries_describe}
use Rattle.group_engine.proofs.Renewing.{content_found}
use Rattle.record_laws.specs.Getting.{FewerCopiesMayBeGot, NamesFewer}
use Rattle.record_laws.proofs.Covered.{IsAlike, alike_is_covered}
use Rattle.record_laws.proofs.Images.{have, is_there, was_named}

module _ (s : BayState) (n : ℕ) (m : MountedGroup) (next fewer : Status) (g : Group) (kept : Kept) (got : MayGet n m next s g kept) (is_next : IsNextOf m next) (is_fewer : IsNextOf m fewer)
    (names : NamesFewer next fewer) where
  abbrev id : ℕ
  id = m.register.id

  abbrev p : Status
  p = with_next_number m.register next

  abbrev q : Status
  q = with_next_number m.register fewer

  also_named : (h : Header) → IsNamed q h → IsNamed p h
  also_named h named = record {
    named = names.fewer h.number named.named;
    entry = named.entry;
    entry_is = ap (λ (es : List Entry). entry_of es h.number) (sym names.entries) ∙ named.entry_is;
    birth = named.birth;
  }

  also_kept : (d : ℕ) (h : Header) → IsTrue (is_kept q d h) → IsTrue (is_kept p d h)
  unfolding is_kept
  also_kept d h is = subst (λ (es : List Entry). IsTrue (is_disk_in (λ mode. not (is_forced mode)) d h (entry_of es d))) names.entries is

  module _ (x : bay.Image) (left : s.leaves s.calls x) where
    before : MayBeWritten n id (g ∷ []) kept p x
    before = got.may.now x left

    alike : (slots : ℕ) → IsAlike id (disks_in slots x) g p q (record { commit = m.store.number; items = Some (items n m s g kept got.mounts).0 }) (items n m s g kept got.mounts).0
    alike slots = record {
      decodes = refl;
      have = λ k among named. have n m s g kept got.mounts x left slots k among (was_named n m s g kept got.mounts x left next is_next k.header named);
      found = λ k among named. content_found p (all_members id (disks_in slots x)) k among named (record { commit = m.store.number; items = Some (items n m s g kept got.mounts).0 })
          (λ z z_among z_named. have n m s g kept got.mounts x left slots z z_among (was_named n m s g kept got.mounts x left next is_next z.header z_named));
      named = also_named;
      births = omega (arith, names.births);
      units = λ k among shape had e is birth. had e (ap (λ (es : List Entry). entry_of es k.header.number) (sym names.entries) ∙ is) birth;
      kept = λ d h some is. also_kept d h is;
      describes = let l = items n m s g kept got.mounts in entries_describe next q l.0 g (sym names.entries) (got.describes l.0 l.1);
    }

    written : MayBeWritten n id (g ∷ []) kept q x
    written = record {
      births = λ e h. before.births e (subst (λ (es : List Entry). IsAmong es e) names.entries h);
      own_births = λ e h. omega (arith, before.own_births e (subst (λ (es : List Entry). IsAmong es e) names.entries h), names.births);
      covers = λ slots. alike_is_covered id (disks_in slots x) g p q (record { commit = m.store.number; items = Some (items n m s g kept got.mounts).0 }) (items n m s g kept got.mounts).0 (alike slots) (before.covers slots);
      there = is_there n m s g kept got.mounts x left fewer is_fewer names.some.0 names.some.1;
    }

  fewer_got : MayGet n m fewer s g kept
  fewer_got = record {
    mounts = got.mounts;
    may = record { now = λ x left. written x left };
    describes = λ l are. entries_describe next fewer l g (sym names.entries) (got.describes l are);
    turns = got.turns;
  }

pub fewer_copies_may_be_got : (s : BayState) → FewerCopiesMayBeGot s
fewer_copies_may_be_got s = λ n m next fewer g kept got is_next is_fewer names. fewer_got s n m next fewer g kept got is_next is_fewer names
