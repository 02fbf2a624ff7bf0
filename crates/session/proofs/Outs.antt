-- Why a name has no mounted group.
use Rattle.std.proofs.Common.{◌≡◌, ◌⊎◌, ⊎_elim, inl, inr, ℕ, [], map, Option, Some, None, refl, sym, ◌∙◌, ap, subst}
use Rattle.std.specs.Map.{lookup}
use Rattle.refusal_lines.specs.Refusals.{meaning_of}
use Rattle.refusal_lines.specs.declared.refusal.DiskRef.TheVariants as disk
use Rattle.refusal_lines.specs.declared.refusal.Refusal.{Refusal}
use Rattle.refusal_lines.specs.declared.refusal.Refusal.TheVariants as cause
use Rattle.asm_group.specs.Names.{Bytes}
use Rattle.asm_group.specs.Refusal as r
use Rattle.asm_world.specs.World.{SessionEntry, SessionState, entry_among}
use Rattle.group_contents.specs.group_engine.Making.{IsShut}
use Rattle.group_contents.specs.group_engine.Making.{dismounted_by}
use Rattle.group_contents.specs.group_engine.Mounts.{MountedGroup}
use Rattle.group_contents.specs.group_engine.declared.access.Access.{Access}
use Rattle.group_contents.specs.group_engine.declared.access.Access.TheVariants as access
use Rattle.session.specs.declared.entry.Entry.{Entry}
use Rattle.session.specs.Entries.{by_disk, disk_name, entry_view}
use Rattle.session.specs.Naming.{IsOutCause, in_state, of_entry}
use Rattle.session.specs.Works.{SpellsRefusal}
use Rattle.session.proofs.Entries.{sought}
use Rattle.session.proofs.Grouped.{Pairs, entry_found, none_found}

shut_by : (m : MountedGroup) (a : Access) (raw refusal : Refusal) → IsShut a raw → SpellsRefusal m raw refusal → in_state (by_disk m (dismounted_by a)) (meaning_of (λ _. []) refusal) ⊎ (meaning_of (λ _. []) refusal ≡ r.NoMemory)
unfolding meaning_of
shut_by m access.Mounted raw refusal shut spells = absurd shut
shut_by m (access.Dismounted d) raw refusal shut spells = ⊎_elim (λ same. inl (same ∙ ap (meaning_of (disk_name m)) shut)) (λ none. inr none) spells
shut_by m access.Closed raw refusal shut spells = inr (⊎_elim (λ same. same ∙ ap (meaning_of (disk_name m)) shut) (λ none. none) spells)

-- its group takes no calls
pub shut_out : (name : Bytes) (es : Pairs) (v : Entry) (raw refusal : Refusal) → lookup (sought name) es ≡ Some v → IsShut v.group.access raw → SpellsRefusal v.group raw refusal → IsOutCause (map entry_view es) name refusal
shut_out name es v raw refusal found shut spells =
    let at = entry_found name es v found in
    rw (at.named, at.state) (shut_by v.group v.group.access raw refusal shut spells)

off_by : (a : Access) (raw : Refusal) → IsShut a raw → a ≡ access.Mounted → ⊥
off_by a raw shut on = subst (λ (b : Access). IsShut b raw) on shut

-- the same where the group is seen once nothing was done to it
pub shut_after : (name : Bytes) (es : Pairs) (v : Entry) (after : MountedGroup) (raw refusal : Refusal) → lookup (sought name) es ≡ Some v → ((v.group.access ≡ access.Mounted → ⊥) → after ≡ v.group) → IsShut v.group.access raw
    → SpellsRefusal after raw refusal → IsOutCause (map entry_view es) name refusal
shut_after name es v after raw refusal found same shut spells =
    shut_out name es v raw refusal found shut (subst (λ (m : MountedGroup). SpellsRefusal m raw refusal) (same (off_by v.group.access raw shut)) spells)

-- it isn't in the session
pub absent_out : (name : Bytes) (es : Pairs) (refusal : Refusal) → lookup (sought name) es ≡ None → meaning_of (λ _. []) refusal ≡ r.NoGroup → IsOutCause (map entry_view es) name refusal
absent_out name es refusal none is = inl (rw (none_found name es none) is)
