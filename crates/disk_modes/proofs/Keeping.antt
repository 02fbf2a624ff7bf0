-- Records with other modes: the same disks.
use Rattle.std.proofs.Common.{◌≡◌, ℕ, Bool, true, false, cond, List, [], ◌∷◌, map, length, refl, sym, ap, subst, ◌∙◌, ◌==◌, arith, IsTrue}
use Rattle.asm_group.specs.declared.Mode.{Mode}
use Rattle.asm_group.specs.declared.Mode.TheVariants.{Offline}
use Rattle.asm_formats.specs.Status.{Entry, Status, is_status}
use Rattle.asm_images.specs.RecordLaws.{bare}
use Rattle.status_table.specs.Changes.{entries_with_partners, entry_with_mode, entry_with_offline, status_with_mode, status_with_offline, status_with_partners}
use Rattle.record_laws.specs.group_engine.NextRecords.{KeepsDisks}
use Rattle.disk_modes.specs.declared.records.NewModes.{NewModes}
use Rattle.disk_modes.specs.Records.{HasFewer, IsChanged, entry_after}

-- ---- one change

bare_mode : (d : ℕ) (mode : Mode) (since : ℕ) (e : Entry) → bare (entry_with_mode d mode since e) ≡ bare e
bare_mode d mode since e = go (e.number == d)
  where
    go : (b : Bool) → bare (cond b (record e { mode = mode; since = since }) e) ≡ bare e
    go true = refl
    go false = refl

all_mode : (d : ℕ) (mode : Mode) (since : ℕ) (es : List Entry) → map bare (map (entry_with_mode d mode since) es) ≡ map bare es
all_mode d mode since [] = refl
all_mode d mode since (e ∷ es) = λ i. bare_mode d mode since e i ∷ all_mode d mode since es i

bare_offline : (d since repair : ℕ) (e : Entry) → bare (entry_with_offline d since repair e) ≡ bare e
bare_offline d since repair e = go (e.number == d)
  where
    go : (b : Bool) → bare (cond b (record e { mode = Offline; since = since; repair = repair }) e) ≡ bare e
    go true = refl
    go false = refl

all_offline : (d since repair : ℕ) (es : List Entry) → map bare (map (entry_with_offline d since repair) es) ≡ map bare es
all_offline d since repair [] = refl
all_offline d since repair (e ∷ es) = λ i. bare_offline d since repair e i ∷ all_offline d since repair es i

-- other entries with the same numbers, births and units
of_entries : (r : Status) (es : List Entry) → map bare es ≡ map bare r.entries → KeepsDisks r (record r { entries = es })
of_entries r es same = record { id = refl; gone = refl; holders = refl; next_holders = refl; directories = refl; entries = same }

pub keeps_same : (r s : Status) → s ≡ r → KeepsDisks r s
keeps_same r s is = subst (λ (q : Status). KeepsDisks r q) (sym is) (of_entries r r.entries refl)

pub keeps_mode : (r s : Status) (d : ℕ) (mode : Mode) (since : ℕ) → s ≡ status_with_mode r d mode since → KeepsDisks r s
keeps_mode r s d mode since is = subst (λ (q : Status). KeepsDisks r q) (sym is) (of_entries r (map (entry_with_mode d mode since) r.entries) (all_mode d mode since r.entries))

pub keeps_offline : (r s : Status) (d since repair : ℕ) → s ≡ status_with_offline r d since repair → KeepsDisks r s
keeps_offline r s d since repair is = subst (λ (q : Status). KeepsDisks r q) (sym is) (of_entries r (map (entry_with_offline d since repair) r.entries) (all_offline d since repair r.entries))

bare_partners : (es : List Entry) (sets : List ℕ) → length sets ≡ length es → map bare (entries_with_partners es sets) ≡ map bare es
bare_partners [] sets same = refl
bare_partners (e ∷ es) [] same = absurd (omega arith)
bare_partners (e ∷ es) (s ∷ sets) same = λ i. bare e ∷ bare_partners es sets (omega arith) i

pub keeps_partners : (r s : Status) (sets : List ℕ) → length sets ≡ length r.entries → s ≡ status_with_partners r sets → KeepsDisks r s
keeps_partners r s sets same is = subst (λ (q : Status). KeepsDisks r q) (sym is) (of_entries r (entries_with_partners r.entries sets) (bare_partners r.entries sets same))

-- ---- one after the other

pub keeps_on : (r s t : Status) → KeepsDisks r s → KeepsDisks s t → KeepsDisks r t
keeps_on r s t one two = record {
  id = two.id ∙ one.id;
  gone = two.gone ∙ one.gone;
  holders = two.holders ∙ one.holders;
  next_holders = two.next_holders ∙ one.next_holders;
  directories = two.directories ∙ one.directories;
  entries = two.entries ∙ one.entries;
}

-- other modes, other partners and fewer copies
pub changed_by : (new : NewModes) (r modes next s : Status) → KeepsDisks r modes → modes ≡ record r { entries = map (entry_after new) r.entries } → IsTrue (is_status next) → KeepsDisks modes next
    → next.births ≡ modes.births → HasFewer next s → IsChanged r s
changed_by new r modes next s one made allowed two births fewer = record {
  named = next;
  allowed = allowed;
  disks = keeps_on r modes next one two;
  births = births ∙ ap (λ (x : Status). x.births) made;
  fewer = fewer;
}
