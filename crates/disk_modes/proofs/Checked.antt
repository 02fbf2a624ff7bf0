-- What was checked before a statement changes modes.
use Rattle.std.proofs.Common.{◌≡◌, ⊎_elim, inl, inr, ℕ, ◌+◌, ◌<◌, ◌≤◌, Bool, true, false, cond, not, ◌&&◌, ◌||◌, ◌==◌, List, [], ◌∷◌, length, take, get_or, reverse, find, IsTrue, Option, Some, None, Result, Ok, Err, refl, sym, ap, subst, ◌∙◌}
use Rattle.std.specs.Prelude.{OnOk}
use Rattle.std.specs.Option.{option_map}
use Rattle.std.proofs.lemmas.Bool.{eq-eqb, eqb-true, false≢true}
use Rattle.std.proofs.lemmas.List.{reverse-append, take_all, take_more}
use Rattle.refusal_lines.specs.declared.refusal.Refusal.{Refusal}
use Rattle.asm_group.specs.declared.Mode.{Mode}
use Rattle.asm_group.specs.declared.Mode.TheVariants as mode
use Rattle.asm_formats.specs.Among.{IsAmong}
use Rattle.asm_formats.specs.Sets.{has_bit}
use Rattle.asm_formats.specs.Status.{Entry, Status, is_entry, is_status}
use Rattle.asm_placement.specs.Modes.{is_forced, is_online}
use Rattle.asm_placement.proofs.Membership.{among_split}
use Rattle.asm_images.proofs.Committing.{find_passes}
use Rattle.asm_images.proofs.Replacing.{found_among}
use Rattle.asm_images.proofs.UserBytes.{all_of_list}
use Rattle.record_laws.specs.group_engine.Mounts.{MountedGroup}
use Rattle.record_laws.proofs.group_engine.Records.{record_parts}
use Rattle.disk_modes.specs.declared.checking.Statement.{Statement}
use Rattle.disk_modes.specs.declared.changing.Changes.{Changes}
use Rattle.disk_modes.specs.declared.changing.Changes.TheVariants as changes
use Rattle.disk_modes.specs.declared.dropping.DropDisk.{DropDisk}
use Rattle.disk_modes.specs.declared.records.NewModes.{NewModes}
use Rattle.disk_modes.specs.declared.records.NewModes.TheVariants as modes
use Rattle.disk_modes.specs.Effects.{AreNamedToDrop, changes_for, is_dropped_by}
use Rattle.disk_modes.specs.Directories.{IsLeft, LeavesCopy}
use Rattle.disk_modes.specs.Modes.{TakesEachDisk, drop_as, other, takes}
use Rattle.disk_modes.specs.Stops.{AreModesAllowed, AreTakenAs, HasTwoTurns, MayMakeChanges, MayPutModes, TakesDisk}
use Rattle.disk_modes.proofs.Naming.{small}
use Rattle.disk_modes.proofs.Reasons.{of_record}

pub on_both : (P Q R : Type 0) (r : Result (Unit {0}) Refusal) → (P → Q → R) → P → OnOk r Q → OnOk r R
on_both P Q R (Ok done) f p q = f p q
on_both P Q R (Err e) f p q = tt

-- ---- modes

pub none_passes : {A : Type 0} (t : A → Bool) (xs : List A) → find t xs ≡ None → (x : A) → IsAmong xs x → t x ≡ false
none_passes t [] none x among = absurd among
none_passes {A} t (y ∷ ys) none x among = go (t y) refl none (λ rest later. none_passes t ys rest x later)
  where
    go : (b : Bool) → t y ≡ b → cond b (Some y) (find t ys) ≡ None → (find t ys ≡ None → IsAmong ys x → t x ≡ false) → t x ≡ false
    go true e found later = absurd cc
    go false e found later = ⊎_elim (λ same. ap t same ∙ e) (λ behind. later found behind) among

taken_if : (a b : Bool) → (a && not b) ≡ false → a ≡ true → b ≡ true
taken_if true true out is = refl
taken_if true false out is = absurd cc
taken_if false b out is = absurd cc

pub all_taken : (of : Statement) (disks : ℕ) (es : List Entry) → other of disks es ≡ None → TakesEachDisk of disks es
all_taken of disks es none e among has =
    taken_if (has_bit disks e.number) (takes of e.mode) (none_passes (λ (x : Entry). has_bit disks x.number && not (takes of x.mode)) es none e among) has

pub all_taken_in : (of : Statement) (m : MountedGroup) (r : Status) (es : List Entry) (disks : ℕ) → r ≡ m.register.value → es ≡ r.entries → TakesEachDisk of disks es → TakesEachDisk of disks m.register.value.entries
all_taken_in of m r es disks held is taken = subst (λ (x : List Entry). TakesEachDisk of disks x) (of_record m r es held is) taken

-- ---- directory copies

pub one_left : (directories disks : ℕ) → IsLeft directories disks → LeavesCopy directories disks
one_left directories disks left d lt has = left

pub none_there : (directories disks : ℕ) → ((d : ℕ) → d < 64 → has_bit directories d ≡ false) → LeavesCopy directories disks
none_there directories disks none d lt has = absurd (false≢true (sym (none d lt) ∙ has))

pub leaves_in : (m : MountedGroup) (r : Status) (n disks : ℕ) (res : Result (Unit {0}) Refusal) → r ≡ m.register.value → n ≡ r.directories → OnOk res (LeavesCopy n disks) → OnOk res (LeavesCopy m.register.value.directories disks)
leaves_in m r n disks res held is = subst (λ (x : ℕ). OnOk res (LeavesCopy x disks)) (is ∙ ap (λ (x : Status). x.directories) held)

-- ---- DROP

or_left : (a b : Bool) → a ≡ true → (a || b) ≡ true
or_left true b is = refl
or_left false b is = absurd cc

-- of the set of one disk
pub takes_one : (of wanted : Statement) (m : MountedGroup) (r : Status) (es : List Entry) (alone none d : ℕ) (res : Result (Unit {0}) Refusal) → r ≡ m.register.value → es ≡ r.entries → of ≡ wanted
    → ((k : ℕ) → k < 64 → has_bit alone k ≡ (k == d || has_bit none k)) → OnOk res (TakesEachDisk of alone es) → OnOk res (TakesDisk wanted d m.register.value.entries)
takes_one of wanted m r es alone none d res held is same set = on_both (Unit {0}) (TakesEachDisk of alone es) (TakesDisk wanted d m.register.value.entries) res
    (λ u taken. subst (λ (x : Statement). TakesDisk x d m.register.value.entries) same (λ e among lt number.
    all_taken_in of m r es alone held is taken e among (set e.number lt ∙ or_left (e.number == d) (has_bit none e.number) (eq-eqb e.number d number)))) tt

pub none_taken : (m : MountedGroup) (forced : ℕ) (disks : List DropDisk) → AreTakenAs m forced (take 0 disks)
none_taken m forced disks x among = absurd among

pub one_taken : (m : MountedGroup) (forced : ℕ) (disks : List DropDisk) (i : ℕ) (d x : DropDisk) → i < length disks → x ≡ get_or disks i d → AreTakenAs m forced (take i disks)
    → TakesDisk (drop_as (has_bit forced x.disk)) x.disk m.register.value.entries → AreTakenAs m forced (take (i + 1) disks)
one_taken m forced disks i d x lt is so_far here y among = ⊎_elim
    (λ before. so_far y before)
    (λ last. ⊎_elim (λ same. subst (λ (z : DropDisk). TakesDisk (drop_as (has_bit forced z.disk)) z.disk m.register.value.entries) (is ∙ sym same) here) (λ none. absurd none) last)
    (among_split (take i disks) (get_or disks i d ∷ []) y (subst (λ (l : List DropDisk). IsAmong l y) (take_more disks i d lt) among))

pub all_taken_as : (m : MountedGroup) (forced : ℕ) (disks : List DropDisk) (i : ℕ) → length disks ≤ i → AreTakenAs m forced (take i disks) → AreTakenAs m forced disks
all_taken_as m forced disks i le taken = subst (λ (l : List DropDisk). AreTakenAs m forced l) (take_all i disks le) taken

among_reverse : {A : Type 0} (xs : List A) (y : A) → IsAmong (reverse xs) y → IsAmong xs y
among_reverse [] y among = among
among_reverse {A} (x ∷ xs) y among = ⊎_elim
    (λ before. inr (among_reverse xs y before))
    (λ last. ⊎_elim (λ same. inl same) (λ none. absurd none) last)
    (among_split (reverse xs) (x ∷ []) y (subst (λ (l : List A). IsAmong l y) (reverse-append (x ∷ []) xs) among))

-- a disk that is to be emptied was named so last
named_so : (disks : List DropDisk) (d : ℕ) (o : Option DropDisk) → find (λ (x : DropDisk). d == x.disk) (reverse disks) ≡ o → is_dropped_by (option_map (λ (x : DropDisk). x.force) o) ≡ true
    → (x : DropDisk) × IsAmong disks x × (x.disk ≡ d)
named_so disks d None found is = absurd cc
named_so disks d (Some x) found is =
    let passes : (d == x.disk) ≡ true = find_passes (λ (y : DropDisk). d == y.disk) (reverse disks) x found in
    (x, among_reverse disks x (found_among (λ (y : DropDisk). d == y.disk) (reverse disks) x found), sym (eqb-true d x.disk passes))

online_is : (m : Mode) → is_online m ≡ true → is_forced m ≡ false
online_is mode.Online on = refl
online_is mode.Offline on = refl
online_is mode.Syncing on = refl
online_is mode.Dropping on = refl
online_is mode.Forced on = absurd cc

pub drop_taken : (m : MountedGroup) (disks : List DropDisk) (dropping forced : ℕ) → IsTrue (is_status m.register.value) → AreNamedToDrop disks dropping forced → AreTakenAs m forced disks
    → AreModesAllowed (modes.Dropped dropping forced) m.register.value.entries
drop_taken m disks dropping forced allowed named taken e among out has =
    let lt : e.number < 64 = small e (all_of_list is_entry m.register.value.entries e (record_parts m.register.value allowed).entries among) in
    let x = named_so disks e.number (find (λ (y : DropDisk). e.number == y.disk) (reverse disks)) refl (sym (named.without_force e.number lt) ∙ has) in
    let option : has_bit forced x.0.disk ≡ false = ap (has_bit forced) x.2 ∙ out in
    online_is e.mode (subst (λ (b : Bool). takes (drop_as b) e.mode ≡ true) option (taken x.0 x.1 e among lt (sym x.2)))

pub may_drop : (m : MountedGroup) (disks : List DropDisk) (dropping forced : ℕ) (r : Result (Unit {0}) Refusal) → IsTrue (is_status m.register.value) → AreTakenAs m forced disks
    → OnOk r (LeavesCopy m.register.value.directories forced) → AreNamedToDrop disks dropping forced → OnOk r (MayPutModes (modes.Dropped dropping forced) m.register.value)
may_drop m disks dropping forced r allowed taken left named = on_both (Unit {0}) (LeavesCopy m.register.value.directories forced) (MayPutModes (modes.Dropped dropping forced) m.register.value) r
    (λ u leaves. record { taken = drop_taken m disks dropping forced allowed named taken; left = leaves }) tt left

-- with any FORCE the record comes first
pub drop_may_make : (m : MountedGroup) (dropping forced power : ℕ) (of : Changes) (to : NewModes) → of ≡ changes_for forced power → to ≡ modes.Dropped dropping forced
    → MayPutModes (modes.Dropped dropping forced) m.register.value → HasTwoTurns m → MayMakeChanges of to m
drop_may_make m dropping forced power of to is same may turns =
    subst (λ (x : Changes). MayMakeChanges x to m) (sym is) (subst (λ (x : NewModes). MayMakeChanges (changes_for forced power) x m) (sym same) (go (forced == 0) refl))
  where
    go : (b : Bool) → (forced == 0) ≡ b → MayMakeChanges (cond b (changes.RebalanceThenModes power) (changes.ModesThenRebalance power)) (modes.Dropped dropping forced) m
    go true none = (may.taken, eqb-true forced 0 none)
    go false some = (may, turns)
