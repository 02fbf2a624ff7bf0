-- The disks that a DROP names, disk by disk, and what becomes of their entries.
use Rattle.std.proofs.Common.{◌≡◌, ◌≢◌, ℕ, ◌+◌, ◌/◌, ◌%◌, ◌^◌, ◌<◌, ◌≤◌, Bool, true, false, cond, not, ◌&&◌, ◌||◌, ◌==◌, List, [], ◌∷◌, ◌++◌, map, length, take, get_or, reverse, find, Option, Some, None, refl, sym, ap, ◌∙◌, arith}
use Rattle.std.specs.Prelude.{nat_lt}
use Rattle.std.specs.List.{list_all}
use Rattle.std.specs.Option.{option_map}
use Rattle.std.proofs.lemmas.Bool.{and_parts, ltb-true, ne_eqb}
use Rattle.std.proofs.Math.Nat.{zero-div}
use Rattle.std.proofs.lemmas.List.{reverse-append, take_all, take_more}
use Rattle.asm_formats.specs.Sets.{has_bit, most_disks}
use Rattle.asm_formats.specs.Status.{Entry, is_entry}
use Rattle.disk_modes.specs.declared.dropping.DropDisk.{DropDisk}
use Rattle.disk_modes.specs.declared.records.NewModes.TheVariants as modes
use Rattle.disk_modes.specs.Effects.{AreNamedToDrop, drop_to, entry_dropped, entry_forced, is_dropped_by, is_forced_by, drop_option_of}
use Rattle.disk_modes.specs.Records.{entry_after, entry_as}

-- ---- sets

-- the empty set has no disk
pub no_bit : (d : ℕ) → has_bit 0 d ≡ false
unfolding has_bit
no_bit d = ne_eqb (0 / 2 ^ d % 2) 1 (λ e. omega (arith, e, ap (λ (n : ℕ). n % 2) (zero-div (2 ^ d))))

pub with_as : (b x : Bool) → (b || x) ≡ cond b true x
with_as true x = refl
with_as false x = refl

pub without_as : (b x : Bool) → (not b && x) ≡ cond b false x
without_as true x = refl
without_as false x = refl

pub past_as : (d disk : ℕ) (y x : Bool) → d < 64 → 64 ≤ disk → x ≡ cond (d == disk) y x
past_as d disk y x lt le =
    let differ : d ≢ disk = λ same. omega (arith, lt, le, same) in
    ap (λ (b : Bool). cond b y x) (sym (ne_eqb d disk differ))

pub past_or : (d disk : ℕ) (x : Bool) → d < 64 → 64 ≤ disk → x ≡ (d == disk || x)
past_or d disk x lt le =
    let differ : d ≢ disk = λ same. omega (arith, lt, le, same) in
    ap (λ (b : Bool). b || x) (sym (ne_eqb d disk differ))

-- ---- the last option

option_more : (xs : List DropDisk) (x : DropDisk) (d : ℕ) → drop_option_of (xs ++ (x ∷ [])) d ≡ cond (d == x.disk) (Some x.force) (drop_option_of xs d)
option_more xs x d = ap (λ (ys : List DropDisk). option_map (λ (y : DropDisk). y.force) (find (λ (y : DropDisk). d == y.disk) ys)) (reverse-append xs (x ∷ [])) ∙ go (d == x.disk)
  where
    go : (b : Bool) → option_map (λ (y : DropDisk). y.force) (cond b (Some x) (find (λ (y : DropDisk). d == y.disk) (reverse xs))) ≡ cond b (Some x.force) (drop_option_of xs d)
    go true = refl
    go false = refl

dropped_more : (b force h : Bool) (o : Option Bool) → h ≡ is_dropped_by o → cond b (not force) h ≡ is_dropped_by (cond b (Some force) o)
dropped_more true force h o is = refl
dropped_more false force h o is = is

forced_more : (b force h : Bool) (o : Option Bool) → h ≡ is_forced_by o → cond b force h ≡ is_forced_by (cond b (Some force) o)
forced_more true force h o is = refl
forced_more false force h o is = is

pub named_more : (disks : List DropDisk) (i : ℕ) (e x : DropDisk) (dropping forced dropping' forced' : ℕ) → i < length disks → x ≡ get_or disks i e → AreNamedToDrop (take i disks) dropping forced
    → ((d : ℕ) → d < 64 → has_bit dropping' d ≡ cond (d == x.disk) (not x.force) (has_bit dropping d)) → ((d : ℕ) → d < 64 → has_bit forced' d ≡ cond (d == x.disk) x.force (has_bit forced d))
    → AreNamedToDrop (take (i + 1) disks) dropping' forced'
named_more disks i e x dropping forced dropping' forced' lt is so_far drops forces =
    let longer : take (i + 1) disks ≡ take i disks ++ (x ∷ []) = take_more disks i e lt ∙ ap (λ (y : DropDisk). take i disks ++ (y ∷ [])) (sym is) in
    let option : (d : ℕ) → drop_option_of (take (i + 1) disks) d ≡ cond (d == x.disk) (Some x.force) (drop_option_of (take i disks) d) =
    λ d. ap (λ (ys : List DropDisk). drop_option_of ys d) longer ∙ option_more (take i disks) x d in
    record {
      without_force = λ d small. drops d small ∙ dropped_more (d == x.disk) x.force (has_bit dropping d) (drop_option_of (take i disks) d) (so_far.without_force d small) ∙ ap is_dropped_by (sym (option d));
      with_force = λ d small. forces d small ∙ forced_more (d == x.disk) x.force (has_bit forced d) (drop_option_of (take i disks) d) (so_far.with_force d small) ∙ ap is_forced_by (sym (option d));
    }

pub none_named : (dropping forced : ℕ) → dropping ≡ 0 → forced ≡ 0 → AreNamedToDrop [] dropping forced
none_named dropping forced a b = record { without_force = λ d small. ap (λ (n : ℕ). has_bit n d) a ∙ no_bit d; with_force = λ d small. ap (λ (n : ℕ). has_bit n d) b ∙ no_bit d }

pub named_all : (disks : List DropDisk) (i dropping forced : ℕ) → length disks ≤ i → AreNamedToDrop (take i disks) dropping forced → AreNamedToDrop disks dropping forced
named_all disks i dropping forced le is = record {
  without_force = λ d small. is.without_force d small ∙ ap (λ (ys : List DropDisk). is_dropped_by (drop_option_of ys d)) (take_all i disks le);
  with_force = λ d small. is.with_force d small ∙ ap (λ (ys : List DropDisk). is_forced_by (drop_option_of ys d)) (take_all i disks le);
}

-- ---- entries

-- each disk's number is below 64
pub small : (e : Entry) → is_entry e ≡ true → e.number < 64
unfolding is_entry
small e ok = ltb-true e.number most_disks (and_parts (nat_lt e.number most_disks) _ ok).0

pub each_entry : (f g : Entry → Entry) → ((e : Entry) → e.number < 64 → f e ≡ g e) → (es : List Entry) → list_all is_entry es ≡ true → map f es ≡ map g es
each_entry f g same [] ok = refl
each_entry f g same (e ∷ es) ok =
    let p = and_parts (is_entry e) (list_all is_entry es) ok in
    let rest : map f es ≡ map g es = each_entry f g same es p.1 in
    λ i. same e (small e p.0) i ∷ rest i

pub one_dropped : (disks : List DropDisk) (dropping forced : ℕ) → AreNamedToDrop disks dropping forced → (e : Entry) → e.number < 64
    → entry_after (modes.Dropped dropping forced) e ≡ entry_dropped disks e
one_dropped disks dropping forced named e lt = by_option (has_bit dropping e.number) (has_bit forced e.number) (drop_option_of disks e.number) (named.without_force e.number lt) (named.with_force e.number lt)
  where
    by_option : (a b : Bool) (o : Option Bool) → a ≡ is_dropped_by o → b ≡ is_forced_by o
        → entry_as (cond b (drop_to (Some true)) (cond a (drop_to (Some false)) (drop_to None))) e ≡ entry_as (drop_to o) e
    by_option a b None is_a is_b = (λ i. entry_as (cond (is_b i) (drop_to (Some true)) (cond (is_a i) (drop_to (Some false)) (drop_to None))) e)
    by_option a b (Some true) is_a is_b = (λ i. entry_as (cond (is_b i) (drop_to (Some true)) (cond (is_a i) (drop_to (Some false)) (drop_to None))) e)
    by_option a b (Some false) is_a is_b = (λ i. entry_as (cond (is_b i) (drop_to (Some true)) (cond (is_a i) (drop_to (Some false)) (drop_to None))) e)

pub one_forced : (none forced d : ℕ) → ((k : ℕ) → k < 64 → has_bit none k ≡ false) → ((k : ℕ) → k < 64 → has_bit forced k ≡ (k == d || has_bit none k)) → (e : Entry) → e.number < 64
    → entry_after (modes.Dropped none forced) e ≡ entry_forced d e
one_forced none forced d empty is e lt = by_bit (has_bit none e.number) (has_bit forced e.number) (e.number == d) (empty e.number lt) (is e.number lt)
  where
    by_bit : (a b c : Bool) → a ≡ false → b ≡ (c || a) → entry_as (cond b (drop_to (Some true)) (cond a (drop_to (Some false)) (drop_to None))) e ≡ cond c (entry_as (drop_to (Some true)) e) e
    by_bit a b true is_a is_b = (λ i. entry_as (cond (is_b i) (drop_to (Some true)) (cond a (drop_to (Some false)) (drop_to None))) e)
    by_bit a b false is_a is_b = (λ i. entry_as (cond ((is_b ∙ is_a) i) (drop_to (Some true)) (cond (is_a i) (drop_to (Some false)) (drop_to None))) e)
