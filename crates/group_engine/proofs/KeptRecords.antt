-- The record that holds after commits.
use Rattle.std.proofs.Common.{◌≡◌, ◌∙◌, ℕ, refl, sym, subst, Result, Ok, Err}
use Rattle.std.specs.Prelude.{not}
use Rattle.std.proofs.lemmas.Bool.{and_parts}
use Rattle.bay.specs.State.{BayState}
use Rattle.asm_formats.specs.Sets.{has_bit}
use Rattle.asm_formats.specs.Status.{Status}
use Rattle.status_register.specs.Registered.{Registered}
use Rattle.status_register.specs.Writes.{after_write}
use Rattle.status_register.specs.declared.error.Dead.{Dead}
use Rattle.group_engine.specs.Commits.{KeepsRecord}
use Rattle.group_engine.specs.Dropping.{WritesFewer}

pub record_stays : (r : Status) → KeepsRecord r r
record_stays r = record { id = refl; gone = refl; births = refl; holders = refl; next_holders = refl; entries = refl; copies = λ d lt has. has }

pub record_same : (old new : Status) → new ≡ old → KeepsRecord old new
record_same old new is = subst (λ (r : Status). KeepsRecord old r) (sym is) (record_stays old)

pub records_on : {a b c : Status} → KeepsRecord a b → KeepsRecord b c → KeepsRecord a c
records_on one two = record {
  id = two.id ∙ one.id;
  gone = two.gone ∙ one.gone;
  births = two.births ∙ one.births;
  holders = two.holders ∙ one.holders;
  next_holders = two.next_holders ∙ one.next_holders;
  entries = two.entries ∙ one.entries;
  copies = λ d lt has. one.copies d lt (two.copies d lt has);
}

-- copies that failed were taken out, or too few disks took that record
pub record_fewer : (old new : Registered) (gone : ℕ) (answer : Result ℕ Dead) (s t : BayState) → WritesFewer old gone answer new s t → KeepsRecord old.value new.value
record_fewer old new gone answer s t writes = subst (λ (x : Registered). KeepsRecord old.value x.value) (sym writes.written.register) (by answer)
  where
    by : (a : Result ℕ Dead) → KeepsRecord old.value (after_write old (record old.value { directories = writes.fewer }) a).value
    by (Ok failed) = record {
      id = refl;
      gone = refl;
      births = refl;
      holders = refl;
      next_holders = refl;
      entries = refl;
      copies = λ d lt has. (and_parts (has_bit old.value.directories d) (not (has_bit gone d)) (sym (writes.without d lt) ∙ has)).0;
    }
    by (Err dead) = record_stays old.value
