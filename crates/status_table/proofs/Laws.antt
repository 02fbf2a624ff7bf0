-- A status record is read from its two spellings alone.
use Rattle.std.proofs.Common.{◌≡◌, ℕ, zero, suc, ◌^◌, ◌<◌, ◌≤◌, true, cond, List, [], ◌∷◌, length, Option, Some, None, refl, sym, ap, subst, ◌∙◌, arith, inl, inr}
use Rattle.std.specs.Int.{w32, w64}
use Rattle.std.specs.List.{AllByRecursion}
use Rattle.std.specs.Option.{option_or}
use Rattle.std.proofs.lemmas.Option.{none-some}
use Rattle.asm_formats.specs.asm_group.declared.Mode.{Mode}
use Rattle.asm_formats.specs.asm_group.declared.Mode.TheVariants.{Online, Offline, Syncing, Dropping, Forced}
use Rattle.asm_formats.specs.Bytes.{number_bytes, whole_block}
use Rattle.asm_formats.specs.Codes.{mode_code}
use Rattle.asm_formats.specs.Status.{Entry, Status, entry_fields, front_fields, tail_fields, status_spelling, status_spelling_1, is_status, decoded_status}
use Rattle.asm_formats.proofs.Bodies.{status_codec}
use Rattle.asm_base.specs.Readings.{whole_reading}
use Rattle.asm_base.proofs.Exact.{IsBytes, IsBytes-none, IsExact, Begins, bind_some, test_some, some_is, both_exact, as_exact, decoded_exact, fits_exact}
use Rattle.asm_base.proofs.Numbers.{number_exact}
use Rattle.asm_base.proofs.Tables.{are_bytes_is}
use Rattle.byte_codes.proofs.WordLaws.{mode_exact}
use Rattle.asm_base.proofs.FieldLaws.{byte_exact, flag_exact, fixed_exact, counted_exact, whole_takes, whole_again}
use Rattle.status_table.specs.declared.reading.Version.{Version}
use Rattle.status_table.specs.declared.reading.Version.TheVariants.{One, Two}
use Rattle.status_table.specs.Rules.{right_status}
use Rattle.status_table.specs.Readings.{EntryParts, to_entry, entry_reading, tag_of, next_reading, next_fields, StatusParts, to_status, status_reading, status_fields}
use Rattle.status_table.proofs.Allowed.{parts_of, few, all_fit, FitsEntry}

-- ---- entries

-- the numbers of an entry are those of its types
record InTypes (e : Entry) : Type 0 where
  number : e.number < 2 ^ 8
  birth : e.birth < 2 ^ 64
  failgroup : e.failgroup < 2 ^ 8
  units : e.units < 2 ^ 32
  since : e.since < 2 ^ 64
  repair : e.repair < 2 ^ 64
  partners : e.partners < 2 ^ 64

of_entry : Entry → EntryParts
of_entry e = (e.number, (e.birth, (e.mode, (e.failgroup, (e.quorum, (e.units, (e.since, (e.repair, e.partners))))))))

entry_exact : IsExact entry_fields InTypes entry_reading
unfolding entry_fields entry_reading of_entry
entry_exact =
    let fields = both_exact byte_exact (both_exact (number_exact w64) (both_exact mode_exact (both_exact byte_exact (both_exact flag_exact (both_exact (number_exact w32) (both_exact (number_exact w64) (both_exact (number_exact w64) (number_exact w64)))))))) in
    fits_exact
    (λ e f. record { number = f.0; birth = f.1.0; failgroup = f.1.1.1.0; units = f.1.1.1.1.1.0; since = f.1.1.1.1.1.1.0; repair = f.1.1.1.1.1.1.1.0; partners = f.1.1.1.1.1.1.1.1 })
    (λ e f. (f.number, (f.birth, (tt, (f.failgroup, (tt, (f.units, (f.since, (f.repair, f.partners)))))))))
    (as_exact to_entry of_entry (λ p. refl) (λ e. refl) fields)

all_in_types : (es : List Entry) → AllByRecursion FitsEntry es → AllByRecursion InTypes es
all_in_types [] fits = tt
all_in_types (e ∷ es) fits =
    let f = fits.0 in (
      record { number = omega (arith, f.number); birth = f.birth; failgroup = omega (arith, f.failgroup); units = omega (arith, f.units); since = f.since; repair = f.repair; partners = f.partners },
      all_in_types es fits.1,
    )

-- ---- records

tag_bytes : (v : Version) → IsBytes (tag_of v)
tag_bytes One = are_bytes_is (tag_of One) refl
tag_bytes Two = are_bytes_is (tag_of Two) refl

FitsNext : Version → ℕ → Type 0
FitsNext One n = n ≡ 0
FitsNext Two n = n < 2 ^ 64

none_exact : IsExact (next_fields One) (λ n. n ≡ 0) (next_reading One)
none_exact = record { takes = takes; again = λ n rest is. rw is refl; bytes = λ n is. IsBytes-none } where
  takes : (bytes : List ℕ) (n : ℕ) (rest : List ℕ) → IsBytes bytes → next_reading One bytes ≡ Some (n, rest) → Begins (next_fields One) (λ n. n ≡ 0) bytes n rest
  takes bytes n rest fits e =
      let whole : Begins (next_fields One) (λ n. n ≡ 0) bytes 0 bytes = record { parts = refl; fits = refl; rest_bytes = fits } in
      subst (λ (p : ℕ × List ℕ). Begins (next_fields One) (λ n. n ≡ 0) bytes p.0 p.1) (some_is (0, bytes) (n, rest) e) whole

next_exact : (v : Version) → IsExact (next_fields v) (FitsNext v) (next_reading v)
unfolding FitsNext
next_exact One = none_exact
next_exact Two = number_exact w64

of_status : Status → StatusParts
of_status r = (tt, (r.id, (r.epoch, (r.turn, (r.gone, (r.births, (r.holders, (r.next_holders, (r.directories, r.entries)))))))))

record FitsStatus (v : Version) (r : Status) : Type 0 where
  id : r.id < 2 ^ 64
  epoch : r.epoch < 2 ^ 64
  turn : r.turn < 2 ^ 64
  births : r.births < 2 ^ 64
  holders : r.holders < 2 ^ 64
  next_holders : FitsNext v r.next_holders
  directories : r.directories < 2 ^ 64
  short : length r.entries ≤ 64
  entries : AllByRecursion InTypes r.entries

status_exact : (v : Version) → IsExact (status_fields v) (FitsStatus v) (status_reading v)
unfolding status_fields status_reading of_status
status_exact v =
    let fields = both_exact (fixed_exact (tag_of v) (tag_bytes v)) (both_exact (number_exact w64) (both_exact (number_exact w64) (both_exact (number_exact w64) (both_exact flag_exact (both_exact (number_exact w64) (both_exact (number_exact w64) (both_exact (next_exact v) (both_exact (number_exact w64) (counted_exact 64 (omega arith) entry_exact))))))))) in
    fits_exact
    (λ r f. record { id = f.1.0; epoch = f.1.1.0; turn = f.1.1.1.0; births = f.1.1.1.1.1.0; holders = f.1.1.1.1.1.1.0; next_holders = f.1.1.1.1.1.1.1.0; directories = f.1.1.1.1.1.1.1.1.0; short = f.1.1.1.1.1.1.1.1.1.0; entries = f.1.1.1.1.1.1.1.1.1.1 })
    (λ r f. (tt, (f.id, (f.epoch, (f.turn, (tt, (f.births, (f.holders, (f.next_holders, (f.directories, (f.short, f.entries)))))))))))
    (as_exact to_status of_status (λ p. refl) (λ r. refl) fields)

pub spelling_is : (r : Status) → status_spelling r ≡ whole_block (status_fields Two r)
unfolding status_spelling front_fields tail_fields status_fields number_bytes
spelling_is r = refl

spelling_1_is : (r : Status) → status_spelling_1 r ≡ whole_block (status_fields One r)
unfolding status_spelling_1 front_fields tail_fields status_fields number_bytes
spelling_1_is r = refl

status_fits : (v : Version) (r : Status) → is_status r ≡ true → FitsNext v r.next_holders → FitsStatus v r
status_fits v r ok next =
    let p = parts_of r ok in
    record {
      id = p.id;
      epoch = p.epoch;
      turn = p.turn;
      births = p.births;
      holders = p.holders;
      next_holders = next;
      directories = p.directories;
      short = omega (arith, few r.entries 0 (omega arith) p.all p.up);
      entries = all_in_types r.entries (all_fit r.entries p.all);
    }

-- ---- the two versions

read_as : Version → List ℕ → Option Status
read_as v bytes = right_status (whole_reading (status_reading v) bytes)

-- what is read in a version is a record that fits it, and the bytes are its spelling of that version
record Found (v : Version) (bytes : List ℕ) (r : Status) : Type 0 where
  ok : is_status r ≡ true
  next : FitsNext v r.next_holders
  spelt : bytes ≡ whole_block (status_fields v r)

found_as : (v : Version) (bytes : List ℕ) (r : Status) → length bytes ≡ 4096 → IsBytes bytes → read_as v bytes ≡ Some r → Found v bytes r
unfolding read_as
found_as v bytes r len are e =
    let a = bind_some (λ (y : Status). cond (is_status y) (Some y) None) (whole_reading (status_reading v) bytes) r e in
    let t = test_some (is_status a.0) a.0 r a.2 in
    let w = whole_takes (status_exact v) bytes a.0 len are a.1 in
    let all : Found v bytes a.0 = record { ok = t.0; next = w.1.next_holders; spelt = w.0 } in
    subst (λ (x : Status). Found v bytes x) t.1 all

again_as : (v : Version) (bytes : List ℕ) (r : Status) → Found v bytes r → read_as v bytes ≡ Some r
unfolding read_as
again_as v bytes r f = rw (f.spelt, whole_again (status_exact v) r (status_fits v r f.ok f.next), f.ok) refl

pub status_is_read : (bytes : List ℕ) → length bytes ≡ 4096 → IsBytes bytes → option_or (right_status (whole_reading (status_reading Two) bytes)) (right_status (whole_reading (status_reading One) bytes)) ≡ decoded_status bytes
unfolding read_as FitsNext
status_is_read bytes len are = decide (read_as Two bytes) (read_as One bytes) refl refl where
  unread : (o : Option Status) → read_as Two bytes ≡ None → read_as One bytes ≡ None → decoded_status bytes ≡ o → None ≡ decoded_status bytes
  unread None two one e = sym e
  unread (Some r) two one e =
      let d = status_codec.decoded bytes r e in
      elim d.1 [
        | inl spelt ↦ absurd (none-some r (sym two ∙ again_as Two bytes r (record { ok = d.0; next = (parts_of r d.0).next_holders; spelt = spelt ∙ spelling_is r })))
        | inr old ↦ absurd (none-some r (sym one ∙ again_as One bytes r (record { ok = d.0; next = old.0; spelt = old.1 ∙ spelling_1_is r })))
      ]

  decide : (two one : Option Status) → read_as Two bytes ≡ two → read_as One bytes ≡ one → option_or (read_as Two bytes) (read_as One bytes) ≡ decoded_status bytes
  decide (Some r) one e f =
      let g = found_as Two bytes r len are e in
      rw e (sym (ap decoded_status (g.spelt ∙ sym (spelling_is r)) ∙ status_codec.again r g.ok))
  decide None (Some r) e f =
      let g = found_as One bytes r len are f in
      rw (e, f) (sym (ap decoded_status (g.spelt ∙ sym (spelling_1_is r)) ∙ status_codec.again_1 r g.ok g.next))
  decide None None e f = rw (e, f) (unread (decoded_status bytes) e f refl)

-- a record in the open, with its entries as they are given
pub with_own_entries : {v r : Status} {es : List Entry} → v ≡ r → es ≡ r.entries → record v { entries = es } ≡ r
with_own_entries {v} {r} {es} same given = subst (λ (x : Status). record x { entries = es } ≡ r) (sym same) (ap (λ (xs : List Entry). record r { entries = xs }) given)
