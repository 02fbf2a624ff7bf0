-- The reading of a status record, field by field, and the fields of both versions.
use Rattle.std.specs.Prelude.{ℕ, Bool, List, [], ◌∷◌, ◌++◌, length, flat_map, codes, Option, Some, None}
use Rattle.std.specs.Int.{w32, w64}
use Rattle.asm_formats.specs.asm_group.declared.Mode.{Mode}
use Rattle.asm_formats.specs.Bytes.{number_bytes}
use Rattle.asm_formats.specs.Codes.{flag}
use Rattle.asm_formats.specs.Claim.{Claim}
use Rattle.asm_formats.specs.Status.{Entry, Status, entry_fields}
use Rattle.asm_base.specs.Readings.{Reading, both, as_a, counted_reading, byte_reading, number_reading, flag_reading, fixed_reading}
use Rattle.byte_codes.specs.Words.{mode_reading}
use Rattle.status_table.specs.declared.reading.Version.{Version}
use Rattle.status_table.specs.declared.reading.Version.TheVariants.{One, Two}

abbrev pub EntryParts : Type 0
EntryParts = ℕ × (ℕ × (Mode × (ℕ × (Bool × (ℕ × (ℕ × (ℕ × ℕ)))))))

abbrev pub to_entry : EntryParts → Entry
to_entry (disk, (birth, (mode, (failgroup, (quorum, (units, (since, (repair, partners)))))))) =
    record { number = disk; birth = birth; mode = mode; failgroup = failgroup; quorum = quorum; units = units; since = since; repair = repair; partners = partners }

unfoldable pub entry_reading : Reading Entry
entry_reading =
    as_a to_entry (both byte_reading (both (number_reading w64) (both mode_reading (both byte_reading (both flag_reading (both (number_reading w32) (both (number_reading w64) (both (number_reading w64) (number_reading w64)))))))))

-- "ASMP" and the version
abbrev pub tag_of : Version → List ℕ
tag_of One = codes "ASMP" ++ 0 ∷ 1 ∷ []
tag_of Two = codes "ASMP" ++ 0 ∷ 2 ∷ []

-- version 1 has no next holders
abbrev pub next_reading : Version → Reading ℕ
next_reading One = λ bytes. Some (0, bytes)
next_reading Two = number_reading w64

abbrev pub StatusParts : Type 0
StatusParts = Unit {0} × (ℕ × (ℕ × (ℕ × (Bool × (ℕ × (ℕ × (ℕ × (ℕ × List Entry))))))))

abbrev pub to_status : StatusParts → Status
to_status (tag, (id, (epoch, (turn, (gone, (births, (holders, (next_holders, (directories, entries))))))))) =
    record { id = id; epoch = epoch; turn = turn; gone = gone; births = births; holders = holders; next_holders = next_holders; directories = directories; entries = entries }

unfoldable pub status_reading : Version → Reading Status
status_reading version =
    as_a to_status (both (fixed_reading (tag_of version)) (both (number_reading w64) (both (number_reading w64) (both (number_reading w64) (both flag_reading (both (number_reading w64) (both (number_reading w64) (both (next_reading version) (both (number_reading w64) (counted_reading 64 entry_reading))))))))))

abbrev pub next_fields : Version → ℕ → List ℕ
next_fields One set = []
next_fields Two set = number_bytes w64 set

-- the bytes of a record in a version
unfoldable pub status_fields : Version → Status → List ℕ
status_fields version r =
    tag_of version ++ (number_bytes w64 r.id ++ (number_bytes w64 r.epoch ++ (number_bytes w64 r.turn ++ (flag r.gone ∷ number_bytes w64 r.births ++ (number_bytes w64 r.holders
    ++ (next_fields version r.next_holders ++ (number_bytes w64 r.directories ++ (length r.entries ∷ flat_map entry_fields r.entries))))))))

-- ---- claims

abbrev pub ClaimParts : Type 0
ClaimParts = Unit {0} × (ℕ × ℕ)

abbrev pub to_claim : ClaimParts → Claim
to_claim (tag, (id, epoch)) = record { id = id; epoch = epoch }

unfoldable pub claim_reading : Reading Claim
claim_reading = as_a to_claim (both (fixed_reading (codes "ASMC")) (both (number_reading w64) (number_reading w64)))
