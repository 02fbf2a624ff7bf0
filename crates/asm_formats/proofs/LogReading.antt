-- The head of a log is read as it was written.
use Rattle.std.proofs.Common.{◌≡◌, ℕ, ◌-◌, ◌^◌, ◌<◌, ◌≤◌, true, List, [], ◌∷◌, ◌++◌, length, replicate, refl, ap, ◌∙◌, Some, arith, w32, w64, codes}
use Rattle.std.specs.List.{list_all, flat_map}
use Rattle.std.specs.Prelude.{nat_le, nat_lt}
use Rattle.std.proofs.lemmas.Bool.{and_parts, and_from, ltb-true, leb-true, lt-ltb}
use Rattle.asm_group.specs.Names.{Bytes}
use Rattle.asm_formats.specs.Bytes.{number_bytes, number_at, whole_block, block_size}
use Rattle.asm_formats.specs.Regions.{log_pages}
use Rattle.asm_formats.specs.Status.{ascends_from}
use Rattle.asm_formats.specs.Logs.{LogHead, log_head_spelling, is_log_head, log_head_at, decoded_log_head}
use Rattle.asm_formats.proofs.Codec.{own_spelling, IsSpelledBy, spelled}
use Rattle.asm_formats.proofs.Fields.{number32, number64, repeated_again, join}

-- numbers of 32 bits
all_below : (d : ℕ) (ns : List ℕ) → d ≤ 2 ^ 32 → list_all (λ p. nat_lt p d) ns ≡ true → list_all (λ p. nat_lt p (2 ^ 32)) ns ≡ true
all_below d [] le h = refl
all_below d (n ∷ ns) le h =
    let p = and_parts (nat_lt n d) (list_all (λ p. nat_lt p d) ns) h in
    and_from (nat_lt n (2 ^ 32)) (list_all (λ p. nat_lt p (2 ^ 32)) ns) (lt-ltb n (2 ^ 32) (omega (arith, ltb-true n d p.0))) (all_below d ns le p.1)

module _ (h : LogHead) (zeros : Bytes) where
  abbrev p2 : Bytes
  p2 = flat_map (number_bytes w32) h.pages ++ zeros

  abbrev p1 : Bytes
  p1 = number_bytes w32 (length h.pages) ++ p2

  abbrev p0 : Bytes
  p0 = number_bytes w64 h.commit ++ p1

  abbrev fields : Bytes
  fields = codes "ASML" ++ (number_bytes w64 h.commit ++ (number_bytes w32 (length h.pages) ++ flat_map (number_bytes w32) h.pages))

  row : fields ++ zeros ≡ codes "ASML" ++ p0
  row =
      let e1 = join (number_bytes w32 (length h.pages)) _ p2 zeros refl in
      ap (λ (l : Bytes). codes "ASML" ++ l) (join (number_bytes w64 h.commit) _ p1 zeros e1)

  read_head : h.commit < 2 ^ 64 → length h.pages ≤ 64 → list_all (λ p. nat_lt p (2 ^ 32)) h.pages ≡ true → log_head_at (codes "ASML" ++ p0) ≡ h
  unfolding log_head_at
  read_head commit count pages =
      rw (
        number64 h.commit p1 commit,
        number32 (length h.pages) p2 (omega (arith, count)),
        repeated_again (number_at w32) (number_bytes w32) (λ p. nat_lt p (2 ^ 32)) (λ n rest ok. number32 n rest (ltb-true n (2 ^ 32) ok)) h.pages zeros pages,
      ) refl

pub log_head_read : (d : ℕ) (h : LogHead) → d ≤ 2 ^ 32 → is_log_head d h ≡ true → log_head_at (log_head_spelling h) ≡ h
unfolding log_head_spelling whole_block is_log_head
log_head_read d h small ok =
    let a = and_parts (nat_lt h.commit (2 ^ 64)) _ ok in
    let b = and_parts (nat_le (length h.pages) log_pages) _ a.1 in
    let c = and_parts (ascends_from 0 h.pages) (list_all (λ p. nat_lt p d) h.pages) b.1 in
    let zeros = replicate (block_size - length (fields h [])) 0 in
    ap log_head_at (row h zeros) ∙ read_head h zeros (ltb-true h.commit (2 ^ 64) a.0) (leb-true (length h.pages) 64 b.0) (all_below d h.pages small c.1)

pub log_head_again : (d : ℕ) (h : LogHead) → d ≤ 2 ^ 32 → is_log_head d h ≡ true → decoded_log_head d (log_head_spelling h) ≡ Some h
unfolding decoded_log_head
log_head_again d h small ok = own_spelling (is_log_head d) log_head_spelling h (log_head_at (log_head_spelling h)) ok (log_head_read d h small ok)

pub log_head_spelled : (d : ℕ) (bytes : Bytes) (h : LogHead) → decoded_log_head d bytes ≡ Some h → IsSpelledBy (is_log_head d) log_head_spelling bytes h
unfolding decoded_log_head
log_head_spelled d bytes h e = spelled (is_log_head d) log_head_spelling bytes (log_head_at bytes) h e

pub log_head_len : (d : ℕ) (h : LogHead) → is_log_head d h ≡ true → length h.pages ≤ 64
unfolding is_log_head
log_head_len d h ok =
    let a = and_parts (nat_lt h.commit (2 ^ 64)) _ ok in
    let b = and_parts (nat_le (length h.pages) log_pages) _ a.1 in
    leb-true (length h.pages) 64 b.0
