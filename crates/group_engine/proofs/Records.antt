-- A record with fewer directory copies.
use Rattle.std.proofs.Common.{◌≡◌, ℕ, zero, suc, ◌^◌, true, ◌&&◌, List, ◌++◌, get_or, refl, ap, Option, None}
use Rattle.std.specs.Prelude.{nat_lt, map}
use Rattle.std.specs.List.{list_all}
use Rattle.std.proofs.lemmas.Bool.{and_parts}
use Rattle.asm_formats.specs.Status.{Entry, Status, is_entry, is_status, have_entries, ascends_from}
use Rattle.status_register.specs.Holders.{holder_in, holders_below}
use Rattle.status_register.specs.declared.member.Member.{Member}

pub same_below : (places : List (Option Member)) (r : Status) (fewer n : ℕ) → holders_below places (record r { directories = fewer }) n ≡ holders_below places r n
unfolding holders_below
same_below places r fewer zero = refl
same_below places r fewer (suc d) = ap (λ (l : List Member). holder_in r d (get_or places d None) ++ l) (same_below places r fewer d)

-- the parts of a record of the formats
pub record IsRecord (r : Status) : Type 0 where
  pub id : nat_lt r.id (2 ^ 64) ≡ true
  pub epoch : nat_lt r.epoch (2 ^ 64) ≡ true
  pub turn : nat_lt r.turn (2 ^ 64) ≡ true
  pub births : nat_lt r.births (2 ^ 64) ≡ true
  pub holders : nat_lt r.holders (2 ^ 64) ≡ true
  pub next_holders : nat_lt r.next_holders (2 ^ 64) ≡ true
  pub directories : nat_lt r.directories (2 ^ 64) ≡ true
  pub entries : list_all is_entry r.entries ≡ true
  pub order : ascends_from 0 (map (λ (e : Entry). e.number) r.entries) ≡ true
  pub have_holders : have_entries r.entries r.holders ≡ true
  pub have_next : have_entries r.entries r.next_holders ≡ true
  pub have_directories : have_entries r.entries r.directories ≡ true

pub record_parts : (r : Status) → is_status r ≡ true → IsRecord r
unfolding is_status
record_parts r ok =
    let a = and_parts (nat_lt r.id (2 ^ 64)) _ ok in
    let b = and_parts (nat_lt r.epoch (2 ^ 64)) _ a.1 in
    let c = and_parts (nat_lt r.turn (2 ^ 64)) _ b.1 in
    let d = and_parts (nat_lt r.births (2 ^ 64)) _ c.1 in
    let e = and_parts (nat_lt r.holders (2 ^ 64)) _ d.1 in
    let f = and_parts (nat_lt r.next_holders (2 ^ 64)) _ e.1 in
    let g = and_parts (nat_lt r.directories (2 ^ 64)) _ f.1 in
    let h = and_parts (list_all is_entry r.entries) _ g.1 in
    let i = and_parts (ascends_from 0 (map (λ (e : Entry). e.number) r.entries)) _ h.1 in
    let j = and_parts (have_entries r.entries r.holders) _ i.1 in
    let k = and_parts (have_entries r.entries r.next_holders) (have_entries r.entries r.directories) j.1 in
    record { id = a.0; epoch = b.0; turn = c.0; births = d.0; holders = e.0; next_holders = f.0; directories = g.0; entries = h.0; order = i.0; have_holders = j.0; have_next = k.0; have_directories = k.1 }

pub from_parts : (r : Status) → IsRecord r → is_status r ≡ true
unfolding is_status
from_parts r p =
    λ i. p.id i && (p.epoch i && (p.turn i && (p.births i && (p.holders i && (p.next_holders i && (p.directories i && (p.entries i && (p.order i && (p.have_holders i && (p.have_next i && p.have_directories i))))))))))
