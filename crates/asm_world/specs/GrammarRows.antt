-- Texts that are refused, and where.
use Rattle.std.specs.Prelude.{◌≡◌, ◌*◌, Some, None, [], ◌∷◌, ℕ, zero, suc, Bool, true, false, ◌&&◌, ◌==◌, take, List, codes, Ok, Err, Result}
use Rattle.asm_grammar.specs.Syntax.{Value}
use Rattle.asm_grammar.specs.Reading.{whole}
use Rattle.asm_group.specs.declared.GroupKind.TheVariants as kind
use Rattle.asm_group.specs.declared.Stripe.TheVariants as stripe
use Rattle.asm_world.specs.Grammar as g
use Rattle.asm_world.specs.Statement as s
use Rattle.asm_world.specs.Writing.{statement_text}

-- The text is no statement, and so many of its bytes begin one.
abbrev pub IsRefusedAt : List ℕ → ℕ → Type 0
IsRefusedAt text at = whole g.statement g.semicolon text ≡ Err at

abbrev pub is_refused_at : ℕ → Result (Value g.statement) ℕ → Bool
is_refused_at n (Ok v) = false
is_refused_at n (Err at) = at == n

-- Each front of the text of at most n bytes, but the empty one, is refused at its end.
abbrev pub fronts_refused : List ℕ → ℕ → Bool
fronts_refused text zero = true
fronts_refused text (suc n) = is_refused_at (suc n) (whole g.statement g.semicolon (take (suc n) text)) && fronts_refused text n

pub record RefusedRows : Type 0 where
  pub add_alone : IsRefusedAt (codes "ALTER DISKGROUP data ADD") 24
  pub no_keyword : IsRefusedAt (codes "ALTEX DISKGROUP data ADD") 4
  pub unfinished_keyword : IsRefusedAt (codes "ALTER DISKGROUP data DROP DISK d1 FOR") 37
  pub wrong_keyword : IsRefusedAt (codes "ALTER DISKGROUP data DROP DISK d1 FORX;") 37
  pub long_name : IsRefusedAt (codes "DROP DISKGROUP a23456789012345678901234567890b;") 45
  pub too_great : IsRefusedAt (codes "CREATE DISK 'd' SIZE 18446744073709551616;") 40
  pub too_great_in_all : IsRefusedAt (codes "CREATE DISK 'd' SIZE 18446744073709551615K;") 41
  pub open_quote : IsRefusedAt (codes "CREATE DISK 'd; SIZE") 20
  pub behind_the_end : IsRefusedAt (codes "DROP DISKGROUP a; ") 17
  pub bad_byte : IsRefusedAt (codes "DROP DISKGROUP a-b;") 16
  -- each front of a statement but the whole and the empty one
  pub each_front : fronts_refused (codes "ALTER DISKGROUP data DROP DISK d1 FORCE;") 39 ≡ true
  pub each_front_of_creation : fronts_refused (codes "create diskgroup H high redundancy failgroup f1 disk 'd0' name a size 64M force, 'd1' attribute 'au_size'='4M';") 110 ≡ true

-- Statements as they are written.
pub record WritingRows : Type 0 where
  pub create : statement_text (s.CreateDisk (codes "d0") (32 * 1048576)) ≡ codes "CREATE DISK 'd0' SIZE 33554432;"
  pub drop : statement_text (s.Alter (codes "data") (s.DropDisks (record { name = codes "d1"; force = true } ∷ []) None)) ≡ codes "ALTER DISKGROUP data DROP DISK d1 FORCE;"
  pub drop_two : statement_text (s.Alter (codes "data") (s.DropDisks (record { name = codes "d1"; force = false } ∷ record { name = codes "d2"; force = true } ∷ []) (Some (record { power = Some 4; wait = true }))))
      ≡ codes "ALTER DISKGROUP data DROP DISK d1, d2 FORCE REBALANCE POWER 4 WAIT;"
  pub set : statement_text (s.Alter (codes "DATA") (s.SetAttribute (record { name = codes "au_size"; value = codes "4M" }))) ≡ codes "ALTER DISKGROUP DATA SET ATTRIBUTE 'au_size'='4M';"
  pub drop_group : statement_text (s.DropGroup (codes "DATA") true) ≡ codes "DROP DISKGROUP DATA INCLUDING CONTENTS;"
  pub create_group : statement_text (s.CreateGroup (codes "DATA") (Some kind.Normal)
      (record { quorum = false; name = Some (codes "f1"); disks = record { path = codes "d0"; name = None; size = None; force = true } ∷ record { path = codes "d1"; name = Some (codes "x"); size = Some 67108864; force = false } ∷ [] }
      ∷ record { quorum = true; name = None; disks = record { path = codes "d2"; name = None; size = None; force = false } ∷ [] } ∷ [])
      (record { name = codes "au_size"; value = codes "4M" } ∷ record { name = codes "compatible.asm"; value = codes "11.2" } ∷ []))
      ≡ codes "CREATE DISKGROUP DATA NORMAL REDUNDANCY FAILGROUP f1 DISK 'd0' FORCE, 'd1' NAME x SIZE 67108864 QUORUM DISK 'd2' ATTRIBUTE 'au_size'='4M', 'compatible.asm'='11.2';"
  pub add : statement_text (s.Alter (codes "DATA") (s.AddDisks (record { quorum = false; name = None; disks = record { path = codes "d4"; name = None; size = None; force = false } ∷ [] } ∷ []) (Some (record { power = Some 8; wait = true }))))
      ≡ codes "ALTER DISKGROUP DATA ADD DISK 'd4' REBALANCE POWER 8 WAIT;"
  pub offline_after : statement_text (s.Alter (codes "DATA") (s.Offline (s.Named (codes "DATA_0003" ∷ [])) (Some 300))) ≡ codes "ALTER DISKGROUP DATA OFFLINE DISK DATA_0003 DROP AFTER 300M;"
  pub template : statement_text (s.Alter (codes "DATA") (s.ModifyTemplate (codes "DATAFILE") (record { redundancy = Some s.Mirror; stripe = Some stripe.Fine }))) ≡ codes "ALTER DISKGROUP DATA MODIFY TEMPLATE DATAFILE ATTRIBUTES (MIRROR FINE);"
