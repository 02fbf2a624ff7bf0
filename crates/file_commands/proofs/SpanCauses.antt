-- Why a span of a file is refused, by the world's tests.
use Rattle.std.proofs.Common.{◌≡◌, ⊎_elim, inl, inr, ℕ, ◌+◌, ◌*◌, ◌<◌, ◌%◌, Bool, true, false, List, [], ◌∷◌, ◌++◌, None, refl, ap, ◌∙◌, arith, IsTrue}
use Rattle.std.specs.Prelude.{◌&&◌, ◌||◌, ◌==◌, not, nat_le}
use Rattle.std.proofs.lemmas.Bool.{and_parts, eqb-true, false≢true, le-leb, leb-true, ne_eqb, or_cases, true≢false}
use Rattle.asm_group.specs.Causes.{first_cause}
use Rattle.asm_group.specs.Group.{Cell, Group}
use Rattle.asm_group.specs.Names.{Bytes, Path}
use Rattle.asm_group.specs.Refusal as r
use Rattle.asm_group.specs.Shape.{Shape, is_dir_blocks, is_sector, is_shape, is_step, is_unit_size}
use Rattle.asm_world.specs.Causes.{Cause, IsCaused, When, decided, may, tested_causes}
use Rattle.asm_world.specs.Edits as e
use Rattle.asm_world.specs.Files as f
use Rattle.asm_world.specs.Numbers as code
use Rattle.catalog_tables.specs.Rules.{KeepsRules}
use Rattle.catalog_tables.specs.Tables.{AreTables}
use Rattle.session.specs.group_engine.Mounts.{MountedGroup}
use Rattle.report_laws.specs.group_of.Groups.{HasCells, group_of}
use Rattle.session.specs.group_contents.Files.{IsOpened, IsSpan, are_sectors, head_named}
use Rattle.session.specs.group_contents.declared.opening.OpenFile.{OpenFile}
use Rattle.file_commands.specs.Reading.{FailsRead}
use Rattle.file_commands.proofs.Named as named

-- ---- three tests, and what may come behind them

abbrev three : Bool → Bool → Bool → List Cause → List Cause
three a b c rest = When a r.NoName ∷ When b r.NotSectors ∷ When c r.OutOfFile ∷ rest

first : (a b c : Bool) (rest : List Cause) → a ≡ true → IsCaused (three a b c rest) r.NoName
first true b c rest is = refl
first false b c rest is = absurd (false≢true is)

second : (a b c : Bool) (rest : List Cause) → a ≡ false → b ≡ true → IsCaused (three a b c rest) r.NotSectors
second false true c rest isnt is = refl
second false false c rest isnt is = absurd (false≢true is)
second true b c rest isnt is = absurd (true≢false isnt)

third : (a b c : Bool) (rest : List Cause) → a ≡ false → b ≡ false → c ≡ true → IsCaused (three a b c rest) r.OutOfFile
third false false true rest isnt nor is = refl
third false false false rest isnt nor is = absurd (false≢true is)
third false true c rest isnt nor is = absurd (true≢false nor)
third true b c rest isnt nor is = absurd (true≢false isnt)

behind : (a b c : Bool) (rest : List Cause) (x : r.Refusal) → a ≡ false → b ≡ false → c ≡ false → IsCaused rest x → IsCaused (three a b c rest) x
behind false false false rest x isnt nor neither is = is
behind false false true rest x isnt nor neither is = absurd (true≢false neither)
behind false true c rest x isnt nor neither is = absurd (true≢false nor)
behind true b c rest x isnt nor neither is = absurd (true≢false isnt)

none_due : (a b c : Bool) (rest : List Cause) → a ≡ false → b ≡ false → c ≡ false → decided rest ≡ None → decided (three a b c rest) ≡ None
none_due false false false rest isnt nor neither none = none
none_due false false true rest isnt nor neither none = absurd (true≢false neither)
none_due false true c rest isnt nor neither none = absurd (true≢false nor)
none_due true b c rest isnt nor neither none = absurd (true≢false isnt)

-- ---- sectors

not_zero : (n k : ℕ) → (n == k) ≡ true → 0 < k → (n == 0) ≡ false
not_zero n k is some = ne_eqb n 0 (λ none. omega (arith, eqb-true n k is, none, some))

sized : (s : Shape) → is_sector s.sector s.au ≡ true → (s.sector == 0) ≡ false
sized s is = ⊎_elim
    (λ (small : (s.sector == 512) ≡ true). not_zero s.sector 512 small (omega arith))
    (λ (large : (s.sector == 4096) ≡ true). not_zero s.sector 4096 large (omega arith))
    (or_cases (s.sector == 512) (s.sector == 4096) (and_parts (s.sector == 512 || s.sector == 4096) (nat_le (8 * s.sector) s.au) is).0)

pub some_sector : (s : Shape) → IsTrue (is_shape s) → (s.sector == 0) ≡ false
unfolding is_shape
some_sector s is =
    let rest = and_parts (is_unit_size s.au) (is_step s.step && (is_sector s.sector s.au && is_dir_blocks s.dir_blocks)) is in
    let last = and_parts (is_step s.step) (is_sector s.sector s.au && is_dir_blocks s.dir_blocks) rest.1 in
    sized s (and_parts (is_sector s.sector s.au) (is_dir_blocks s.dir_blocks) last.1).0

sectors_are : (zero x y : Bool) → zero ≡ false → (not x || not y) ≡ not ((not zero && x) && (not zero && y))
sectors_are false true true is = refl
sectors_are false true false is = refl
sectors_are false false y is = refl
sectors_are true x y is = absurd (true≢false is)

-- ---- of a mounted group

-- what may refuse a call on a span of a file, of which faults have this number
abbrev pub causes_of_span : ℕ → ℕ → ℕ → Path → Group → List Cause
causes_of_span fault at len path g = tested_causes (f.span_causes g path at len) ++ may (code.lost ∷ fault ∷ code.dismounted ∷ [])

-- the causes of a read
abbrev pub read_causes : Path → ℕ → ℕ → Group → List Cause
read_causes path at len g = causes_of_span code.read_fault at len path g

-- no test of a span is true
no_first : (a b c : Bool) → a ≡ false → b ≡ false → c ≡ false → first_cause ((a, r.NoName) ∷ (b, r.NotSectors) ∷ (c, r.OutOfFile) ∷ []) ≡ None
no_first false false false isnt nor neither = refl
no_first false false true isnt nor neither = absurd (true≢false neither)
no_first false true c isnt nor neither = absurd (true≢false nor)
no_first true b c isnt nor neither = absurd (true≢false isnt)

-- why the bytes of a span aren't read
pub fails_read : (c : r.Refusal) → FailsRead c → (c ≡ r.NoMemory → ⊥) → IsCaused (may (code.lost ∷ code.read_fault ∷ code.dismounted ∷ [])) c
fails_read (r.Lost k i) fails other = inl refl
fails_read (r.ReadFault disk) fails other = inr (inl refl)
fails_read r.NoMemory fails other = absurd (other refl)
fails_read c fails other = absurd fails

module _ (fault : ℕ) (m : MountedGroup) (shape : IsTrue (is_shape m.catalog.shape)) (tables : AreTables m.catalog.tables) (name : Bytes) (cells : ℕ → List Cell) (path : Path) (at len : ℕ) where
  abbrev g : Group
  g = group_of name m.catalog.shape m.catalog.tables cells

  abbrev no_file : Bool
  no_file = not (e.group_has_file g path)

  abbrev no_sectors : Bool
  no_sectors = not (f.is_sectors g at) || not (f.is_sectors g len)

  abbrev too_long : Bool
  too_long = not (nat_le (at + len) (f.size_of_file (f.named_file g path)))

  abbrev rest : List Cause
  rest = may (code.lost ∷ fault ∷ code.dismounted ∷ [])

  whole : no_sectors ≡ not (are_sectors m.catalog.shape at && are_sectors m.catalog.shape len)
  whole = ap (λ (s : Shape). not (at % s.sector == 0) || not (len % s.sector == 0)) (named.shape_is name m.catalog.shape m.catalog.tables cells path tables)
      ∙ sectors_are (m.catalog.shape.sector == 0) (at % m.catalog.shape.sector == 0) (len % m.catalog.shape.sector == 0) (some_sector m.catalog.shape shape)

  -- there is none
  pub no_name : KeepsRules m.catalog.shape m.catalog.tables → head_named m.catalog.tables path ≡ None → IsCaused (causes_of_span fault at len path g) r.NoName
  no_name rules none = first no_file no_sectors too_long rest (ap not (named.not_file name m.catalog.shape m.catalog.tables cells path tables rules none))

  module _ (file : OpenFile) (opened : IsOpened m.catalog.tables path file) where
    found : no_file ≡ false
    found = ap not (named.is_file name m.catalog.shape m.catalog.tables cells path tables file opened)

    pub not_sectors : (are_sectors m.catalog.shape at && are_sectors m.catalog.shape len) ≡ false → IsCaused (causes_of_span fault at len path g) r.NotSectors
    not_sectors isnt = second no_file no_sectors too_long rest found (whole ∙ ap not isnt)

    sectors : (are_sectors m.catalog.shape at && are_sectors m.catalog.shape len) ≡ true → no_sectors ≡ false
    sectors is = whole ∙ ap not is

    size_is : HasCells m.catalog.tables cells → f.size_of_file (f.named_file g path) ≡ file.size
    size_is has = ap f.size_of_file (named.there name m.catalog.shape m.catalog.tables cells path tables file opened) ∙ named.has_size name m.catalog.shape m.catalog.tables cells path tables file opened has

    pub out_of_file : HasCells m.catalog.tables cells → (are_sectors m.catalog.shape at && are_sectors m.catalog.shape len) ≡ true → file.size < at + len → IsCaused (causes_of_span fault at len path g) r.OutOfFile
    out_of_file has is far = third no_file no_sectors too_long rest found (sectors is) (ap not (long (nat_le (at + len) (f.size_of_file (f.named_file g path))) refl))
      where
        long : (b : Bool) → nat_le (at + len) (f.size_of_file (f.named_file g path)) ≡ b → b ≡ false
        long false at_most = refl
        long true at_most = absurd (omega (arith, leb-true (at + len) (f.size_of_file (f.named_file g path)) at_most, size_is has, far))

    -- the span is one of the file
    module _ (has : HasCells m.catalog.tables cells) (span : IsSpan m at len file) where
      fits : too_long ≡ false
      fits = ap not (le-leb (at + len) (f.size_of_file (f.named_file g path)) (omega (arith, size_is has, span.within)))

      pub uncaused : decided (causes_of_span fault at len path g) ≡ None
      uncaused = none_due no_file no_sectors too_long rest found (sectors span.sectors) fits refl

      -- no test refuses it
      pub untested : first_cause (f.span_causes g path at len) ≡ None
      untested = no_first no_file no_sectors too_long found (sectors span.sectors) fits

      -- what may refuse it behind the tests
      pub failed : (c : r.Refusal) → IsCaused rest c → IsCaused (causes_of_span fault at len path g) c
      failed c is = behind no_file no_sectors too_long rest c found (sectors span.sectors) fits is
