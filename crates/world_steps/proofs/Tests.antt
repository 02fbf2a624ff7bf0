-- Tests in their order, what they answer, and what a refusal by one of them leaves.
use Rattle.std.proofs.Common.{◌≡◌, Bool, true, false, List, [], ◌∷◌, ◌++◌, Option, Some, None, Ok, Err, refl, sym, ◌∙◌, ap}
use Rattle.std.specs.Prelude.{◌&&◌}
use Rattle.std.proofs.lemmas.Bool.{false≢true}
use Rattle.std.proofs.lemmas.Option.{none-some, same_Some}
use Rattle.asm_group.specs.Causes.{Causes as Tests, first_cause, unless_refused}
use Rattle.asm_group.specs.Refusal as r
use Rattle.asm_world.specs.Below.{Below}
use Rattle.asm_world.specs.Causes.{Cause, HasCause, IsCaused, causes, decided, tested_causes}
use Rattle.asm_world.specs.Command as c
use Rattle.asm_world.specs.Reply.{Refused}
use Rattle.asm_world.specs.Statement as s
use Rattle.asm_world.specs.Step.{IsDismounted, MayStopTorn, RefusedCommand}
use Rattle.asm_world.specs.World.{World}
use Rattle.world_steps.specs.Steps.{asks_edit, tells_disk}

-- ---- tests in their order

-- no test is true
pub decided_tests : (ts : Tests) (rest : List Cause) → first_cause ts ≡ None → decided rest ≡ None → decided (tested_causes ts ++ rest) ≡ None
decided_tests [] rest none after = after
decided_tests ((true, cause) ∷ ts) rest none after = absurd (none-some cause (sym none))
decided_tests ((false, cause) ∷ ts) rest none after = decided_tests ts rest none after

-- the first that is true is the cause
pub first_is : (ts : Tests) (rest : List Cause) (cause : r.Refusal) → first_cause ts ≡ Some cause → IsCaused (tested_causes ts ++ rest) cause
first_is [] rest cause is = absurd (none-some cause is)
first_is ((true, first) ∷ ts) rest cause is = sym (same_Some first cause is)
first_is ((false, first) ∷ ts) rest cause is = first_is ts rest cause is

-- behind tests that are all false
pub behind_tests : (ts : Tests) (rest : List Cause) (cause : r.Refusal) → first_cause ts ≡ None → IsCaused rest cause → IsCaused (tested_causes ts ++ rest) cause
behind_tests [] rest cause none is = is
behind_tests ((true, first) ∷ ts) rest cause none is = absurd (none-some first (sym none))
behind_tests ((false, first) ∷ ts) rest cause none is = behind_tests ts rest cause none is

-- ---- what the tests answer

pub passes : {A : Type 0} (o : Option r.Refusal) (x h : A) → unless_refused o x ≡ Ok h → (o ≡ None) × (x ≡ h)
passes None x h is = (refl, cc)
passes (Some cause) x h is = absurd cc

pub fails : {A : Type 0} (o : Option r.Refusal) (x : A) (cause : r.Refusal) → unless_refused o x ≡ Err cause → o ≡ Some cause
fails None x cause is = absurd cc
fails (Some first) x cause is = cc

-- What refuses an edit, or its record, leaves the world and tells no disk.
abbrev pub plain : r.Refusal → Bool
plain r.NoGroup = true
plain r.NoName = true
plain r.NameTaken = true
plain r.NotDirectory = true
plain r.NotEmpty = true
plain r.HasAlias = true
plain r.SystemName = true
plain r.NoTemplate = true
plain r.SystemTemplate = true
plain (r.BadAttribute name) = true
plain r.BadRedundancy = true
plain (r.TooMany kind limit) = true
plain (r.DirectoryFull need free) = true
plain other = false

abbrev pub all_plain : Tests → Bool
all_plain [] = true
all_plain ((test, cause) ∷ ts) = plain cause && all_plain ts

pub both : (a b : Bool) → (a && b) ≡ true → (a ≡ true) × (b ≡ true)
both true b is = (refl, is)
both false b is = absurd (false≢true is)

pub first_plain : (ts : Tests) (cause : r.Refusal) → all_plain ts ≡ true → first_cause ts ≡ Some cause → plain cause ≡ true
first_plain [] cause all is = absurd (none-some cause is)
first_plain ((true, first) ∷ ts) cause all is = ap plain (sym (same_Some first cause is)) ∙ (both (plain first) (all_plain ts) all).0
first_plain ((false, first) ∷ ts) cause all is = first_plain ts cause (both (plain first) (all_plain ts) all).1 is

pub plain_tells : (cause : r.Refusal) → plain cause ≡ true → tells_disk cause ≡ false
plain_tells r.NoGroup is = refl
plain_tells r.NoName is = refl
plain_tells r.NameTaken is = refl
plain_tells r.NotDirectory is = refl
plain_tells r.NotEmpty is = refl
plain_tells r.HasAlias is = refl
plain_tells r.SystemName is = refl
plain_tells r.NoTemplate is = refl
plain_tells r.SystemTemplate is = refl
plain_tells (r.BadAttribute name) is = refl
plain_tells r.BadRedundancy is = refl
plain_tells (r.TooMany kind limit) is = refl
plain_tells (r.DirectoryFull need free) is = refl
plain_tells other is = absurd (false≢true is)

-- ---- what a refusal leaves

-- by the cause alone
abbrev Left : Below → World → c.Command → r.Refusal → World → Type 0
Left below w command (r.Dismounted disk) new = IsDismounted below w command disk new
Left below w command r.NoMemory new = MayStopTorn below w command new
Left below w command cause new = new ≡ w

pub left_by : (below : Below) (w : World) (command : c.Command) (cause : r.Refusal) (new : World) → asks_edit command ≡ true → Left below w command cause new → RefusedCommand below w command cause new
left_by below w (c.Said (s.CreateGroup name kind groups attributes)) cause new edits left = absurd (false≢true edits)
left_by below w (c.Said (s.Alter name (s.Mount force))) cause new edits left = absurd (false≢true edits)
left_by below w (c.Asked (c.DbWrite path at bytes)) cause new edits left = absurd (false≢true edits)
left_by below w (c.Asked (c.DbFill path at size byte)) cause new edits left = absurd (false≢true edits)
left_by below w (c.Asked (c.CopyFile source target)) cause new edits left = absurd (false≢true edits)
left_by below w command (r.Dismounted disk) new edits left = left
left_by below w command r.NoMemory new edits left = left
left_by below w command cause new edits left = left

pub left_plain : (below : Below) (w : World) (command : c.Command) (cause : r.Refusal) → plain cause ≡ true → Left below w command cause w
left_plain below w command (r.Dismounted disk) is = absurd (false≢true is)
left_plain below w command r.NoMemory is = absurd (false≢true is)
left_plain below w command cause is = refl

pub has_cause : (below : Below) (w : World) (command : c.Command) (cause : r.Refusal) → IsCaused (causes below w command) cause → HasCause below w command (Refused [] cause)
has_cause below w command r.NoMemory is = tt
has_cause below w command cause is = is
