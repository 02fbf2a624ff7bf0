-- An operation that begins, and the homes of its extents.
use Rattle.std.proofs.Common.{◌≡◌, ◌⊎◌, ⊎_elim, inl, inr, List, None, Result, Ok, Err, sym, ap, subst, ◌∙◌}
use Rattle.std.specs.Prelude.{OnOk}
use Rattle.bay.specs.State.{BayState}
use Rattle.asm_group.specs.declared.PendingKind.{PendingKind}
use Rattle.asm_base.specs.Records.{DirectoryRecord}
use Rattle.refusal_lines.specs.declared.refusal.Refusal.{Refusal}
use Rattle.asm_formats.specs.Items.{Key}
use Rattle.catalog_tables.specs.Changing.{IsAfter}
use Rattle.group_pieces.specs.catalog.Plans.{IsPlan}
use Rattle.catalog_tables.specs.Tables.{Catalogued}
use Rattle.group_pieces.specs.group_engine.Commits.{StatusCause}
use Rattle.group_pieces.specs.group_engine.Mounts.{MountedGroup}
use Rattle.file_extents.specs.Beginning.{Begins, HomesCause, IsGivenBack, begun}
use Rattle.file_extents.specs.Rows.{SpaceCause}
use Rattle.file_extents.specs.declared.rows.NewExtents.{NewExtents}

-- the operation was committed, once the move that was on its way was given up
pub begins : (a b : MountedGroup) (k : Catalogued) (kind : PendingKind) (new : NewExtents) (put : List DirectoryRecord) (gone : List Key) (r : Result (Unit {0}) Refusal) (c : MountedGroup)
    → b ≡ record a { flight = None } → k ≡ b.catalog → IsPlan k put gone (begun k.tables kind new)
    → OnOk r (IsAfter b.catalog.tables put gone c.catalog.tables) → OnOk r (Begins a kind new c)
begins a b k kind new put gone r c up at plan applied = go r applied
  where
    same : b.catalog ≡ a.catalog
    same = ap (λ (v : MountedGroup). v.catalog) up

    here : IsPlan a.catalog put gone (begun a.catalog.tables kind new)
    here = subst (λ (j : Catalogued). IsPlan j put gone (begun j.tables kind new)) (at ∙ same) plan

    go : (x : Result (Unit {0}) Refusal) → OnOk x (IsAfter b.catalog.tables put gone c.catalog.tables) → OnOk x (Begins a kind new c)
    go (Ok done) after = record { put = put; gone = gone; plan = here; applied = subst (λ (j : Catalogued). IsAfter j.tables put gone c.catalog.tables) same after }
    go (Err e) after = tt

-- for want of space the operation was given back, or couldn't be
pub homes_back : (old new : MountedGroup) (extents : NewExtents) (s t : BayState) (e r : Refusal) → SpaceCause old extents e → IsGivenBack new
    → (r ≡ e) ⊎ StatusCause old new s t r → HomesCause old extents new s t r
homes_back old new extents s t e r space given why =
    ⊎_elim
    (λ same. inl (subst (λ (v : Refusal). SpaceCause old extents v) (sym same) space, given))
    (λ because. inr because)
    why
