-- Where cd goes, by the parts of its path.
use Rattle.std.proofs.Common.{◌≡◌, ◌⊎◌, ⊎_elim, inl, inr, List, [], ◌∷◌, Some, Result, Ok, Err, sym, ap, subst}
use Rattle.std.specs.Prelude.{IfErr, IfOk}
use Rattle.std.proofs.lemmas.Option.{same_Some}
use Rattle.refusal_lines.specs.declared.refusal.Refusal.{Refusal}
use Rattle.refusal_lines.specs.declared.refusal.Refusal.TheVariants as cause
use Rattle.asm_group.specs.Names.{Bytes, Path}
use Rattle.asm_world.specs.Paths.{parts_of}
use Rattle.session.specs.group_engine.Mounts.{MountedGroup}
use Rattle.group_reports.specs.Places.{directory_at}
use Rattle.report_commands.specs.Going.{IsDirectoryOf, IsGoingCauseBy, IsLedBy}
use Rattle.session.specs.Naming.{IsGroupOf}
use Rattle.session.specs.Sessions.{SessionView}

in_parts : (parts : List Bytes) (name : Bytes) (path : Path) → Some (name, path) ≡ parts_of (Some parts) → parts ≡ name ∷ path
in_parts [] name path is = absurd cc
in_parts (first ∷ rest) name path is =
    ap (λ (p : Bytes × Path). p.0 ∷ p.1) (sym (same_Some {A = Bytes × Path} (name, path) (first, rest) is))

-- in a mounted group
module _ (session : SessionView) (parts : List Bytes) (name : Bytes) (path : Path) (is : Some (name, path) ≡ parts_of (Some parts)) (m : MountedGroup) (group : IsGroupOf session name m) where
  led_there : (result : Result (List Bytes) Refusal) → IfOk result (IsDirectoryOf m path) → IfOk result (IsLedBy session (Some (name ∷ path)))
  led_there (Ok place) directory = (m, group, directory)
  led_there (Err refusal) none = tt

  pub led_within : (result : Result (List Bytes) Refusal) → IfOk result (IsDirectoryOf m path) → IfOk result (IsLedBy session (Some parts))
  led_within result directory = subst (λ (l : List Bytes). IfOk result (IsLedBy session (Some l))) (sym (in_parts parts name path is)) (led_there result directory)

  refused_there : (result : Result (List Bytes) Refusal) → IfErr result (λ refusal. (directory_at m.catalog.tables path ≡ Err refusal) ⊎ (refusal ≡ cause.NoMemory))
      → IfErr result (λ refusal. (refusal ≡ cause.NoMemory) ⊎ IsGoingCauseBy session (Some (name ∷ path)) refusal)
  refused_there (Ok place) none = tt
  refused_there (Err refusal) why = ⊎_elim (λ none. inr (inr (record { group = m; is_group = group; caused = none }))) (λ want. inl want) why

  pub refused_within : (result : Result (List Bytes) Refusal) → IfErr result (λ refusal. (directory_at m.catalog.tables path ≡ Err refusal) ⊎ (refusal ≡ cause.NoMemory))
      → IfErr result (λ refusal. (refusal ≡ cause.NoMemory) ⊎ IsGoingCauseBy session (Some parts) refusal)
  refused_within result why =
      subst (λ (l : List Bytes). IfErr result (λ refusal. (refusal ≡ cause.NoMemory) ⊎ IsGoingCauseBy session (Some l) refusal)) (sym (in_parts parts name path is)) (refused_there result why)
