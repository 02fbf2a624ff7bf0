use Rattle.std.proofs.Common.{◌≡◌, ℕ, true, refl, sym, ap, subst}
use Rattle.asm_formats.specs.Status.{Status, have_entries}
use Rattle.record_laws.specs.group_engine.Dropping.{IsWithout}
use Rattle.record_laws.proofs.group_engine.Records.{record_parts}
use Rattle.record_laws.proofs.group_engine.Sets.{bit_element, is_less, left_have_entries}
use Rattle.disk_modes.specs.Records.{HasFewer}
use Rattle.disk_modes.proofs.records.without_copies.Goals as goal

pub returns-clause-status : goal.returns-clause-status
returns-clause-status c =
    let v = c.args.status.now in
    let left = c.without-left.result in
    let all : c.status.inside.dirs ≡ v.directories = ap (λ (s : Status). s.directories) c.status.view_is in
    let less : IsWithout left v.directories c.args.gone = subst (λ (n : ℕ). IsWithout left n c.args.gone) all c.without-left.ensures in
    let have : have_entries v.entries left ≡ true = left_have_entries v.entries left v.directories (λ d h. bit_element left v.directories d h (is_less left v.directories c.args.gone less d h).0)
    (record_parts v c.requires).have_directories in
    c.with_dirs.ensures.kept c.requires have

pub returns-clause-fewer : goal.returns-clause-fewer
returns-clause-fewer c =
    let v = c.args.status.now in
    let left = c.without-left.result in
    let all : c.status.inside.dirs ≡ v.directories = ap (λ (s : Status). s.directories) c.status.view_is in
    let less : IsWithout left v.directories c.args.gone = subst (λ (n : ℕ). IsWithout left n c.args.gone) all c.without-left.ensures in
    subst (λ (s : Status). HasFewer v s) (sym c.with_dirs.ensures.value)
    (record { same = refl; fewer = λ d h. bit_element left v.directories d h (is_less left v.directories c.args.gone less d h).0 })

pub returns-clause-left : goal.returns-clause-left
returns-clause-left c =
    let v = c.args.status.now in
    let left = c.without-left.result in
    let all : c.status.inside.dirs ≡ v.directories = ap (λ (s : Status). s.directories) c.status.view_is in
    subst (λ (s : Status). IsWithout s.directories v.directories c.args.gone) (sym c.with_dirs.ensures.value) (subst (λ (n : ℕ). IsWithout left n c.args.gone) all c.without-left.ensures)
