use Rattle.std.proofs.Common.{◌++◌, ℕ, List, take, ap, sym, ◌∙◌}
use Rattle.std.specs.Prelude.{codes}
use Rattle.std.proofs.lemmas.Option.{none-some, same_Some}
use Rattle.mounted_groups.proofs.Choosing.{first_name, read_name}
use Rattle.mounted_groups.proofs.choose.first_disk_name.Goals as goal

pub unreachable-requires : goal.unreachable-requires
unreachable-requires c =
    let e = c.deref.ensures.value ∙ (c.in_ok-bytes.ensures ∙ ap (λ (l : List ℕ). l ++ codes "_0000") (c.front.ensures ∙ ap (λ (l : List ℕ). take 25 l) c.as_bytes.ensures.bytes)) in
    none-some c.deref.result.now (sym c.in-None.is ∙ (c.in_ok-disk.ensures ∙ read_name c.args.group.now c.deref.result.now e c.requires))

pub returns-clause-named : goal.returns-clause-named
returns-clause-named c =
    let e = c.deref.ensures.value ∙ (c.in_ok-bytes.ensures ∙ ap (λ (l : List ℕ). l ++ codes "_0000") (c.front.ensures ∙ ap (λ (l : List ℕ). take 25 l) c.as_bytes.ensures.bytes)) in
    same_Some c.in-Some.disk c.deref.result.now (sym c.in-Some.is ∙ (c.in_ok-disk.ensures ∙ read_name c.args.group.now c.deref.result.now e c.requires)) ∙ e

pub returns-clause-name : goal.returns-clause-name
returns-clause-name c =
    let e = c.deref.ensures.value ∙ (c.in_ok-bytes.ensures ∙ ap (λ (l : List ℕ). l ++ codes "_0000") (c.front.ensures ∙ ap (λ (l : List ℕ). take 25 l) c.as_bytes.ensures.bytes)) in
    first_name c.args.group.now c.in-Some.disk (same_Some c.in-Some.disk c.deref.result.now (sym c.in-Some.is ∙ (c.in_ok-disk.ensures ∙ read_name c.args.group.now c.deref.result.now e c.requires)) ∙ e) c.requires
