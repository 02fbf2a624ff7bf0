use Rattle.std.proofs.Common.{rules, ap, arith, ◌-◌, ◌<◌, List, length, take, drop, subst, inl, inr, refl}
use Rattle.asm_formats.specs.Among.{IsAmong}
use Rattle.mounted_groups.specs.group_recovery.declared.finding.Headed.{Headed}
use Rattle.directory_store.proofs.page_map.Changing.{first_and_rest}
use Rattle.new_groups.proofs.lists.+put_numbers.Goals as goal

pub bounds-places-first-inside : goal.bounds-places-first-inside
bounds-places-first-inside t c =
    let first : Headed = c.first-item.result in
    let all = subst (λ (l : List Headed). (h : Headed) → IsAmong l h → h.header.number < 64) (first_and_rest c.args.disks.now first c.in-len1-up.len_at_least c.first-item.is) c.requires in
    let small : first.header.number < 64 = all first (inl refl) in
    omega (arith, small, ap (λ (h : Headed). h.header.number) c.first.view_is)

pub put_numbers-requires : goal.put_numbers-requires
put_numbers-requires t c =
    let first : Headed = c.first-item.result in
    let rest = take (length c.args.disks.now - 1) (drop 1 c.args.disks.now) in
    let all = subst (λ (l : List Headed). (h : Headed) → IsAmong l h → h.header.number < 64) (first_and_rest c.args.disks.now first c.in-len1-up.len_at_least c.first-item.is) c.requires in
    let later : (h : Headed) → IsAmong rest h → h.header.number < 64 = λ h among. all h (inr among) in
    search rules
