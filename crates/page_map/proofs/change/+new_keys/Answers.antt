use Rattle.std.proofs.Common.{rules, ◌≡◌, ◌-◌, List, true, false, length, take, drop, sym, subst}
use Rattle.std.specs.Prelude.{◌&&◌, is_some}
use Rattle.std.specs.Map.{lookup}
use Rattle.allocator.specs.asm_base.Records.{DirectoryRecord, is_key}
use Rattle.page_map.specs.Changes.{is_put}
use Rattle.page_map.specs.Tables.{is_new}
use Rattle.page_map.proofs.Changing.{first_and_rest, keys_more, keys_same}
use Rattle.page_map.proofs.change.+new_keys.Goals as goal

pub returns-in-Ok-clause-keys : goal.returns-in-Ok-clause-keys
returns-in-Ok-clause-keys t c =
    let first : DirectoryRecord = c.first-item.result in
    let rest : List DirectoryRecord = take (length c.args.put.now - 1) (drop 1 c.args.put.now) in
    let new : is_new c.args.map.now first.0 ≡ true = search rules in
    λ k. subst (λ (xs : List DirectoryRecord). is_some (lookup (is_key k) c.insert.new.self.entries) ≡ (is_new c.args.map.now k && is_put xs k)) (sym (first_and_rest c.args.put.now first c.in-len1-up.len_at_least c.first-item.is))
    (keys_more c.args.map.now first.0 rest c.new_keys.new.keys.entries c.insert.new.self.entries new c.in-Ok.ensures.updates.0 c.in_ok-new_keys.ensures.keys k)

pub returns-then-not-is_new-clause-keys : goal.returns-then-not-is_new-clause-keys
returns-then-not-is_new-clause-keys t c =
    let first : DirectoryRecord = c.first-item.result in
    let rest : List DirectoryRecord = take (length c.args.put.now - 1) (drop 1 c.args.put.now) in
    let old : is_new c.args.map.now first.0 ≡ false = search rules in
    λ k. subst (λ (xs : List DirectoryRecord). is_some (lookup (is_key k) c.new_keys.new.keys.entries) ≡ (is_new c.args.map.now k && is_put xs k)) (sym (first_and_rest c.args.put.now first c.in-len1-up.len_at_least c.first-item.is))
    (keys_same c.args.map.now first.0 rest c.new_keys.new.keys.entries old c.in_ok-new_keys.ensures.keys k)
