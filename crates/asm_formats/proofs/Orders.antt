-- The order of status records, and which may follow which.
use Rattle.std.proofs.Common.{◌≡◌, inl, ◌^◌, ◌<◌, Bool, true, false, cond, ◌==◌, List, [], ◌∷◌, refl, subst, sym, arith}
use Rattle.std.specs.Prelude.{nat_lt}
use Rattle.std.proofs.lemmas.Bool.{and_parts, ltb-true}
use Rattle.asm_formats.specs.Status.{Status, is_status}
use Rattle.asm_formats.specs.Following.{Holder, disks_of, sets_of, sets, FollowsSets, Follows, IsRanked}

turn_below : (r : Status) → is_status r ≡ true → r.turn < 2 ^ 64
unfolding is_status
turn_below r ok =
    let a = and_parts (nat_lt r.id (2 ^ 64)) _ ok in
    let b = and_parts (nat_lt r.epoch (2 ^ 64)) _ a.1 in
    ltb-true r.turn (2 ^ 64) (and_parts (nat_lt r.turn (2 ^ 64)) _ b.1).0

pub is_ranked : IsRanked
is_ranked = record {
  by_epoch = λ r s ok lt. omega (arith, turn_below r ok, lt);
  by_turn = λ r s same lt. omega (arith, same, lt);
  exact = λ r s a b same. (omega (arith, turn_below r a, turn_below s b, same), omega (arith, turn_below r a, turn_below s b, same));
}

-- one or two sets follow themselves
own_sets : (holders next : List Holder) (alone : Bool) → FollowsSets (holders ∷ cond alone [] (next ∷ [])) (holders ∷ cond alone [] (next ∷ []))
own_sets holders next true = refl
own_sets holders next false = inl refl

pub same_sets_follow : (v r : Status) → sets r ≡ sets v → Follows v r
unfolding sets_of
same_sets_follow v r e =
    subst (FollowsSets (sets v)) (sym e) (own_sets (disks_of v.entries v.holders) (disks_of v.entries v.next_holders) (v.next_holders == 0))
