-- Attached disks of a record's sets are members that were claimed on.
use Rattle.std.proofs.Common.{ℕ, zero, suc, ◌≤◌, ◌&&◌, ◌||◌, ◌==◌, List, [], ◌∷◌, length, get_or, Option, Some, replicate, None, arith}
use Rattle.std.proofs.lemmas.Bool.{cond_both}
use Rattle.std.proofs.lemmas.List.{length-append}
use Rattle.asm_formats.specs.Status.{Status}
use Rattle.asm_formats.specs.Among.{IsAmong}
use Rattle.asm_formats.specs.Sets.{has_bit}
use Rattle.status_register.specs.Holders.{attached_to, holder_in, holders_below, is_of}
use Rattle.status_register.specs.Registered.{AreNumbered, all_placed}
use Rattle.status_register.specs.declared.member.Member.{Member}
use Rattle.status_register.proofs.Holding.{among_below}
use Rattle.status_register.proofs.Placing.{placed_is}

module _ (read next : Status) (ms : List Member) (small : AreNumbered ms) where
  abbrev places : List (Option Member)
  places = all_placed read.entries (replicate 64 None) ms

  pub attached_among : (m : Member) → IsAmong (attached_to places next) m → IsAmong ms m
  attached_among m h = let f = among_below places next 64 m h in (placed_is read.entries ms f.0 m small f.2.there).0

-- ---- at most one disk a number

one_holder : (r : Status) (d : ℕ) (o : Option Member) → length (holder_in r d o) ≤ 1
one_holder r d None = omega arith
one_holder r d (Some m) =
    cond_both ((has_bit r.holders d || has_bit r.next_holders d) && ((m.number == d) && is_of r.entries m)) (m ∷ []) [] (λ (l : List Member). length l ≤ 1)
    (λ yes_. omega arith) (λ no_. omega arith)

pub few_holders : (places : List (Option Member)) (r : Status) (n : ℕ) → length (holders_below places r n) ≤ n
unfolding holders_below
few_holders places r zero = omega arith
few_holders places r (suc d) = omega (
  arith,
  length-append (holder_in r d (get_or places d None)) (holders_below places r d),
  one_holder r d (get_or places d None),
  few_holders places r d,
)
