-- The worked runs, computed.
use Rattle.std.proofs.Common.{◌++◌, List, refl, inr, arith}
use Rattle.asm_formats.specs.Sets.{has_bit, elements}
use Rattle.asm_formats.specs.Status.{entry_of, is_entry, is_status}
use Rattle.asm_formats.specs.Following.{disks_of, sets_of}
use Rattle.register_machine.specs.Machine.{Event, AreAllowed, after_all, start}
use Rattle.register_machine.specs.Rows.{creation, one_holder, two_mounts, all_moved, OneHolderRow, TwoMountsRow, HoldersMoveRow}

-- what may come after the creation
after_creation : (events : List Event) → AreAllowed (after_all start creation) events → AreAllowed start (creation ++ events)
unfolding sets_of disks_of entry_of elements has_bit is_status is_entry
after_creation events h = ((refl, refl), (refl, (refl, (refl, ((refl, refl), ((refl, (refl, refl)), (refl, (refl, (refl, ((refl, refl), h))))))))))

pub one_holder_row : OneHolderRow
unfolding sets_of disks_of entry_of elements has_bit is_status is_entry
one_holder_row = record {
  allowed = after_creation one_holder (
    (refl, (refl, omega arith, refl)),
    (
      refl,
      (
        tt,
        ((refl, refl), (refl, (refl, (refl, ((refl, refl), ((refl, (refl, refl)), (refl, (refl, ((refl, refl), (tt, tt)))))))))),
      ),
    ),
  );
  with_its_holder = refl;
  without_it = refl;
  second_wins = refl;
}

pub two_mounts_row : TwoMountsRow
unfolding sets_of disks_of entry_of elements has_bit is_status is_entry
two_mounts_row = record {
  allowed = after_creation two_mounts (
    tt,
    (
      (refl, refl),
      (
        refl,
        (
          refl,
          (
            refl,
            (
              (refl, refl),
              (
                (refl, (refl, refl)),
                (
                  refl,
                  (
                    tt,
                    ((refl, refl), (refl, (refl, (refl, ((refl, refl), ((refl, (refl, refl)), (refl, (refl, ((refl, refl), (tt, tt)))))))))),
                  ),
                ),
              ),
            ),
          ),
        ),
      ),
    ),
  );
  second_wins = refl;
}

pub two_sets_row : HoldersMoveRow
unfolding sets_of disks_of entry_of elements has_bit is_status is_entry
two_sets_row = record {
  allowed = after_creation all_moved (
    (refl, (refl, omega arith, refl)),
    (
      refl,
      (
        refl,
        (
          refl,
          (
            (refl, refl),
            (
              (refl, (refl, omega arith, refl)),
              (
                refl,
                (
                  refl,
                  (
                    refl,
                    (
                      refl,
                      (
                        (refl, refl),
                        ((refl, (refl, omega arith, inr refl)), (refl, (refl, (refl, ((refl, refl), tt))))),
                      ),
                    ),
                  ),
                ),
              ),
            ),
          ),
        ),
      ),
    ),
  );
  first_set_alone = refl;
  both_sets = refl;
  one_of_three = refl;
  two_of_three = refl;
}
