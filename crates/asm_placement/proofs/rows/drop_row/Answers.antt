use Rattle.std.proofs.Common.{refl}
use Rattle.asm_formats.specs.Regions.{reserved_units}
use Rattle.asm_formats.specs.Sets.{has_bit, elements}
use Rattle.asm_formats.specs.Status.{entry_of}
use Rattle.asm_placement.specs.Layout.{units_of}
use Rattle.asm_placement.specs.Tables.{head_of, is_stale, marks_in}
use Rattle.asm_placement.specs.Placed.{placed}
use Rattle.asm_placement.specs.DiskSets.{with_bit}
use Rattle.asm_placement.specs.TableDisks.{table_set, directory_set, is_status_move_due, directory_target}
use Rattle.asm_placement.specs.Partners.{partners, are_partners, partner_set}
use Rattle.asm_placement.specs.Space.{used_units, lowest_run, tried_first, share}
use Rattle.asm_placement.specs.Choices.{disks_for, homes_for, is_eligible, replacement}
use Rattle.asm_placement.specs.Copies.{all_copies}
use Rattle.asm_placement.specs.Rebalancing.{balancing, next}
use Rattle.asm_placement.specs.Moves.{with_home, with_current, without_bit}
use Rattle.asm_placement.proofs.rows.drop_row.Goals as goal

pub returns : goal.returns
unfolding next all_copies head_of is_stale marks_in has_bit entry_of replacement balancing is_eligible tried_first used_units lowest_run placed reserved_units units_of share directory_target is_status_move_due elements table_set directory_set with_bit partner_set partners are_partners homes_for disks_for with_home with_current without_bit
returns c = record { first = refl; second = refl; all = (refl, refl) }
