-- Elements of lists, and members in a set of slots.
use Rattle.std.proofs.Common.{ℕ, Bool, List}
use Rattle.asm_formats.specs.Among.{IsAmong}
use Rattle.asm_images.specs.Members.{Member, within}
pub use Rattle.asm_placement.proofs.Membership.{among_left, among_right, among_split, among_filter, among_flat_map, flat_map_among, among_map, map_among, among_filtered, filter_out}

pub among_within : (slots : ℕ → Bool) (ms : List Member) (m : Member) → IsAmong (within slots ms) m → IsAmong ms m
unfolding within
among_within slots ms m h = among_filter (λ (m : Member). slots m.slot) ms m h
