-- An image that is sound under an id stays so where the disks of its members stay, whatever happens to others.
use Rattle.group_files.proofs.group_engine.Spared.{sound_stays}
use Rattle.edit_laws.specs.Edits.{SparedIsSound}

pub spared_is_sound : SparedIsSound
spared_is_sound slots id groups completed begun x y spares before = sound_stays id x y spares groups completed begun slots before
