-- What is told of disks under rules is sound.
use Rattle.bay.specs.State.{IsSound}
use Rattle.bay_mem.specs.Told as told
use Rattle.program_tests.specs.RuledBays.{ruled_bay_state}
use Rattle.program_tests.specs.declared.ruled_bay.RuledBay.{RuledBay}

pub ruled_bay_is_sound : (bay : RuledBay) → IsSound (ruled_bay_state bay)
ruled_bay_is_sound bay = record {
  held = λ image is. cc;
  told = λ image left. absurd left;
  fits = (told.sound bay.disks).fits;
  sized = λ slot size image is left. absurd left;
  past_end = λ slot k image left past. absurd left;
}
