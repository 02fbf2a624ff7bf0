pub mod RuledBays
pub mod RuledSound
pub mod Untold
