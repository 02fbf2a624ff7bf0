-- What crates above cite of the proofs of `group_engine`.
pub use Rattle.group_engine.proofs.Bytes
pub use Rattle.group_engine.proofs.Calls
pub use Rattle.group_engine.proofs.Causes
pub use Rattle.group_engine.proofs.Cuts
pub use Rattle.group_engine.proofs.Elsewhere
pub use Rattle.group_engine.proofs.Endings
pub use Rattle.group_engine.proofs.Images
pub use Rattle.group_engine.proofs.Including
pub use Rattle.group_engine.proofs.KeptRecords
pub use Rattle.group_engine.proofs.Members
pub use Rattle.group_engine.proofs.Mounting
pub use Rattle.group_engine.proofs.NextRecords
pub use Rattle.group_engine.proofs.Records
pub use Rattle.group_engine.proofs.Sets
pub use Rattle.group_engine.proofs.Slots
pub use Rattle.group_engine.proofs.Standings
