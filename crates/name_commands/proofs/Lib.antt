pub mod AskedEdits
pub mod EditPlans
pub mod EditedGroups
pub mod RefusedEdits
