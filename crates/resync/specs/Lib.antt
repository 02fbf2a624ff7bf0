pub mod Copying
pub mod Syncing
pub mod catalog
pub mod catalog_tables
pub mod group_engine
pub mod group_pieces
pub mod rebalance
pub mod status_register
