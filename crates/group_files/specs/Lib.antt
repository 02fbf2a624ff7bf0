pub mod Edits
pub mod GroupEdits
pub mod alias_edits
pub mod catalog_tables
pub mod group_engine
pub mod group_of
pub mod template_directory
