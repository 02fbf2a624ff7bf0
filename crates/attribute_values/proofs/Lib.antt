pub mod RepairLaws
pub mod VersionLaws
pub mod SettingLaws
pub mod NumberLaws
pub mod CreationLaws
pub mod asm_grammar
pub mod template_directory
