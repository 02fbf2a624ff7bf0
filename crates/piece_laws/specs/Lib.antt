pub mod Targets
pub mod PieceLaws
pub mod SpareLaws
pub mod Walks
pub mod FileSpans
pub mod Rewriting
