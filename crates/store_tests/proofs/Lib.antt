pub mod PutLast
mod Trying
