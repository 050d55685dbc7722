pub mod Lists
pub mod Annotations
pub mod Numbers
pub mod Elements
pub mod Rows
