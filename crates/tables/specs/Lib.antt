pub mod Cells
pub mod Sums
pub mod Columns
pub mod Texts
pub mod Fields
pub mod Left
pub mod Rows
