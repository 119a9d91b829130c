pub mod Terms
pub mod TextLines
pub mod JsonLines
pub mod Report
