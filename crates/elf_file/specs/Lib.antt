pub mod Terms
pub mod Written
pub mod ProgramFile
pub mod Refusals
pub mod RefusedFields
