pub mod Terms
mod Numbers
mod Listed
mod Arguing
mod Taking
pub mod Asking
mod Pieces
mod Walking
mod Cutting
mod Rows
mod Finding
mod Clapping
mod Readable
pub mod Ranges
mod Helped
