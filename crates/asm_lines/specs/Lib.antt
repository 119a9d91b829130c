pub mod Bytes
pub mod Lines
pub mod Numbers
pub mod Registers
pub mod Mnemonics
pub mod Statements
pub mod Flaws
pub mod Tables
