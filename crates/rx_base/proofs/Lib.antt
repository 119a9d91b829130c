pub mod Composing
pub mod Budgets
