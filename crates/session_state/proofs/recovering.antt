pub mod TableLemmas
pub mod AdoptLemmas
pub mod RecoverLemmas
