mod Places
mod AheadLemmas
