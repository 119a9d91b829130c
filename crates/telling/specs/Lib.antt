pub mod Items
pub mod Places
pub mod Sightings
pub mod Faults
