pub mod ShortLinks
