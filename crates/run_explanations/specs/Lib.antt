pub mod Tops
pub mod Seeing
pub mod Reading
pub mod Playing
pub mod Searching
pub mod Explanations
pub mod Checking
pub mod Laws
