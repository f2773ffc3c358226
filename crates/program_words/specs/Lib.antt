pub mod Asked
pub mod Conduct
pub mod Errors
