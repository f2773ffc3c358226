pub mod Traces
pub mod Shares
pub mod Strips
pub mod TracePictures
pub mod TraceSaid
pub mod TraceLaid
