pub mod Conduct
pub mod Echoes
pub mod HelpText
pub mod Reasons
pub mod Requests
