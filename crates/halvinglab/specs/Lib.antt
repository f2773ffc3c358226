pub mod HelpText
pub mod Requests
pub mod Reasons
pub mod Answers
pub mod NodeWord
pub mod Conduct
pub mod Worked
