pub mod Senders
pub mod Votes
pub mod GroupVotes
pub mod Sharing
pub mod Groups
pub mod Boards
