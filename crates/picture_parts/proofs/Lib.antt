pub mod Parts
pub mod Laying
pub mod Leads
