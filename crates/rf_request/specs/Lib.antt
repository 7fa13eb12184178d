pub mod Choices
pub mod Forms
pub mod Numbers
pub mod Opened
pub mod Requests
pub mod Sorts
pub mod Targets
pub mod Words
