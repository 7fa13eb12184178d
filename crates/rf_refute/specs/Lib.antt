pub mod Trees
pub mod Good
pub mod Numbers
pub mod Stacks
pub mod Shown
