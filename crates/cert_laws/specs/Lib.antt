pub mod Needs
pub mod Rules
pub mod Shown
pub mod Worked
pub mod Exact
