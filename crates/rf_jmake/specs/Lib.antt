pub mod Called
pub mod ExprMade
pub mod StmtMade
pub mod Continuations
