pub mod BlockAt
pub mod StmtGives
pub mod StmtMade
pub mod StmtParts
pub mod StmtReads
pub mod StmtStops
pub mod StmtTests
pub mod VarReads
