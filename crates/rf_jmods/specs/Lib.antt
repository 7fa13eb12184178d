pub mod ModReads
pub mod ModTests
