pub mod DeclMade
pub mod DeclTests
pub mod Files
pub mod HeadReads
pub mod MemberReads
pub mod UnitReads
