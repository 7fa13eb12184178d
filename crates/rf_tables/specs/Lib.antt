pub mod PackageTexts
pub mod TypeKeys
