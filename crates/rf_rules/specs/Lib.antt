pub mod RuleFiles
