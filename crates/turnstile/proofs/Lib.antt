pub mod RuleKept
pub mod ViewLemmas
