pub mod DecisionApplies
pub mod MoveParts
