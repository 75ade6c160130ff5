pub mod Totals
pub mod AddFlows
pub mod JudgeFlows
pub mod Inner
