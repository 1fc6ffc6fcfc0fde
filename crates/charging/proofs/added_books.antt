-- Books that are added later leave what was before them alike.
pub mod EarlyDecisions
pub mod EarlyHistories
pub mod EarlyLedgers
pub mod EarlyOutcomes
pub mod EarlyRows
pub mod JoinedRuns
