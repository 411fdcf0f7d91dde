pub mod Kinds
pub mod MarkedCalendars
pub mod RuleCalendars
pub mod RuleDays
pub mod Spans
