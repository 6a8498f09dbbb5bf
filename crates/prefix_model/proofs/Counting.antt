pub mod CountLaws
pub mod Totals
pub mod NodeCoverage
pub mod NodeViews
pub mod NodeCounts
