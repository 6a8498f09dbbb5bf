pub mod FrontMatches
pub mod HitLaws
