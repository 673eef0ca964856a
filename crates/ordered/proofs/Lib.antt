pub mod NodeLaws
pub mod Alike
pub mod MapLaws
pub mod GraphLaws
pub mod LayLaws
pub mod LayTurns
pub mod JudgeLaws
