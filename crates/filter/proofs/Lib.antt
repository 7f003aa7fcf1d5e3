pub mod WeightLaws
pub mod GaborLaws
pub mod EpfLaws
pub mod FilterLaws
pub mod PatternLaws
pub mod Columns
