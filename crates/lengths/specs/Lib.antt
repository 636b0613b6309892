pub mod Figures
pub mod Whole
pub mod Pairs
pub mod WholeLaws
pub mod PairLaws
pub mod Order
