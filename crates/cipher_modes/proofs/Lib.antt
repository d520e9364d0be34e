mod Common
pub mod InPlace
pub mod Chaining
pub mod CounterBlocks
pub mod PaddingRules
pub mod PaddedTexts
