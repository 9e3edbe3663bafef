pub mod BlockLines
pub mod Endings
pub mod OneEnds
pub mod OneFlaws
pub mod OneTexts
pub mod PeLines
pub mod RefinedTexts
pub mod RightTexts
