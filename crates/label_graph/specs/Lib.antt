pub mod Graph
pub mod GraphLaws
pub mod Images
pub mod Heaviest
pub mod Cuts
pub mod ImageLaws
pub mod inner
pub mod Worked
