pub mod CutLaws
pub mod Cuts
pub mod FirstEnds
pub mod Holds
pub mod Parts
