mod Words
pub mod Results
pub mod Notes
pub mod Wires
pub mod GoingOut
pub mod Damages
pub mod FirstFrames
