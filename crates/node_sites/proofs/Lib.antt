mod Words
pub mod Numbered
pub mod Powers
pub mod Links
pub mod Arrivals
pub mod FramesGoOut
pub mod NodesRun
