pub mod FramesOut
