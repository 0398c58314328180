pub mod FirstFrames
