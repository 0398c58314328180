pub mod Shapes
pub mod Runs
pub mod Near
pub mod Exact
