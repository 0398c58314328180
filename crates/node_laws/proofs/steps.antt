pub mod StepWalks
