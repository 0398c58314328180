pub mod keeping
