pub mod Whitelist
