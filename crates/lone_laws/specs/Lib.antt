pub mod alone
