-- What holds in each case of a value holds; each case knows that the value is its own.
pub use Rattle.link_laws.proofs.Cases.{by_list, by_option, by_some, by_test}
