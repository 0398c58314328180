pub mod OnLinks
