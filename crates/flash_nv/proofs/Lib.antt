mod Words
pub mod PutLemmas
pub mod ContentLemmas
pub mod MapLemmas
pub mod PageLemmas
pub mod ScanLemmas
