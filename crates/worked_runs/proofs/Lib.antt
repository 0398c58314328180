mod PlaysLemmas
mod SettledRows
