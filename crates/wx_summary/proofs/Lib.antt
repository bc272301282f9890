mod MapLemmas
mod OrderLemmas
mod PairLemmas
mod SetLemmas
