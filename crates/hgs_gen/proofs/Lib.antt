mod ChangeLemmas
mod PathLemmas
mod PutLemmas
