mod DiskLemmas
mod LeftLemmas
mod LawLemmas
