mod ClashLemmas
mod WrittenLemmas
mod DoneLemmas
