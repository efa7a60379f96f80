mod GrowLemmas
mod GoLemmas
mod StopLemmas
