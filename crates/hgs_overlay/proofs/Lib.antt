mod LayerLemmas
mod ReadLemmas
