pub mod ReadLemmas
pub mod UndoSteps
pub mod LeadLemmas
pub mod Steps
pub mod BegunLemmas
pub mod FileLemmas
pub mod PathLemmas
pub mod SampleLemmas
