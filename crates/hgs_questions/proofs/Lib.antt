pub mod AnswerLemmas
pub mod TellLemmas
