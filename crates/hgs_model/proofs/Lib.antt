pub mod AnswerLemmas
pub mod FrontLemmas
pub mod DigitLemmas
pub mod AncestorFrontLemmas
