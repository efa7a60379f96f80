pub mod BitLemmas
pub mod EachLemmas
pub mod EvalLemmas
pub mod LoadedLemmas
pub mod OperandLemmas
pub mod PassLemmas
pub mod TextLemmas
