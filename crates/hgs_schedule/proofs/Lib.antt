pub mod FrontLemmas
pub mod PlayLemmas
pub mod ReadLemmas
pub mod ScheduleBack
pub mod ScheduleFound
pub mod TextLemmas
