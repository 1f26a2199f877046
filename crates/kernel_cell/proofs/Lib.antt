pub mod EntryEffects
pub mod Programs
pub mod RecordedSteps
pub mod RecordedForks
pub mod MadeThreads
pub mod PassOutcomes
pub mod Begins
pub mod Sharing
