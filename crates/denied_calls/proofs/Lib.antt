pub mod DeniedEntries
pub mod DenialLaws
