pub mod DeniedCalls
pub mod DenialLaws
