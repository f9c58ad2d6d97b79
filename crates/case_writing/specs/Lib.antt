pub mod CaseText
pub mod Named
