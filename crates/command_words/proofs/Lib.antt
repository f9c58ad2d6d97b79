pub mod LineFacts
pub mod Numbers
pub mod ValuesUnder
pub mod Limits
