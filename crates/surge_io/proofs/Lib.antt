pub mod Appending
pub mod ByteLaws
pub mod Chains
pub mod FieldTexts
pub mod Passing
pub mod Taking
