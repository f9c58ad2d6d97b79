pub mod Bounds
pub mod FieldLimits
pub mod Judged
pub mod PartsSaid
pub mod PartLimits
pub mod SingleLimits
pub mod TableLimits
