pub mod Devices
pub mod Discharges
pub mod Orifices
