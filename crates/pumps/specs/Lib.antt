pub mod Pumps
