pub mod SameBlocks
