pub mod KeptValues
pub mod KeptBlocks
pub mod KeptStatements
