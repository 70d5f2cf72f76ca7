pub mod Limits
pub mod Tool
pub mod StandinText
pub mod Standin
pub mod StandinReads
pub mod MemTool
pub mod StandinLaws
