-- Definitions that contracts cite: windows, images, and ELF files.
pub mod Window
pub mod Image
pub mod Tests
pub mod FileHeader
pub mod ProgramHeader
pub mod ElfTests
pub mod Placing
pub mod Loading
pub mod Standing
