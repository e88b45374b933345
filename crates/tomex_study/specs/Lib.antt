-- Definitions that contracts cite: watched ranges, programs that end, studies, those with fewer programs, the cycles of
-- their configurations, their rows and front, the choices of their lists.
pub mod Watch
pub mod Program
pub mod Study
pub mod Selection
pub mod Cycles
pub mod StudyFront
pub mod Surveyed
pub mod Choices
pub mod ListFindings
