-- What contracts cite: the front as a function and as a relation, the pass that finds it; the front's hull, and the
-- steps that are compared for it.
pub mod Front
pub mod Hull
pub mod Pareto
pub mod Passing
pub mod Steps
pub mod Spans
pub mod SpanLaws
pub mod Percent
