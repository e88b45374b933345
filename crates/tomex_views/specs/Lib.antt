-- The texts of a study's views, and when there is none.
pub mod StudyViews
pub mod FindLaws
pub mod PricesLaws
