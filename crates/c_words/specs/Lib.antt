pub mod Status
pub mod Answers
pub mod Records
pub mod Layouts
pub mod Contents
pub mod Heading
