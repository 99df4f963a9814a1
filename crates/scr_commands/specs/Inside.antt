pub mod Subjects
