pub mod ContextForms
pub mod Contexts
pub mod ContextOrder
pub mod Firsts
pub mod Rising
