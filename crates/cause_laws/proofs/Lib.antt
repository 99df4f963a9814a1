pub mod LegalCauses
