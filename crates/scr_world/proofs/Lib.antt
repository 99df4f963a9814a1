pub mod LastCallbacks
