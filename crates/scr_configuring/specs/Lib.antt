pub mod ConfigRefusals
