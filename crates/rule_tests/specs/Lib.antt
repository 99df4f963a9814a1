pub mod Desktops
