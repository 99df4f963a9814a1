mod Owned
mod RegisteredServices
mod Served
