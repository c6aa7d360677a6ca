pub mod GateLists
