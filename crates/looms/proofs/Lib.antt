pub mod Goes
pub mod Listed
