-- The feed of the phone app: floats, gauge, what is sent and what is read back; and what is shown of them.
pub mod Floats
pub mod Gauge
pub mod Feed
pub mod Received
pub mod Promised
pub mod Examples
