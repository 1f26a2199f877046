pub mod Subscriptions
