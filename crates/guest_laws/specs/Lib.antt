pub mod GuestLaws
